-- `listing::advance` meets its contract. Assumes nothing.
use Rattle.std.proofs.Common.{length-take, arith}
use Rattle.listing.proofs.StopLaws.{steps-fit, advanced-from}
use Rattle.listing.proofs.advance.Goals as goal

pub slice_bounds-array-end-2 : goal.slice_bounds-array-end-2
slice_bounds-array-end-2 c = simp length-take (omega arith)

pub overflow_add-result : goal.overflow_add-result
overflow_add-result c = let a = c.args in record { fits = steps-fit a.image.now a.query.now a.nodes.now a.cells.now a.trail.now a.arrays.now a.workers.now a.steps _ c.budget-left.ensures _ _ _ _ _ _ _ c.run-ended.ensures (omega arith) }

pub returns : goal.returns
returns c = let a = c.args in advanced-from a.image.now a.query.now a.nodes.now a.cells.now a.trail.now a.arrays.now a.workers.now a.steps _ c.budget-left.ensures _ _ _ _ _ _ _ c.run-ended.ensures _ c.stop_of-stop.ensures
