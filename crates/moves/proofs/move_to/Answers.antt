-- `moves::move_to` meets its contract. Assumes nothing.
use Rattle.std.proofs.Common.{◌*◌}
use Rattle.std.proofs.Math.Nat.{add-sub_cancel_left}
use Rattle.moves.proofs.MoveLaws.{moved_by}
use Rattle.moves.proofs.move_to.Goals as goal

pub returns : goal.returns
returns c = let a = c.args in
    λ cells.
    moved_by a.nodes.now cells a.trail.now a.arrays.now a.workers.now a.worker a.target _ _ _ _ _
    (add-sub_cancel_left (2048 * a.worker) 2048) c.word_at-here.ensures c.move_array-passed.ensures c.put.ensures
