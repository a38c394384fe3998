-- `listing::begin_parts` meets its contract. Assumes nothing.
use Rattle.model.specs.Memory.{memory}
use Rattle.listing.specs.Fits.{Fits}
use Rattle.listing.proofs.OpenLaws.{begun-refused, begun-ready}
use Rattle.listing.proofs.begin_parts.Goals as goal

pub returns-in-Err : goal.returns-in-Err
unfolding Fits
returns-in-Err c = let a = c.args in
    (begun-refused a.size a.count a.words.now (memory a.nodes.now a.cells.now a.trail.now a.arrays.now a.workers.now) a.line.now _ _ c.load.ensures c.in-Err.field-0.0 c.in-Err.field-0.1 _ _ _ c.in-Err.is c.refusal_number-number.ensures c.requires.3 (rw c.unwrap.ensures at c.refused_line.ensures.0), rw c.unwrap.ensures at c.refused_line.ensures.1)

pub returns-in-Ok : goal.returns-in-Ok
unfolding Fits
returns-in-Ok c = let a = c.args in (begun-ready a.size a.count a.words.now (memory a.nodes.now a.cells.now a.trail.now a.arrays.now a.workers.now) a.line.now _ _ c.load.ensures c.in-Ok.is, (c.requires.0, c.requires.1))
