-- `moves::wipe` meets its contract. Assumes nothing.
use Rattle.moves.proofs.LoadLaws.{filled, same_memory}
use Rattle.moves.proofs.wipe.Goals as goal

pub returns : goal.returns
returns c = let a = c.args in
    let p = c.requires in
    same_memory (filled 256 a.nodes.now _ p.0 c.fill.ensures.after) (filled 2048 a.cells.now _ p.1 c.fill-2.ensures.after)
    (filled 2048 a.trail.now _ p.2 c.fill-3.ensures.after) (filled 8192 a.arrays.now _ p.3 c.fill-4.ensures.after) (filled 4 a.workers.now _ p.4 c.fill-5.ensures.after)
