-- `listing::next_line` meets its contract. Assumes nothing.
use Rattle.model.specs.Memory.{memory}
use Rattle.listing.proofs.TellLaws.{next-no-arrays, next-no-room, next-told}
use Rattle.std.proofs.Common.{arith}
use Rattle.listing.proofs.next_line.Goals as goal

pub returns-then-arrays-ne8192 : goal.returns-then-arrays-ne8192
returns-then-arrays-ne8192 c = let a = c.args in next-no-arrays a.image.now a.query.now (memory a.nodes.now a.cells.now a.trail.now a.arrays.now a.workers.now) a.steps a.line.now c.if-arrays-ne8192.true

pub returns-then-line-lt1024 : goal.returns-then-line-lt1024
returns-then-line-lt1024 c = let a = c.args in next-no-room a.image.now a.query.now (memory a.nodes.now a.cells.now a.trail.now a.arrays.now a.workers.now) a.steps a.line.now (omega (arith, c.if-arrays-ne8192.false)) c.if-line-lt1024.true

pub returns : goal.returns
returns c = let a = c.args in
    next-told a.image.now a.query.now (memory a.nodes.now a.cells.now a.trail.now a.arrays.now a.workers.now) a.steps a.line.now _ _ _ c.stop_line-size.result _ c.line_answer.result (omega (arith, c.if-arrays-ne8192.false)) c.if-line-lt1024.false c.advance-reached.ensures (c.stop_line-size.ensures.0 _ _ _) c.stop_line-size.ensures.1 c.line_answer.ensures
