-- `lines::ending_line` meets its contract. Assumes nothing.
use Rattle.lines.proofs.WholeLaws.{is-roomy, not-roomy, line-none, line-whole, name-short, spaced-short, ending-short, ending_of}
use Rattle.desk_model.specs.Lines.{ending_line, roomy}
use Rattle.std.proofs.Common.{arith}
use Rattle.lines.proofs.ending_line.Goals as goal

pub returns-then-line-lt1024 : goal.returns-then-line-lt1024
returns-then-line-lt1024 c = let a = c.args in line-none (roomy a.line.now) (ending_line a.ending a.steps) a.line.now (not-roomy a.line.now c.if-line-lt1024.true)

pub spaced-end-requires : goal.spaced-end-requires
spaced-end-requires c = omega (arith, c.ending_name-at.ensures.1, name-short c.args.ending)

pub overflow_add-result : goal.overflow_add-result
overflow_add-result c = omega (arith, c.spaced-end.ensures.1, c.ending_name-at.ensures.1, name-short c.args.ending, spaced-short c.args.steps (omega arith))

pub returns : goal.returns
returns c = let a = c.args in
    line-whole (roomy a.line.now) (ending_line a.ending a.steps) a.line.now _ _ (is-roomy a.line.now c.if-line-lt1024.false) (ending-short a.ending a.steps (omega arith)) c.if-line-lt1024.false
    (ending_of a.ending a.steps a.line.now _ _ _ _ _ c.ending_name-at.ensures c.spaced-end.ensures c.put.ensures)
