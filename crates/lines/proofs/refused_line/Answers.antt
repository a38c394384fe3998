-- `lines::refused_line` meets its contract. Assumes nothing.
use Rattle.lines.proofs.WholeLaws.{is-roomy, not-roomy, line-none, line-whole, spaced-short, refused-short, refused-of}
use Rattle.desk_model.specs.Lines.{refused_line, refused_name, roomy}
use Rattle.std.proofs.Common.{arith}
use Rattle.lines.proofs.refused_line.Goals as goal

pub returns-then-line-lt1024 : goal.returns-then-line-lt1024
returns-then-line-lt1024 c = let a = c.args in line-none (roomy a.line.now) (refused_line a.number a.position) a.line.now (not-roomy a.line.now c.if-line-lt1024.true)

pub spaced-end-requires : goal.spaced-end-requires
spaced-end-requires c = omega (arith, c.spaced-middle.ensures.1, spaced-short c.args.number (omega arith))

pub overflow_add-result : goal.overflow_add-result
overflow_add-result c = omega (arith, c.spaced-end.ensures.1, c.spaced-middle.ensures.1, spaced-short c.args.number (omega arith), spaced-short c.args.position (omega arith))

pub returns : goal.returns
unfolding refused_name
returns c = let a = c.args in
    line-whole (roomy a.line.now) (refused_line a.number a.position) a.line.now _ _ (is-roomy a.line.now c.if-line-lt1024.false) (refused-short a.number a.position (omega arith) (omega arith)) c.if-line-lt1024.false
    (refused-of a.number a.position a.line.now _ _ _ _ _ _ _ c.text-at.ensures c.spaced-middle.ensures c.spaced-end.ensures c.put.ensures)
