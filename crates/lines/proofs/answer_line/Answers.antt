-- `lines::answer_line` meets its contract. Assumes nothing.
use Rattle.std.proofs.Common.{◌&&◌, arith}
use Rattle.lines.proofs.WholeLaws.{line-none, line-whole, answer-no-room, answer-too-many, answer-fits, answer-short, answer-of}
use Rattle.lines.proofs.LineLaws.{decimal-short}
use Rattle.desk_model.specs.Lines.{answer_line, roomy, few_values}
use Rattle.lines.proofs.answer_line.Goals as goal

pub returns-then-line-lt1024 : goal.returns-then-line-lt1024
returns-then-line-lt1024 c = let a = c.args in line-none (roomy a.line.now && few_values a.words.now) (answer_line a.steps a.words.now) a.line.now (answer-no-room a.line.now a.words.now c.if-line-lt1024.true)

pub returns-then-words-gt64 : goal.returns-then-words-gt64
returns-then-words-gt64 c = let a = c.args in line-none (roomy a.line.now && few_values a.words.now) (answer_line a.steps a.words.now) a.line.now (answer-too-many a.line.now a.words.now c.if-words-gt64.true)

pub value_texts-requires : goal.value_texts-requires
value_texts-requires c = (omega (arith, c.decimal-at.ensures.1, decimal-short 9 c.args.steps (omega arith)), c.if-words-gt64.false)

pub returns : goal.returns
returns c = let a = c.args in
    line-whole (roomy a.line.now && few_values a.words.now) (answer_line a.steps a.words.now) a.line.now _ _ (answer-fits a.line.now a.words.now c.if-line-lt1024.false c.if-words-gt64.false) (answer-short a.steps a.words.now (omega arith) c.if-words-gt64.false) c.if-line-lt1024.false
    (answer-of a.steps a.words.now a.line.now _ _ _ _ c.decimal-at.ensures c.value_texts.ensures)
