-- `desk_file::lay_file` meets its contract. Assumes nothing.
use Rattle.std.proofs.Common.{◌≡◌, ◌∙◌, sym, ap, arith}
use Rattle.desk_model.specs.Desk.{FileParts, laid}
use Rattle.desk_file.proofs.FileLaws.{parts_within, lay-no-room, lay-unfit, lay-fit}
use Rattle.desk_file.proofs.lay_file.Goals as goal

pub returns-then-words-lt1297 : goal.returns-then-words-lt1297
returns-then-words-lt1297 c = let a = c.args in lay-no-room a.bytes.now a.words.now c.if-words-lt1297.true

pub returns-in_err-size : goal.returns-in_err-size
returns-in_err-size c = let a = c.args in
    ap (λ (p : FileParts). laid p a.words.now) c.from_residual.ensures
    ∙ lay-unfit a.bytes.now a.words.now c.if-words-lt1297.false (sym c.in_err-size.was ∙ c.file_parts.ensures)

pub returns : goal.returns
returns c = let a = c.args in
    let part = c.in_ok-size in
    let is = sym part.was ∙ c.file_parts.ensures in
    let w = parts_within a.bytes.now part.size part.count is in
    let all : c.lay_words.result ≡ part.count = omega (arith, c.lay_words.ensures.laid, w.few, w.all, c.if-words-lt1297.false) in
    lay-fit a.bytes.now a.words.now part.size part.count _ c.if-words-lt1297.false is (rw all at c.lay_words.ensures.words)
