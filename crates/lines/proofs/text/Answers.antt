-- `lines::text` meets its contract: what is copied to the front is what is written from place 0 on. Assumes nothing.
use Rattle.std.proofs.Common.{List, ℕ, ◌++◌, length, drop, refl, sym, ap, ◌∙◌}
use Rattle.lines.proofs.LineLaws.{written-front}
use Rattle.lines.proofs.text.Goals as goal

pub returns : goal.returns
returns c = let a = c.args in (
  ap (λ (l : List ℕ). l ++ drop (length a.bytes.now) a.line.now) c.copy_from_slice.ensures.after ∙ sym (written-front a.bytes.now a.line.now c.requires),
  refl,
)
