-- `words::group_size` meets its contract. Assumes nothing.
use Rattle.std.proofs.Common.{ap, ◌∙◌, ℕ, arith, get_or}
use Rattle.words.proofs.KeptLaws.{sizes, size-row}
use Rattle.words.proofs.TableLaws.{row-of}
use Rattle.words.proofs.group_size.Goals as goal

pub offset_bounds-row : goal.offset_bounds-row
offset_bounds-row c = omega (arith, (row-of c.args.kind).row)

pub returns : goal.returns
returns c = ap (λ (r : ℕ). get_or sizes r 0) c.row.ensures ∙ size-row c.args.kind
