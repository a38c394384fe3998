-- `words::kept_field` meets its contract. Assumes nothing.
use Rattle.std.proofs.Common.{[], sym, ap, ◌∙◌, ℕ, arith, get_or}
use Rattle.words.proofs.KeptLaws.{kept, kept_row, kept-past}
use Rattle.words.proofs.TableLaws.{row-of}
use Rattle.words.proofs.kept_field.Goals as goal

pub returns-then-j-ge6 : goal.returns-then-j-ge6
returns-then-j-ge6 c = sym (kept-past c.args.kind c.args.j c.if-j-ge6.true)

pub offset_bounds-row : goal.offset_bounds-row
offset_bounds-row c = omega (arith, (row-of c.args.kind).row)

pub bounds-row-row : goal.bounds-row-row
bounds-row-row c = omega (arith, (row-of c.args.kind).row)

pub returns : goal.returns
returns c = let a = c.args in
    ap (λ (r : ℕ). get_or (get_or kept r []) a.j 0) c.row.ensures ∙ kept_row a.kind a.j c.if-j-ge6.false
