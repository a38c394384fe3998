-- `words::width` meets its contract. Assumes nothing.
use Rattle.std.proofs.Common.{[], sym, ap, ◌∙◌, ℕ, arith, get_or}
use Rattle.words.proofs.TableLaws.{table, table-row, row-of, width-past}
use Rattle.words.proofs.width.Goals as goal

pub returns-then-i-ge6 : goal.returns-then-i-ge6
returns-then-i-ge6 c = sym (width-past c.args.kind c.args.i c.if-i-ge6.true)

pub offset_bounds-row : goal.offset_bounds-row
offset_bounds-row c = omega (arith, (row-of c.args.kind).row)

pub bounds-row-row : goal.bounds-row-row
bounds-row-row c = omega (arith, (row-of c.args.kind).row)

pub returns : goal.returns
returns c = let a = c.args in
    ap (λ (r : ℕ). get_or (get_or table r []) a.i 0) c.row.ensures ∙ table-row a.kind a.i c.if-i-ge6.false
