-- `words::low` meets its contract. The loop's invariant: what is left to do gives the whole. Assumes nothing.
use Rattle.std.proofs.Common.{◌≡◌, sym, ap, ◌∙◌, arith}
use Rattle.model.specs.Fields.{widths_of, below}
use Rattle.words.proofs.FieldLaws.{below-back}
use Rattle.words.proofs.TableLaws.{row-of, within}
use Rattle.words.proofs.low.Goals as goal

pub loop-j-init : goal.loop-j-init
loop-j-init c = (omega arith, omega arith, sym (row-of c.args.kind).last)

pub overflow_add-bits : goal.overflow_add-bits
overflow_add-bits c = omega (arith, within c.args.kind c.loop-j.j)

pub overflow_sub-j : goal.overflow_sub-j
overflow_sub-j c = omega arith

pub loop-j-smaller : goal.loop-j-smaller
loop-j-smaller c = omega arith

pub loop-j-preserved : goal.loop-j-preserved
loop-j-preserved c = let l = c.loop-j in
    let b = below-back (widths_of c.args.kind) l.j (omega arith) in
    (omega arith, omega arith, omega (arith, b))

pub returns : goal.returns
returns c = let e : c.loop-j.j ≡ c.args.i = omega arith in
    c.loop-j.invariant.2 ∙ ap (below (widths_of c.args.kind)) e
