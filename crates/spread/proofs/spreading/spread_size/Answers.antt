-- `spread::spreading::spread_size` meets its contract. Assumes nothing.
use Rattle.std.proofs.Common.{ap, ◌∙◌, ℕ, arith, zero-add, length, get_or}
use Rattle.model.specs.Spread.{group_size, kind_at, unpacked_from, unpacked}
use Rattle.model.specs.Fields.{predicate_count, op}
use Rattle.spread.specs.ScanLaws.{size-at}
use Rattle.spread.proofs.LoopLaws.{unpack-end, unpack-less}
use Rattle.spread.proofs.spreading.spread_size.Goals as goal

pub loop-i-init : goal.loop-i-init
unfolding unpacked
loop-i-init c =
    let image = c.args.image.now in
    let e = c.predicate_count-count.ensures ∙ ap predicate_count c.word_at.ensures in record {
      most = omega arith;
      left = zero-add (length (unpacked_from c.predicate_count-count.result 0 image)) ∙ ap (λ (n : ℕ). length (unpacked_from n 0 image)) e;
    }

pub overflow_add-size : goal.overflow_add-size
overflow_add-size c =
    let count = c.predicate_count-count.result in
    let l = c.loop-i in
    let o = op (get_or c.args.image.now l.i 0) in
    let k = c.kind_at.ensures ∙ ap (kind_at count l.i) c.op.ensures in
    omega (arith, c.size_of-size.ensures ∙ ap group_size k, (size-at count l.i o).most)

pub loop-i-preserved : goal.loop-i-preserved
loop-i-preserved c =
    let count = c.predicate_count-count.result in
    let l = c.loop-i in
    let o = op (get_or c.args.image.now l.i 0) in
    let k = c.kind_at.ensures ∙ ap (kind_at count l.i) c.op.ensures in
    let g = c.size_of-size.ensures ∙ ap group_size k in record {
      most = omega (arith, g, (size-at count l.i o).most);
      left = omega (arith, g, unpack-less count l.i c.args.image.now c.loop-i-test.true, l.invariant.left);
    }

pub returns : goal.returns
returns c =
    let l = c.loop-i in
    omega (arith, ap length (unpack-end c.predicate_count-count.result l.i c.args.image.now c.loop-i-test.false), l.invariant.left)
