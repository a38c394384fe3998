-- `spread::spreading::spread_words` meets its contract. Assumes nothing.
use Rattle.std.proofs.Common.{refl, sym, ap, ap₂, ◌∙◌, List, ℕ, ◌+◌, arith, zero-add, length, get_or, drop}
use Rattle.std.proofs.lemmas.List.Edits.{sets}
use Rattle.std.proofs.Math.Seq.{length-sets}
use Rattle.model.specs.declared.Kind.{Kind}
use Rattle.model.specs.Spread.{spread_word, group_size, kind_at, unpacked_from, unpacked}
use Rattle.model.specs.Fields.{predicate_count}
use Rattle.spread.proofs.LoopLaws.{unpack-stores, unpack-end, unpack-less}
use Rattle.spread.proofs.spreading.spread_words.Goals as goal

pub loop-i-init : goal.loop-i-init
unfolding unpacked
loop-i-init c =
    let image = c.args.image.now in
    let e = c.predicate_count-count.ensures ∙ ap predicate_count c.word_at.ensures in record {
      as_long = refl;
      left = zero-add (length (unpacked_from c.predicate_count-count.result 0 image)) ∙ ap (λ (n : ℕ). length (unpacked_from n 0 image)) e;
      stores = ap (λ (n : ℕ). sets c.args.room.now 0 (unpacked_from n 0 image)) e;
    }

pub spread_word-requires : goal.spread_word-requires
spread_word-requires c =
    let count = c.predicate_count-count.result in
    let l = c.loop-i in
    let k = c.kind_at-kind.ensures ∙ ap (kind_at count l.i) c.op.ensures in
    omega (arith, ap group_size k, unpack-less count l.i c.args.image.now c.loop-i-test.true, l.invariant.as_long, l.invariant.left, c.requires)

pub overflow_add-at : goal.overflow_add-at
overflow_add-at c =
    let count = c.predicate_count-count.result in
    let l = c.loop-i in
    let k = c.kind_at-kind.ensures ∙ ap (kind_at count l.i) c.op.ensures in
    omega (arith, c.size_of-at.ensures ∙ ap group_size k, unpack-less count l.i c.args.image.now c.loop-i-test.true, l.invariant.as_long, l.invariant.left, c.requires)

pub loop-i-preserved : goal.loop-i-preserved
loop-i-preserved c =
    let image = c.args.image.now in
    let count = c.predicate_count-count.result in
    let l = c.loop-i in
    let word = get_or image l.i 0 in
    let k = c.kind_at-kind.ensures ∙ ap (kind_at count l.i) c.op.ensures in
    let g = c.size_of-at.ensures ∙ ap group_size k in
    let r = c.spread_word.ensures ∙ ap (λ (kind : Kind). sets l.room l.at (spread_word kind word)) k in record {
      as_long = ap length c.spread_word.ensures ∙ length-sets l.room l.at (spread_word c.kind_at-kind.result word) ∙ l.invariant.as_long;
      left = omega (arith, g, unpack-less count l.i image c.loop-i-test.true, l.invariant.left);
      stores = ap₂ (λ (n : ℕ) (left : List ℕ). sets left (l.at + n) (unpacked_from count (l.i + 1) (drop (l.i + 1) image))) g r
          ∙ unpack-stores count l.i l.at image l.room c.loop-i-test.true ∙ l.invariant.stores;
    }

pub returns : goal.returns
returns c =
    let l = c.loop-i in
    sym (ap (sets l.room l.at) (unpack-end c.predicate_count-count.result l.i c.args.image.now c.loop-i-test.false)) ∙ l.invariant.stores
