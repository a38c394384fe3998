-- `spread::spreading::spread_of` meets its contract. Assumes nothing.
use Rattle.std.proofs.Common.{◌≡◌, refl, sym, ap, ◌∙◌, ℕ, ◌+◌, arith, add-zero, drop, set, length-set}
use Rattle.std.proofs.lemmas.List.Edits.{sets}
use Rattle.model.specs.Spread.{spread_fields, spread_word, group_size}
use Rattle.model.specs.Fields.{widths_of, kept_fields}
use Rattle.spread.proofs.LoopLaws.{spread-turn, spread_end}
use Rattle.spread.proofs.spreading.spread_of.Goals as goal

pub loop-j-init : goal.loop-j-init
unfolding spread_word
loop-j-init c = record { as_long = refl; stores = rw (add-zero c.args.at) refl }

pub loop-j-preserved : goal.loop-j-preserved
unfolding group_size
loop-j-preserved c =
    let a = c.args in
    let l = c.loop-j in
    let place = a.at + l.j in
    let n : a.at + (l.j + 1) ≡ a.at + l.j + 1 = omega arith in
    let r = c.read_kept.ensures in record {
      as_long = omega (arith, length-set l.room place c.read_kept.result);
      stores = rw n (ap (λ (value : ℕ). sets (set l.room place value) (place + 1) (spread_fields (widths_of a.kind) (drop (l.j + 1) (kept_fields a.kind)) a.word)) r
          ∙ spread-turn (widths_of a.kind) (kept_fields a.kind) l.room a.word place l.j (omega (arith, c.size_of-j-end.ensures)) ∙ l.invariant.stores);
    }

pub returns : goal.returns
unfolding group_size
returns c =
    let a = c.args in
    let l = c.loop-j in
    sym (spread_end (widths_of a.kind) (kept_fields a.kind) l.room a.word (a.at + l.j) l.j (omega (arith, c.size_of-j-end.ensures))) ∙ l.invariant.stores
