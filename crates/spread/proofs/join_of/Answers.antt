-- `spread::join_of` meets its contract. Assumes nothing.
use Rattle.std.proofs.Common.{◌≡◌, ap, ◌∙◌, List, ℕ, ◌+◌, ◌*◌, ◌^◌, ◌<◌, ◌%◌, arith, zero-add, add-zero, mod-eq_of_lt, get_or, drop, Ok}
use Rattle.model.specs.declared.Kind.{Kind}
use Rattle.model.specs.Spread.{packed_word, join_fields, group_size, judged}
use Rattle.model.specs.Fields.{widths_of, kept_fields, below}
use Rattle.spread.proofs.LoopLaws.{OneValue, join-turn, join-end, one_value, joined-lt}
use Rattle.spread.proofs.join_of.Goals as goal

module _ (kind : Kind) (list : List ℕ) (at place j : ℕ) where
  -- the value at the place, whose group is judged through
  value : j < group_size kind → judged (widths_of kind) (drop j (kept_fields kind)) place (drop place list) ≡ Ok (at + group_size kind)
      → OneValue (widths_of kind) (kept_fields kind) list place j (at + group_size kind)
  unfolding group_size
  value h e = one_value (widths_of kind) (kept_fields kind) list place j (at + group_size kind) h e

  -- it fits, so it is placed whole
  joined : (placed : ℕ) → j < group_size kind → judged (widths_of kind) (drop j (kept_fields kind)) place (drop place list) ≡ Ok (at + group_size kind)
      → placed ≡ get_or list place 0 % 2 ^ get_or (widths_of kind) (get_or (kept_fields kind) j 0) 0 * 2 ^ below (widths_of kind) (get_or (kept_fields kind) j 0)
      → join_fields (widths_of kind) (drop j (kept_fields kind)) (drop place list) ≡ placed + join_fields (widths_of kind) (drop (j + 1) (kept_fields kind)) (drop (place + 1) list)
  unfolding group_size
  joined placed h e is =
      let v = value h e in
      let w = is ∙ ap (λ (n : ℕ). n * 2 ^ below (widths_of kind) (get_or (kept_fields kind) j 0)) (mod-eq_of_lt v.fits) in
      omega (arith, w, join-turn (widths_of kind) (kept_fields kind) list place j h v.inside)

pub loop-j-init : goal.loop-j-init
unfolding packed_word
loop-j-init c = let z = add-zero c.args.at in record { through = rw z c.requires; joins = rw z (zero-add (packed_word c.args.kind (drop c.args.at c.args.list.now))) }

pub overflow_add-at : goal.overflow_add-at
overflow_add-at c =
    let a = c.args in
    let l = c.loop-j in
    omega (arith, (value a.kind a.list.now a.at (a.at + l.j) l.j (omega arith) l.invariant.through).inside)

pub offset_bounds-list-at : goal.offset_bounds-list-at
offset_bounds-list-at c =
    let a = c.args in
    let l = c.loop-j in
    omega (arith, (value a.kind a.list.now a.at (a.at + l.j) l.j (omega arith) l.invariant.through).inside)

pub bounds-list-at : goal.bounds-list-at
bounds-list-at c =
    let a = c.args in
    let l = c.loop-j in
    (value a.kind a.list.now a.at (a.at + l.j) l.j (omega arith) l.invariant.through).inside

pub overflow_add-word : goal.overflow_add-word
overflow_add-word c =
    let a = c.args in
    let l = c.loop-j in
    let t = joined a.kind a.list.now a.at (a.at + l.j) l.j c.placed_kept-word.result (omega arith) l.invariant.through c.placed_kept-word.ensures in
    omega (arith, t, joined-lt a.kind a.at (a.at + group_size a.kind) (drop a.at a.list.now) c.requires)

pub loop-j-preserved : goal.loop-j-preserved
loop-j-preserved c =
    let a = c.args in
    let l = c.loop-j in
    let n : a.at + (l.j + 1) ≡ a.at + l.j + 1 = omega arith in
    let v = value a.kind a.list.now a.at (a.at + l.j) l.j (omega arith) l.invariant.through in
    let t = joined a.kind a.list.now a.at (a.at + l.j) l.j c.placed_kept-word.result (omega arith) l.invariant.through c.placed_kept-word.ensures in
    record { through = rw n v.others; joins = rw n (omega (arith, t)) }

pub returns : goal.returns
unfolding group_size
returns c =
    let a = c.args in
    let l = c.loop-j in
    omega (arith, join-end (widths_of a.kind) (kept_fields a.kind) a.list.now (a.at + l.j) l.j (omega (arith, c.size_of-j-end.ensures)))
