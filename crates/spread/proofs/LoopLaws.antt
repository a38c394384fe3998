-- One turn of each loop of packing and unpacking, over plain variables. Assumes nothing.
use mathlib.Core.Path.{◌≡◌, refl, sym, ap, ◌∙◌}
use mathlib.Core.Bool.{Bool, true, false, cond}
use mathlib.Core.List.{List, [], ◌∷◌, ◌++◌}
use Prim.Native.Nat.{ℕ, suc, ◌+◌, ◌*◌, ◌^◌, ◌≤◌, ◌<◌}
use native.Mathlib.Omega.{arith}
use native.Mathlib.Numerals.{add-one}
use native.Mathlib.Nat.{add-zero, zero-add}
use lib.Dec.{ltb}
use lib.ListN.{length, get_or, take, drop, set, length-append, drop_of_length-le}
use lib.Seq.{drop-cons, sets, sets-eq}
use borrow.Author.Tests.{ltb-true, ltb-false}
use Rattle.model.specs.declared.Kind.{Kind}
use Rattle.model.specs.declared.Refusal.TheVariants.{TooWide, ListEnds}
use Rattle.model.specs.Answers.{refused_at}
use Rattle.std.proofs.Common.{Ok}
use Rattle.model.specs.Fields.{widths_of, kept_fields, below, field, op}
use Rattle.model.specs.Spread.{spread_fields, spread_word, join_fields, packed_word, group_size, kind_at, unpacked_from, judged}
use Rattle.spread.specs.GroupLaws.{not_through, judged-through, join-group}
use Rattle.spread.specs.ListLaws.{spread-size}
use Rattle.spread.specs.WordLaws.{packed_lt}

-- storing what is left of a list
module _ (room values : List ℕ) (at i : ℕ) where
  pub store-turn : i < length values → sets (set room at (get_or values i 0)) (at + 1) (drop (i + 1) values) ≡ sets room at (drop i values)
  store-turn h = rw (add-one, add-one, drop-cons values i 0 h) refl

  pub store-end : length values ≤ i → sets room at (drop i values) ≡ room
  store-end h = rw (drop_of_length-le values h) refl

pub stored : (room values : List ℕ) → length values ≤ length room → sets room 0 values ≡ values ++ drop (length values) room
stored room values h = sets-eq values room 0 (omega arith) ∙ ap (λ (n : ℕ). values ++ drop n room) (zero-add (length values))

-- judging what is left of a group
module _ (widths kept list : List ℕ) (place j : ℕ) where
  pub judge-end : length kept ≤ j → judged widths (drop j kept) place (drop place list) ≡ Ok place
  unfolding judged
  judge-end h = rw (drop_of_length-le kept h) refl

  pub judge-short : j < length kept → length list ≤ place → judged widths (drop j kept) place (drop place list) ≡ refused_at ListEnds place
  unfolding judged
  judge-short h l = rw (drop-cons kept j 0 h, drop_of_length-le list l) refl

  pub judge-turn : j < length kept → place < length list
      → judged widths (drop j kept) place (drop place list)
      ≡ cond (ltb (get_or list place 0) (2 ^ get_or widths (get_or kept j 0) 0)) (judged widths (drop (j + 1) kept) (place + 1) (drop (place + 1) list)) (refused_at TooWide place)
  unfolding judged
  judge-turn h l = rw (add-one, add-one, drop-cons kept j 0 h, drop-cons list place 0 l) refl

  pub join-turn : j < length kept → place < length list
      → join_fields widths (drop j kept) (drop place list)
      ≡ get_or list place 0 * 2 ^ below widths (get_or kept j 0) + join_fields widths (drop (j + 1) kept) (drop (place + 1) list)
  unfolding join_fields
  join-turn h l = rw (add-one, add-one, drop-cons kept j 0 h, drop-cons list place 0 l) refl

  pub join-end : length kept ≤ j → join_fields widths (drop j kept) (drop place list) ≡ 0
  unfolding join_fields
  join-end h = rw (drop_of_length-le kept h) refl

-- spreading what is left of a word
module _ (widths kept room : List ℕ) (word at j : ℕ) where
  pub spread-turn : j < length kept
      → sets (set room at (field widths word (get_or kept j 0))) (at + 1) (spread_fields widths (drop (j + 1) kept) word) ≡ sets room at (spread_fields widths (drop j kept) word)
  unfolding spread_fields
  spread-turn h = rw (add-one, add-one, drop-cons kept j 0 h) refl

  pub spread_end : length kept ≤ j → sets room at (spread_fields widths (drop j kept) word) ≡ room
  unfolding spread_fields
  spread_end h = rw (drop_of_length-le kept h) refl

-- one value of a group that is judged through
pub record OneValue (widths kept list : List ℕ) (place j end : ℕ) : Type 0 where
  pub inside : place < length list
  pub fits : get_or list place 0 < 2 ^ get_or widths (get_or kept j 0) 0
  pub others : judged widths (drop (j + 1) kept) (place + 1) (drop (place + 1) list) ≡ Ok end

pub one_value : (widths kept list : List ℕ) (place j end : ℕ) → j < length kept → judged widths (drop j kept) place (drop place list) ≡ Ok end
    → OneValue widths kept list place j end
one_value widths kept list place j end h e = go (ltb place (length list)) refl (ltb (get_or list place 0) (2 ^ get_or widths (get_or kept j 0) 0)) refl
  where
    go : (inside? : Bool) → ltb place (length list) ≡ inside? → (fits? : Bool) → ltb (get_or list place 0) (2 ^ get_or widths (get_or kept j 0) 0) ≡ fits?
        → OneValue widths kept list place j end
    go false q fits? r = absurd (not_through (sym (judge-short widths kept list place j h (ltb-false place (length list) q)) ∙ e))
    go true q false r =
        let t = judge-turn widths kept list place j h (ltb-true place (length list) q) in
        absurd (not_through (sym (rw r at t) ∙ e))
    go true q true r =
        let t = judge-turn widths kept list place j h (ltb-true place (length list) q) in
        record { inside = ltb-true place (length list) q; fits = ltb-true (get_or list place 0) (2 ^ get_or widths (get_or kept j 0) 0) r; others = sym (rw r at t) ∙ e }

-- the word of a group that is judged through is a word
pub joined-lt : (kind : Kind) (at end : ℕ) (rest : List ℕ) → judged (widths_of kind) (kept_fields kind) at rest ≡ Ok end → packed_word kind rest < 4294967296
unfolding packed_word
joined-lt kind at end rest e =
    rw (join-group (widths_of kind) (kept_fields kind) rest) (packed_lt kind (take (length (kept_fields kind)) rest) (judged-through (widths_of kind) (kept_fields kind) at end rest e).fit)

-- unpacking word after word
module _ (count i : ℕ) (image : List ℕ) where
  pub unpack-turn : i < length image
      → unpacked_from count i (drop i image) ≡ spread_word (kind_at count i (op (get_or image i 0))) (get_or image i 0) ++ unpacked_from count (i + 1) (drop (i + 1) image)
  unfolding unpacked_from
  unpack-turn h = rw (add-one, drop-cons image i 0 h) refl

  pub unpack-end : length image ≤ i → unpacked_from count i (drop i image) ≡ []
  unfolding unpacked_from
  unpack-end h = rw (drop_of_length-le image h) refl

  -- what is left to unpack is shorter by a group
  pub unpack-less : i < length image
      → length (unpacked_from count i (drop i image)) ≡ group_size (kind_at count i (op (get_or image i 0))) + length (unpacked_from count (i + 1) (drop (i + 1) image))
  unpack-less h =
      let kind = kind_at count i (op (get_or image i 0)) in
      ap length (unpack-turn h) ∙ length-append (spread_word kind (get_or image i 0)) (unpacked_from count (i + 1) (drop (i + 1) image))
      ∙ ap (λ (n : ℕ). n + length (unpacked_from count (i + 1) (drop (i + 1) image))) (spread-size kind (get_or image i 0))

pub sets-append : (room first rest : List ℕ) (at : ℕ) → sets room at (first ++ rest) ≡ sets (sets room at first) (at + length first) rest
sets-append room [] rest at = ap (λ (n : ℕ). sets room n rest) (sym (add-zero at))
sets-append room (value ∷ first) rest at =
    let s : suc at + length first ≡ at + length (value ∷ first) = omega arith in
    sets-append (set room at value) first rest (suc at) ∙ ap (λ (n : ℕ). sets (sets (set room at value) (suc at) first) n rest) s

-- storing a word's group, then what is left
pub unpack-stores : (count i at : ℕ) (image room : List ℕ) → i < length image
    → sets (sets room at (spread_word (kind_at count i (op (get_or image i 0))) (get_or image i 0))) (at + group_size (kind_at count i (op (get_or image i 0)))) (unpacked_from count (i + 1) (drop (i + 1) image))
    ≡ sets room at (unpacked_from count i (drop i image))
unpack-stores count i at image room h =
    let word = get_or image i 0 in
    let kind = kind_at count i (op word) in
    ap (λ (n : ℕ). sets (sets room at (spread_word kind word)) (at + n) (unpacked_from count (i + 1) (drop (i + 1) image))) (sym (spread-size kind word))
    ∙ sym (sets-append room (spread_word kind word) (unpacked_from count (i + 1) (drop (i + 1) image)) at)
    ∙ sym (ap (sets room at) (unpack-turn count i image h))
