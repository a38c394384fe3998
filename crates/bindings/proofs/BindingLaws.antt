-- One turn of each loop up a path, k slots of so many climbed. Assumes nothing.
use Rattle.std.proofs.Common.{◌≡◌, refl, sym, ap, ◌∙◌, List, ℕ, ◌+◌, ◌-◌, ◌≤◌, ◌<◌, min, length, get_or, take, drop, get_or-take, get_or-drop, length-take, length-drop, arith, Bool, MatchBool, HoldsAt, true, false, eqb, ltb, eq-eqb, ne_eqb, le-leb}
use Rattle.std.proofs.Math.ListN.{get_or-eq_default}
use Rattle.std.specs.List.{AllWithin}
use borrow.Author.Tests.{ltb-true, ltb-false}
use Rattle.std.proofs.lemmas.Bool.{lt-leb}
use Rattle.words.proofs.Ranges.{left-after, none-left, each-true, each-false}
use Rattle.model.specs.Memory.{parent, entries, base}
use Rattle.model.specs.Damage.{each, zeros, on_path, owner_of, not_among, not_above}

module _ (nodes : List ℕ) (other : ℕ) where
  pub on_path-end : (most k slot : ℕ) → most ≤ k → eqb slot other ≡ on_path (most - k) nodes slot other
  unfolding on_path
  on_path-end most k slot h = rw (none-left k most h) refl

  pub on_path-hit : (most k slot : ℕ) → k < most → slot ≡ other → true ≡ on_path (most - k) nodes slot other
  unfolding on_path
  on_path-hit most k slot h e = rw (left-after k most h, eq-eqb slot other e, on_path) refl

  pub on_path-miss : (most k slot up : ℕ) → k < most → (slot ≡ other → ⊥) → up ≡ parent nodes slot → on_path (most - (k + 1)) nodes up other ≡ on_path (most - k) nodes slot other
  unfolding on_path
  on_path-miss most k slot up h n e = rw (left-after k most h, ne_eqb slot other n, on_path, e) refl

module _ (nodes : List ℕ) (number : ℕ) where
  pub owner_of-end : (most k slot : ℕ) → most ≤ k → slot ≡ owner_of (most - k) nodes slot number
  unfolding owner_of
  owner_of-end most k slot h = rw (none-left k most h) refl

  pub owner_of-hit : (most k slot : ℕ) → k < most → base nodes slot ≤ number → slot ≡ owner_of (most - k) nodes slot number
  unfolding owner_of
  owner_of-hit most k slot h e = rw (left-after k most h, le-leb (base nodes slot) number e, owner_of) refl

  pub owner_of-miss : (most k slot up : ℕ) → k < most → number < base nodes slot → up ≡ parent nodes slot → owner_of (most - (k + 1)) nodes up number ≡ owner_of (most - k) nodes slot number
  unfolding owner_of
  owner_of-miss most k slot up h n e = rw (left-after k most h, lt-leb (base nodes slot) number n, owner_of, e) refl

-- a number trailed at no slot above
module _ (nodes trail : List ℕ) (number : ℕ) where
  pub not_above-end : (most k slot : ℕ) → most ≤ k → true ≡ not_above (most - k) nodes trail slot number
  unfolding not_above
  not_above-end most k slot h = rw (none-left k most h) refl

  pub not_above-fail : (most k slot up count : ℕ) → k < most → up ≡ parent nodes slot → count ≡ entries nodes up → not_among count trail up number 0 ≡ false → false ≡ not_above (most - k) nodes trail slot number
  unfolding not_above
  not_above-fail most k slot up count h e f n = let m = rw (f, e) at n in rw (left-after k most h, m, not_above) refl

  pub not_above-turn : (most k slot up count : ℕ) → k < most → up ≡ parent nodes slot → count ≡ entries nodes up → not_among count trail up number 0 ≡ true
      → not_above (most - (k + 1)) nodes trail up number ≡ not_above (most - k) nodes trail slot number
  unfolding not_above
  not_above-turn most k slot up count h e f n = let m = rw (f, e) at n in rw (left-after k most h, m, not_above, e) refl

-- the words of a list that stand from a place on, at most so many: all are 0, or one is not
pub zeros-from_part : (words : List ℕ) (start count from end : ℕ) (r : Bool) → end ≡ min (length words) (start + count) → from ≡ min start end
    → MatchBool r (AllWithin (λ word. word ≡ 0) (take (end - from) (drop from words)) 0 (length (take (end - from) (drop from words))))
    ((k : ℕ) × (k < length (take (end - from) (drop from words))) × HoldsAt (λ word. word ≡ 0 → ⊥) (take (end - from) (drop from words)) k)
    → r ≡ zeros count words start
unfolding zeros
zeros-from_part words start count from end r e f m = go r m
  where
    part : List ℕ
    part = take (end - from) (drop from words)

    long : length part ≡ end - from
    long = length-take (end - from) (drop from words) ∙ (let d = length-drop from words in omega (arith, d, e, f))

    word : (k : ℕ) → k < end - from → get_or part k 0 ≡ get_or words (start + k) 0
    word k h = get_or-take (end - from) (drop from words) k 0 h ∙ get_or-drop from words k 0 ∙ ap (λ (at : ℕ). get_or words at 0) (let q : from + k ≡ start + k = omega (arith, e, f, h) in q)

    go : (r : Bool) → MatchBool r (AllWithin (λ word. word ≡ 0) part 0 (length part)) ((k : ℕ) × (k < length part) × HoldsAt (λ word. word ≡ 0 → ⊥) part k) → r ≡ each count (λ k. eqb (get_or words k 0) 0) start
    go true all = sym (each-true _ count start (λ j low high. eq-eqb (get_or words j 0) 0 (here j low high (ltb j end) refl)))
      where
        here : (j : ℕ) → start ≤ j → j < start + count → (b : Bool) → ltb j end ≡ b → get_or words j 0 ≡ 0
        here j low high true q =
            let within : j - start < end - from = omega (arith, ltb-true j end q, low, e, f) in
            ap (λ (at : ℕ). get_or words at 0) (let p : j ≡ start + (j - start) = omega (arith, low) in p) ∙ sym (word (j - start) within) ∙ all (j - start) 0 (omega arith) (omega (arith, long, within))
        here j low high false q = get_or-eq_default words 0 (omega (arith, ltb-false j end q, high, e))
    go false (k, within, not) =
        let inside : k < end - from = omega (arith, long, within) in
        sym (each-false _ count start (start + k) (omega arith) (omega (arith, inside, e, f)) (ne_eqb (get_or words (start + k) 0) 0 (λ z. not 0 (word k inside ∙ z))))
