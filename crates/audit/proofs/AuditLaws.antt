-- One turn of the walk over the clauses tried, and where a worker's array stands. Assumes nothing.
use Rattle.std.proofs.Common.{◌≡◌, refl, sym, ap, ap₂, ◌∙◌, Bool, true, false, ◌&&◌, List, ℕ, zero, suc, ◌+◌, ◌-◌, ◌≤◌, ◌<◌, min, arith, length, replicate, get_or, take, drop, get_or-take, get_or-drop, length-take, length-drop, ext_get_or, eqb, eq-eqb, ne_eqb}
use Rattle.std.proofs.Math.ListN.{get_or-eq_default}
use Rattle.std.proofs.lemmas.Bool.{true≢false}
use borrow.Author.Tests.{eqb-true, eqb-false}
use Rattle.words.proofs.Ranges.{left-after, none-left, each-same, each-false}
use Rattle.model.specs.Fields.{clause_length}
use Rattle.model.specs.Decoding.{clause_next}
use Rattle.model.specs.Memory.{depth}
use Rattle.model.specs.Moves.{Leg, installed, climbed}
use Rattle.model.specs.Damage.{each, zeros, path_array, same_words, among_clauses}

module _ (image : List ℕ) (position : ℕ) where
  pub among-end : (count k at : ℕ) → count ≤ k → false ≡ among_clauses (count - k) image at position
  unfolding among_clauses
  among-end count k at h = rw (none-left k count h) refl

  pub among-hit : (count k at : ℕ) → k < count → at ≡ position → true ≡ among_clauses (count - k) image at position
  unfolding among_clauses
  among-hit count k at h e = rw (left-after k count h, eq-eqb at position e, among_clauses) refl

  pub among-miss : (count k at long : ℕ) → k < count → (at ≡ position → ⊥) → long ≡ clause_length (get_or image at 0)
      → among_clauses (count - (k + 1)) image (at + long) position ≡ among_clauses (count - k) image at position
  unfolding among_clauses clause_next
  among-miss count k at long h n e = rw (left-after k count h, ne_eqb at position n, among_clauses, e) refl

-- what there is of a worker's array, cut from the arrays
pub own-part : (arrays : List ℕ) (at start there : ℕ) → start ≡ min (length arrays) at → there ≡ min (length arrays - start) 2048 → take (start + there - start) (drop start arrays) ≡ take 2048 (drop at arrays)
own-part arrays at start there e f = ext_get_or 0 part (take 2048 (drop at arrays)) (long ∙ sym whole) same
  where
    part : List ℕ
    part = take (start + there - start) (drop start arrays)

    long : length part ≡ there
    long = length-take (start + there - start) (drop start arrays) ∙ (let d = length-drop start arrays in omega (arith, d, f))

    whole : length (take 2048 (drop at arrays)) ≡ there
    whole = length-take 2048 (drop at arrays) ∙ (let d = length-drop at arrays in omega (arith, d, e, f))

    same : (i : ℕ) → i < length part → get_or part i 0 ≡ get_or (take 2048 (drop at arrays)) i 0
    same i h =
        let low : i < there = omega (arith, h, long) in
        let here : start + i ≡ at + i = omega (arith, e, f, low) in
        get_or-take (start + there - start) (drop start arrays) i 0 (omega (arith, low)) ∙ get_or-drop start arrays i 0 ∙ ap (λ (k : ℕ). get_or arrays k 0) here
        ∙ sym (get_or-take 2048 (drop at arrays) i 0 (omega (arith, low, f)) ∙ get_or-drop at arrays i 0)

each-step : (test : ℕ → Bool) (left k : ℕ) → test k ≡ true → each (suc left) test k ≡ each left test (k + 1)
unfolding each
each-step test left k e = rw (e, each) refl

-- the numbers that pass come first, so the others decide
each-past : (test : ℕ → Bool) (count more all k : ℕ) → all ≡ count + more → ((j : ℕ) → k ≤ j → j < k + count → test j ≡ true) → each all test k ≡ each more test (k + count)
each-past test zero more all k e pass = ap₂ (λ (n at : ℕ). each n test at) (let q : all ≡ more = omega (arith, e) in q) (let q : k ≡ k + 0 = omega arith in q)
each-past test (suc count) more all k e pass =
    ap (λ (n : ℕ). each n test k) (let q : all ≡ suc (count + more) = omega (arith, e) in q) ∙ each-step test (count + more) k (pass k (omega arith) (omega arith))
    ∙ each-past test count more (count + more) (k + 1) refl (λ j low high. pass j (omega (arith, low)) (omega (arith, high))) ∙ ap (each more test) (let q : k + 1 + count ≡ k + suc count = omega arith in q)

-- where all pass, each does
each-all : (test : ℕ → Bool) (count k : ℕ) → each count test k ≡ true → (j : ℕ) → k ≤ j → j < k + count → test j ≡ true
each-all test count k all j low high = go (test j) refl
  where
    go : (b : Bool) → test j ≡ b → test j ≡ true
    go true q = q
    go false q = absurd (true≢false (sym all ∙ each-false test count k j low high q))

eqb-zero : (n : ℕ) → eqb 0 n ≡ eqb n 0
eqb-zero n = go (eqb n 0) refl
  where
    go : (b : Bool) → eqb n 0 ≡ b → eqb 0 n ≡ eqb n 0
    go true q = eq-eqb 0 n (sym (eqb-true n 0 q)) ∙ sym q
    go false q = ne_eqb 0 n (λ e. eqb-false n 0 q (sym e)) ∙ sym q

-- a worker's array and an array have the same words: by the words that there are of it, and 0 past them
module _ (arrays array : List ℕ) (at start there : ℕ) (e : start ≡ min (length arrays) at) (f : there ≡ min (length arrays - start) 2048) where
  abbrev own : List ℕ
  own = take 2048 (drop at arrays)

  long : length own ≡ there
  long = length-take 2048 (drop at arrays) ∙ (let d = length-drop at arrays in omega (arith, d, e, f))

  pub same-from_part : take (start + there - start) (drop start arrays) ≡ take there array → zeros (2048 - there) array there ≡ same_words 2048 (take 2048 (drop at arrays)) array 0
  unfolding zeros same_words
  same-from_part same =
      let test : ℕ → Bool = λ k. eqb (get_or own k 0) (get_or array k 0) in
      let words : own ≡ take there array = sym (own-part arrays at start there e f) ∙ same in
      each-same _ test (2048 - there) there
      (λ j low high. sym (ap (λ (word : ℕ). eqb word (get_or array j 0)) (get_or-eq_default own 0 (omega (arith, long, low))) ∙ eqb-zero (get_or array j 0)))
      ∙ ap (each (2048 - there) test) (let q : there ≡ 0 + there = omega arith in q)
      ∙ sym (each-past test there (2048 - there) 2048 0 (omega (arith, f)) (λ j low high. eq-eqb (get_or own j 0) (get_or array j 0) (ap (λ (xs : List ℕ). get_or xs j 0) words ∙ get_or-take there array j 0 (omega (arith, high)))))

  pub other-from_part : length array ≡ 2048 → (take (start + there - start) (drop start arrays) ≡ take there array → ⊥) → false ≡ same_words 2048 (take 2048 (drop at arrays)) array 0
  unfolding same_words
  other-from_part whole other = go (each 2048 test 0) refl
    where
      test : ℕ → Bool
      test k = eqb (get_or own k 0) (get_or array k 0)

      go : (b : Bool) → each 2048 test 0 ≡ b → false ≡ each 2048 test 0
      go false q = sym q
      go true q = absurd (other (own-part arrays at start there e f ∙ ext_get_or 0 own (take there array) (long ∙ sym (length-take there array ∙ (omega (arith, whole, f))))
          (λ i h. eqb-true (get_or own i 0) (get_or array i 0) (each-all test 2048 0 q i (omega arith) (omega (arith, h, long, f))) ∙ sym (get_or-take there array i 0 (omega (arith, h, long))))))

-- the array that a climb from a slot to the root leaves
pub path-array : (nodes trail : List ℕ) (slot most : ℕ) (leg : Leg) → leg ≡ climbed installed most nodes trail 0 slot (replicate 2048 0) 0 → most ≡ depth nodes slot → leg.array ≡ path_array nodes trail slot
unfolding path_array
path-array nodes trail slot most leg e d = ap (λ (leg : Leg). leg.array) e ∙ ap (λ (most : ℕ). (climbed installed most nodes trail 0 slot (replicate 2048 0) 0).array) d

-- what a condition joined by and gives, by its first part
pub and-then : (value first second : Bool) → first ≡ true → value ≡ second → value ≡ (first && second)
and-then value first second t e = rw t e

pub and-else : (value first second : Bool) → first ≡ false → value ≡ first → value ≡ (first && second)
and-else value first second f e = rw f (e ∙ f)

-- four tests one after another
pub and-four : (value two three a b c d : Bool) → two ≡ (a && b) → three ≡ (two && c) → value ≡ (three && d) → value ≡ (a && b && c && d)
and-four value two three a b c d e f g = rw (g, f, e) refl
