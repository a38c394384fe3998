-- The search for a number, one word of an answer, and an answer's words in the room. Assumes nothing.
use Rattle.std.proofs.Common.{◌≢◌, Option, unwrap_or, ◌≡◌, refl, sym, ap, ap₂, ◌∙◌, Bool, true, false, eqb, List, [], ◌∷◌, ◌++◌, ℕ, zero, suc, ◌+◌, ◌-◌, ◌*◌, ◌≤◌, ◌<◌, add-one, arith, length, get_or, set, take, drop, take-suc-set, eq-eqb, ne_eqb}
use Rattle.std.proofs.lemmas.Iterator.{index_from_first}
use Rattle.std.specs.Option.{MatchOption}
use Rattle.std.specs.List.{AllWithin, HoldsAt}
use Rattle.model.specs.Fields.{variables}
use Rattle.model.specs.Memory.{memory, cell_of, array_of}
use Rattle.model.specs.Terms.{dereference}
use Rattle.model.specs.Moves.{place_of, with_number, answer_word, seen_with_found, answer_from, answer}
use Rattle.moves.proofs.LoadLaws.{written, written-front}

-- where a number is among those seen, by what a search through them found
module _ (number : ℕ) where
  abbrev pub same : ℕ → Type 0
  same known = known ≡ number

  abbrev pub other : ℕ → Type 0
  other known = known ≢ number

  place-hit : (known : ℕ) (seen : List ℕ) → known ≡ number → place_of (known ∷ seen) number ≡ 0
  unfolding place_of
  place-hit known seen e = rw (eq-eqb known number e, place_of) refl

  place-miss : (known : ℕ) (seen : List ℕ) → known ≢ number → place_of (known ∷ seen) number ≡ place_of seen number + 1
  unfolding place_of
  place-miss known seen e = rw (ne_eqb known number e, place_of) (omega arith)

  pub place-found : (seen : List ℕ) (found : Option ℕ)
      → MatchOption found (AllWithin other seen 0 (length seen)) (λ place. (place < length seen) × HoldsAt same seen place × AllWithin other seen 0 place)
      → place_of seen number ≡ unwrap_or found (length seen)
  unfolding place_of
  place-found = index_from_first (λ (seen : List ℕ). place_of seen number) same other refl place-hit place-miss

  -- a number seen before adds none, a new one comes behind the others
  pub seen-before : (seen : List ℕ) → place_of seen number < length seen → seen ≡ with_number seen number
  unfolding with_number
  seen-before seen h = simp (ne_eqb (place_of seen number) (length seen) (omega (arith, h))) refl

  pub seen-new : (numbers : List ℕ) (count : ℕ) → count < length numbers → place_of (take count numbers) number ≡ length (take count numbers)
      → take (count + 1) (set numbers count number) ≡ with_number (take count numbers) number
  unfolding with_number
  seen-new numbers count h e = simp (eq-eqb (place_of (take count numbers) number) (length (take count numbers)) e) (ap (λ (n : ℕ). take n (set numbers count number)) (add-one count) ∙ take-suc-set numbers count number h)

module _ (array cells : List ℕ) where
  pub answer-length : (left variable : ℕ) (seen : List ℕ) → length (answer_from left array cells variable seen) ≡ left
  unfolding answer_from
  answer-length zero variable seen = refl
  answer-length (suc left) variable seen =
      ap suc (answer-length left (variable + 1) (seen_with_found seen (dereference 2048 array cells (cell_of 0 variable))))

  -- the words from a variable on, in the room
  abbrev pub answered : ℕ → ℕ → List ℕ → List ℕ → List ℕ
  answered left variable seen room = written variable (answer_from left array cells variable seen) room

  pub answered-turn : (count variable : ℕ) (seen room seen' room' : List ℕ) → variable < count
      → room' ≡ set room variable (answer_word seen (dereference 2048 array cells variable))
      → seen' ≡ seen_with_found seen (dereference 2048 array cells variable)
      → answered (count - (variable + 1)) (variable + 1) seen' room' ≡ answered (count - variable) variable seen room
  unfolding answer_from written
  answered-turn count variable seen room seen' room' h er es =
      let s : count - variable ≡ suc (count - (variable + 1)) = omega arith in
      let z : cell_of 0 variable ≡ variable = omega arith in
      rw (s, er, es, z) refl

  pub answered-end : (left variable : ℕ) (seen room : List ℕ) → left ≤ 0 → room ≡ answered left variable seen room
  unfolding answer_from written
  answered-end zero variable seen room h = refl
  answered-end (suc left) variable seen room h = absurd (omega arith)

  pub answered-whole : (count : ℕ) (room : List ℕ) → count ≤ length room
      → answered count 0 [] room ≡ answer_from count array cells 0 [] ++ drop count room
  answered-whole count room h =
      written-front (answer_from count array cells 0 []) room (omega (arith, answer-length count 0 []))
      ∙ ap (λ (n : ℕ). answer_from count array cells 0 [] ++ drop n room) (answer-length count 0 [])

-- an answer read from the worker's own part of the arrays
pub answer-of : (query nodes cells trail arrays workers : List ℕ) (worker k own : ℕ) (room after : List ℕ) → k ≡ 2048 → own ≡ variables (get_or query 0 0)
    → after ≡ answer_from own (take k (drop (2048 * worker) arrays)) cells 0 [] ++ drop own room
    → (after ≡ answer query (memory nodes cells trail arrays workers) worker ++ drop own room) × (own ≡ length (answer query (memory nodes cells trail arrays workers) worker))
unfolding answer
answer-of query nodes cells trail arrays workers worker k own room after ek eo e =
    let part = array_of arrays worker in (
      e ∙ ap₂ (λ (n m : ℕ). answer_from n (take m (drop (2048 * worker) arrays)) cells 0 [] ++ drop own room) eo ek,
      eo ∙ sym (answer-length part cells (variables (get_or query 0 0)) 0 []),
    )

-- a number's place is at most how many are seen
pub place-le : (seen : List ℕ) (number : ℕ) → place_of seen number ≤ length seen
unfolding place_of
place-le [] number = omega arith
place-le (first ∷ seen) number = go (eqb first number) refl (place-le seen number)
  where
    go : (t : Bool) → eqb first number ≡ t → place_of seen number ≤ length seen → place_of (first ∷ seen) number ≤ suc (length seen)
    go true q h = rw (q, place_of) (omega arith)
    go false q h = rw (q, place_of) (omega arith)
