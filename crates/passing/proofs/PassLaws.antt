-- One turn of each loop over a head's arguments and over clauses, by what was found there. Assumes nothing.
use Rattle.std.proofs.Common.{◌≡◌, refl, sym, ap, ap₂, ◌∙◌, Bool, true, false, List, ℕ, zero, suc, ◌+◌, ◌-◌, ◌≤◌, ◌<◌, arith, get_or, add-zero, add_assoc}
use Rattle.std.proofs.Math.Nat.{sub-zero}
use Rattle.model.specs.Fields.{clause_length}
use Rattle.model.specs.Decoding.{clause_from}
use Rattle.model.specs.Steps.{raised}
use Rattle.goals.proofs.PlaceLaws.{clause_from-end, clause_from-next}
use Rattle.memory.proofs.FieldBounds.{clause_length-lt}
use Rattle.passing.specs.declared.Attempt.{Attempt}
use Rattle.passing.specs.declared.Compared.{Compared}
use Rattle.passing.specs.declared.Compared.TheVariants.{Differ, Agree, Unsure}
use Rattle.passing.specs.Clash.{compare, clashes, fails_plainly}
use Rattle.passing.specs.Passing.{Passing, passing, pass_over}

left-after : (k n : ℕ) → k < n → n - k ≡ suc (n - (k + 1))
left-after k n h = omega arith

-- of any numbers
module _ (image words array cells : List ℕ) (slot child_base : ℕ) where
  pub clashes-end : (left head goal : ℕ) → left ≤ 0 → false ≡ clashes left image words array cells slot child_base head goal
  unfolding clashes
  clashes-end zero head goal h = refl
  clashes-end (suc left) head goal h = absurd (omega arith)

  -- one argument, by how it compares
  clashes-by : (compared : Compared) (left head goal : ℕ) → 0 < left → compared ≡ compare child_base array cells slot (get_or image head 0) (get_or words goal 0)
      → elim compared [ Differ ↦ true | Agree ↦ clashes (left - 1) image words array cells slot child_base (head + 1) (goal + 1) | Unsure ↦ false ]
      ≡ clashes left image words array cells slot child_base head goal
  unfolding clashes
  clashes-by compared zero head goal h e = absurd (omega arith)
  clashes-by compared (suc left) head goal h e =
      let s : suc left - 1 ≡ left = omega arith in
      ap (λ (n : ℕ). elim compared [ Differ ↦ true | Agree ↦ clashes n image words array cells slot child_base (head + 1) (goal + 1) | Unsure ↦ false ]) s
      ∙ ap (λ (k : Compared). elim k [ Differ ↦ true | Agree ↦ clashes left image words array cells slot child_base (head + 1) (goal + 1) | Unsure ↦ false ]) e

  pub clashes-differ : (left head goal : ℕ) → 0 < left → Differ ≡ compare child_base array cells slot (get_or image head 0) (get_or words goal 0)
      → true ≡ clashes left image words array cells slot child_base head goal
  clashes-differ = clashes-by Differ

  pub clashes-unsure : (left head goal : ℕ) → 0 < left → Unsure ≡ compare child_base array cells slot (get_or image head 0) (get_or words goal 0)
      → false ≡ clashes left image words array cells slot child_base head goal
  clashes-unsure = clashes-by Unsure

  pub clashes-turn : (left head goal : ℕ) → 0 < left → Agree ≡ compare child_base array cells slot (get_or image head 0) (get_or words goal 0)
      → clashes (left - 1) image words array cells slot child_base (head + 1) (goal + 1) ≡ clashes left image words array cells slot child_base head goal
  clashes-turn = clashes-by Agree

module _ (attempt : Attempt) (head : ℕ) where
  -- the goal's arguments stand behind its word
  abbrev goal : ℕ
  goal = attempt.place + 1

  abbrev among : ℕ → ℕ → ℕ → Bool
  among arity head goal = clashes arity attempt.image.now attempt.words.now attempt.array.now attempt.cells.now attempt.slot attempt.child_base head goal

  abbrev pub clashes_all : Bool
  clashes_all = among attempt.arity head goal

  abbrev pub clashes_from : ℕ → Bool
  clashes_from k = among (attempt.arity - k) (head + k) (goal + k)

  pub clashes-start : clashes_from 0 ≡ clashes_all
  clashes-start = rw (sub-zero attempt.arity, add-zero head, add-zero goal) refl

  pub clashes_from-end : (k : ℕ) → attempt.arity ≤ k → false ≡ clashes_from k
  clashes_from-end k h = clashes-end attempt.image.now attempt.words.now attempt.array.now attempt.cells.now attempt.slot attempt.child_base (attempt.arity - k) (head + k) (goal + k) (omega arith)

  -- one argument, by how it compares
  abbrev at_argument : ℕ → Compared
  at_argument k = compare attempt.child_base attempt.array.now attempt.cells.now attempt.slot (get_or attempt.image.now (head + k) 0) (get_or attempt.words.now (goal + k) 0)

  pub clashes_from-differ : (k : ℕ) → k < attempt.arity → at_argument k ≡ Differ → true ≡ clashes_from k
  clashes_from-differ k h e = clashes-differ attempt.image.now attempt.words.now attempt.array.now attempt.cells.now attempt.slot attempt.child_base (attempt.arity - k) (head + k) (goal + k) (omega arith) (sym e)

  pub clashes_from-unsure : (k : ℕ) → k < attempt.arity → at_argument k ≡ Unsure → false ≡ clashes_from k
  clashes_from-unsure k h e = clashes-unsure attempt.image.now attempt.words.now attempt.array.now attempt.cells.now attempt.slot attempt.child_base (attempt.arity - k) (head + k) (goal + k) (omega arith) (sym e)

  pub clashes-agree : (k : ℕ) → k < attempt.arity → at_argument k ≡ Agree → clashes_from (k + 1) ≡ clashes_from k
  unfolding clashes
  clashes-agree k h e = ap₂ (among (attempt.arity - (k + 1))) (sym (add_assoc head k 1)) (sym (add_assoc goal k 1)) ∙ rw (left-after k attempt.arity h, clashes, e) refl

-- what the check goes by in `clashes`
pub ruleset clashing = (clashes-start, clashes_from-end, clashes_from-differ, clashes_from-unsure, clashes-agree)

module _ (arity node : ℕ) (image words array cells : List ℕ) (slot child_base place : ℕ) where
  pub pass_over-end : (left count : ℕ) (nodes : List ℕ) (position : ℕ) → left ≤ 0
      → passing nodes count ≡ pass_over arity node image words array cells slot child_base place left count nodes position
  unfolding pass_over
  pass_over-end zero count nodes position h = refl
  pass_over-end (suc left) count nodes position h = absurd (omega arith)

  -- one clause, by whether it is sure to fail
  pass_over-by : (fails : Bool) (left count : ℕ) (nodes : List ℕ) (position : ℕ) → 0 < left → fails ≡ fails_plainly arity image words array cells slot child_base position place
      → elim fails [
        | true ↦ pass_over arity node image words array cells slot child_base place (left - 1) (count + 1) (raised nodes node) (position + clause_length (get_or image position 0))
        | false ↦ passing nodes count
      ]
      ≡ pass_over arity node image words array cells slot child_base place left count nodes position
  unfolding pass_over
  pass_over-by fails zero count nodes position h e = absurd (omega arith)
  pass_over-by fails (suc left) count nodes position h e =
      let s : suc left - 1 ≡ left = omega arith in
      let next = position + clause_length (get_or image position 0) in
      ap (λ (n : ℕ). elim fails [ true ↦ pass_over arity node image words array cells slot child_base place n (count + 1) (raised nodes node) next | false ↦ passing nodes count ]) s
      ∙ ap (λ (b : Bool). elim b [ true ↦ pass_over arity node image words array cells slot child_base place left (count + 1) (raised nodes node) next | false ↦ passing nodes count ]) e

  pub pass_over-stop : (left count : ℕ) (nodes : List ℕ) (position : ℕ) → 0 < left → false ≡ fails_plainly arity image words array cells slot child_base position place
      → passing nodes count ≡ pass_over arity node image words array cells slot child_base place left count nodes position
  pass_over-stop = pass_over-by false

  pub pass_over-turn : (left count : ℕ) (nodes : List ℕ) (position : ℕ) → 0 < left → true ≡ fails_plainly arity image words array cells slot child_base position place
      → pass_over arity node image words array cells slot child_base place (left - 1) (count + 1) (raised nodes node) (position + clause_length (get_or image position 0))
      ≡ pass_over arity node image words array cells slot child_base place left count nodes position
  pass_over-turn = pass_over-by true

module _ (attempt : Attempt) (node most : ℕ) where
  abbrev over : ℕ → ℕ → List ℕ → ℕ → Passing
  over most count nodes position =
      pass_over attempt.arity node attempt.image.now attempt.words.now attempt.array.now attempt.cells.now attempt.slot attempt.child_base attempt.place most count nodes position

  abbrev pub passed_all : List ℕ → ℕ → Passing
  passed_all nodes position = over most 0 nodes position

  abbrev pub passed_from : ℕ → List ℕ → ℕ → Passing
  passed_from count nodes position = over (most - count) count nodes position

  pub pass_over-start : (nodes : List ℕ) (position : ℕ) → passed_from 0 nodes position ≡ passed_all nodes position
  pass_over-start nodes position = rw (sub-zero most) refl

  pub passed_from-end : (count : ℕ) (nodes : List ℕ) (position : ℕ) → count ≡ most → passing nodes most ≡ passed_from count nodes position
  passed_from-end count nodes position all =
      ap (passing nodes) (sym all) ∙ pass_over-end attempt.arity node attempt.image.now attempt.words.now attempt.array.now attempt.cells.now attempt.slot attempt.child_base attempt.place (most - count) count nodes position (omega arith)

  -- one clause, by whether it is sure to fail
  abbrev fails_at : ℕ → Bool
  fails_at position = fails_plainly attempt.arity attempt.image.now attempt.words.now attempt.array.now attempt.cells.now attempt.slot attempt.child_base position attempt.place

  pub pass_over-stops : (count : ℕ) (nodes : List ℕ) (position : ℕ) → count < most → fails_at position ≡ false → passing nodes count ≡ passed_from count nodes position
  unfolding pass_over
  pass_over-stops count nodes position h e = rw (left-after count most h, pass_over, e) refl

  pub pass_over-fails : (count : ℕ) (nodes : List ℕ) (position : ℕ) → count < most → fails_at position ≡ true
      → passed_from (count + 1) (raised nodes node) (position + clause_length (get_or attempt.image.now position 0)) ≡ passed_from count nodes position
  unfolding pass_over
  pass_over-fails count nodes position h e = rw (left-after count most h, pass_over, e) refl

-- the place moves on with the count
pub place-turn : (image : List ℕ) (start count position : ℕ) → position ≡ clause_from image start count → position + clause_length (get_or image position 0) ≡ clause_from image start (count + 1)
place-turn image start count position at = ap (λ (p : ℕ). p + clause_length (get_or image p 0)) at ∙ sym (clause_from-next image count start)

-- what the check goes by in `pass_over`
pub ruleset passing_over = (pass_over-start, passed_from-end, pass_over-stops, pass_over-fails, place-turn, clause_from-end, clause_length-lt)
