-- A trail entry written where the trail was 0, for a number that was 0 in the array, is taken out and cleared again, after whatever came later has been.
-- Document 01, rule 7, "Failure". Assumes nothing.
use Rattle.std.proofs.Common.{◌≡◌, refl, sym, ap, ◌∙◌, List, [], ◌∷◌, ℕ, zero, suc, ◌+◌, ◌*◌, ◌≤◌, ◌<◌, arith, length, get_or, set, length-set, get_or-set_same, get_or-set_other, set-set}
use Rattle.std.proofs.Math.Seq.{set-get_or}
use Rattle.model.specs.Memory.{number_at, value_at, cleared}
use Rattle.model.specs.Steps.{undone}

-- the places may be one
set-zero-comm : (words : List ℕ) (i j : ℕ) → set (set words i 0) j 0 ≡ set (set words j 0) i 0
set-zero-comm [] i j = refl
set-zero-comm (x ∷ words) zero zero = refl
set-zero-comm (x ∷ words) zero (suc j) = refl
set-zero-comm (x ∷ words) (suc i) zero = refl
set-zero-comm (x ∷ words) (suc i) (suc j) = ap (λ (l : List ℕ). x ∷ l) (set-zero-comm words i j)

set_back : (words : List ℕ) (i word : ℕ) → get_or words i 0 ≡ 0 → set (set words i word) i 0 ≡ words
set_back words i word was = set-set words i word 0 ∙ ap (set words i) (sym was) ∙ set-get_or words i 0

cleared-set : (count at : ℕ) (words : List ℕ) (i : ℕ) → cleared count at (set words i 0) ≡ set (cleared count at words) i 0
unfolding cleared
cleared-set zero at words i = refl
cleared-set (suc count) at words i = ap (cleared count (at + 1)) (set-zero-comm words i at) ∙ cleared-set count (at + 1) (set words at 0) i

cleared-before : (count at : ℕ) (words : List ℕ) (i : ℕ) → i < at → get_or (cleared count at words) i 0 ≡ get_or words i 0
unfolding cleared
cleared-before zero at words i h = refl
cleared-before (suc count) at words i h =
    cleared-before count (at + 1) (set words at 0) i (omega arith) ∙ get_or-set_other words at i 0 0 (λ e. omega arith)

undone-set : (count : ℕ) (trail : List ℕ) (at : ℕ) (array : List ℕ) (i : ℕ) → undone count trail at (set array i 0) ≡ set (undone count trail at array) i 0
unfolding undone
undone-set zero trail at array i = refl
undone-set (suc count) trail at array i =
    ap (undone count trail (at + 2)) (set-zero-comm array i (get_or trail at 0)) ∙ undone-set count trail (at + 2) (set array (get_or trail at 0) 0) i

-- an entry at a place of the trail, and so many after it
module _ (trail trail_next : List ℕ) (at number word count : ℕ) (later : cleared (2 * count) (at + 2) trail_next ≡ set (set trail at number) (at + 1) word) where
  pub cleared-entry : get_or trail at 0 ≡ 0 → get_or trail (at + 1) 0 ≡ 0 → cleared (2 * suc count) at trail_next ≡ trail
  unfolding cleared
  cleared-entry first second =
      let two : 2 * suc count ≡ suc (suc (2 * count)) = omega arith in
      let next : at + 1 + 1 ≡ at + 2 = omega arith in
      let kept : get_or (set trail at number) (at + 1) 0 ≡ 0 = get_or-set_other trail at (at + 1) number 0 (λ e. omega arith) ∙ second in
      ap (λ (n : ℕ). cleared n at trail_next) two
      ∙ ap (λ (n : ℕ). cleared (2 * count) n (set (set trail_next at 0) (at + 1) 0)) next
      ∙ ap (cleared (2 * count) (at + 2)) (set-zero-comm trail_next at (at + 1))
      ∙ cleared-set (2 * count) (at + 2) (set trail_next (at + 1) 0) at
      ∙ ap (λ (l : List ℕ). set l at 0) (cleared-set (2 * count) (at + 2) trail_next (at + 1) ∙ ap (λ (l : List ℕ). set l (at + 1) 0) later ∙ set_back (set trail at number) (at + 1) word kept)
      ∙ set_back trail at number first

  pub undone-entry : (array array_next : List ℕ) → at < length trail → get_or array number 0 ≡ 0
      → undone count trail_next (at + 2) array_next ≡ set array number word → undone (suc count) trail_next at array_next ≡ array
  unfolding undone
  undone-entry array array_next h was e =
      let entry : get_or trail_next at 0 ≡ number =
      sym (cleared-before (2 * count) (at + 2) trail_next at (omega arith)) ∙ ap (λ (l : List ℕ). get_or l at 0) later
      ∙ get_or-set_other (set trail at number) (at + 1) at word 0 (λ q. omega arith) ∙ get_or-set_same trail at number 0 h in
      ap (λ (n : ℕ). undone count trail_next (at + 2) (set array_next n 0)) entry
      ∙ undone-set count trail_next (at + 2) array_next number ∙ ap (λ (l : List ℕ). set l number 0) e ∙ set_back array number word was

-- so many words from a place on are there and are 0
abbrev pub Blank : ℕ → ℕ → List ℕ → Type 0
Blank count at trail = (at + count ≤ length trail) × ((k : ℕ) → k < count → get_or trail (at + k) 0 ≡ 0)

pub blank-less : (arity at : ℕ) (trail : List ℕ) → Blank (2 * suc arity) at trail → Blank (2 * arity) at trail
blank-less arity at trail blank = (omega (arith, blank.0), λ k h. blank.1 k (omega arith))

-- an entry of the child's trail
module _ (child count : ℕ) (trail : List ℕ) (number word : ℕ) where
  abbrev pub entered : List ℕ
  entered = set (set trail (number_at child count) number) (value_at child count) word

  pub blank-entered : (arity : ℕ) → Blank (2 * suc arity) (number_at child count) trail → Blank (2 * arity) (number_at child (count + 1)) entered
  blank-entered arity blank = (
    omega (arith, blank.0, length-set (set trail (number_at child count) number) (value_at child count) word, length-set trail (number_at child count) number),
    λ k h.
        get_or-set_other (set trail (number_at child count) number) (value_at child count) (number_at child (count + 1) + k) word 0 (λ e. omega arith)
        ∙ get_or-set_other trail (number_at child count) (number_at child (count + 1) + k) number 0 (λ e. omega arith)
        ∙ ap (λ (n : ℕ). get_or trail n 0) (let e : number_at child (count + 1) + k ≡ number_at child count + (k + 2) = omega arith in e) ∙ blank.1 (k + 2) (omega arith),
  )
