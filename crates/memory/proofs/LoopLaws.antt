-- One turn of each loop over memory words: stores in a row, entries of a trail, a search from a number on, a walk up. Assumes nothing.
use Rattle.std.proofs.Common.{◌≡◌, refl, sym, ap, ◌∙◌, Bool, true, false, not, ◌&&◌, List, [], ◌∷◌, ◌++◌, ℕ, zero, suc, ◌+◌, ◌-◌, ◌*◌, ◌≤◌, ◌<◌, eqb, min, length, get_or, set, take, drop, replicate, length-set, add-zero, append_assoc, arith}
use Rattle.std.proofs.lemmas.List.{take-append-drop, take_more_set, drop-set-lt}
use Rattle.std.proofs.Math.Seq.{set_out, drop-drop}
use borrow.Author.Tests.{eq-eqb, ne_eqb}
use borrow.Rule.Slice.PartMut.{put_mid, post_of}
use Rattle.words.proofs.Ranges.{left-after, none-left}
use Rattle.model.specs.Memory.{cleared, vno_word, used, parent, entries}
use Rattle.model.specs.Steps.{child_from, another_from, undone, laid}
use Rattle.model.specs.Damage.{each}
use Rattle.model.specs.Moves.{installed, climbed, leg}

-- stores of 0 past the end do nothing
cleared-past : (count at : ℕ) (words : List ℕ) → length words ≤ at → cleared count at words ≡ words
unfolding cleared
cleared-past zero at words h = refl
cleared-past (suc count) at words h = ap (cleared count (at + 1)) (set_out words at 0 h) ∙ cleared-past count (at + 1) words (omega arith)

-- stores of 0 in a row fill the part of the list that is there
pub cleared-part : (count at n : ℕ) (words : List ℕ) → at + n ≤ length words → n ≤ count → (n < count → length words ≤ at + n)
    → put_mid at n words (replicate n 0) ≡ cleared count at words
unfolding cleared
cleared-part zero at zero words h l e = take-append-drop at words
cleared-part zero at (suc n) words h l e = absurd (omega arith)
cleared-part (suc count) at zero words h l e = take-append-drop at words ∙ sym (cleared-past (suc count) at words (omega (arith, e (omega arith))))
cleared-part (suc count) at (suc n) words h l e =
    let long = length-set words at 0 in
    let within : at < length words = omega arith in
    ap (λ (rest : List ℕ). take at words ++ (0 ∷ (replicate n 0 ++ rest)))
    (drop-drop (suc n) at words ∙ ap (λ (m : ℕ). drop m words) (let s : at + suc n ≡ at + 1 + n = omega arith in s)
    ∙ sym (drop-drop n (at + 1) (set words at 0) ∙ drop-set-lt (at + 1 + n) words at 0 (omega arith)))
    ∙ sym (append_assoc (take at words) (0 ∷ []) (replicate n 0 ++ post_of (at + 1) n (set words at 0)))
    ∙ ap (λ (front : List ℕ). front ++ (replicate n 0 ++ post_of (at + 1) n (set words at 0))) (sym (take_more_set words at 0 within))
    ∙ cleared-part count (at + 1) n (set words at 0) (omega (arith, long)) (omega arith) (λ m. omega (arith, long, e (omega arith)))

pub cleared-none : (count at end : ℕ) (words : List ℕ) → end ≡ min (length words) (at + count) → end ≤ at → words ≡ cleared count at words
unfolding cleared
cleared-none zero at end words e h = refl
cleared-none (suc count) at end words e h = sym (cleared-past (suc count) at words (omega arith))

pub cleared-filled : (count at end : ℕ) (words part : List ℕ) → end ≡ min (length words) (at + count) → at < end → part ≡ replicate (end - at) 0
    → put_mid at (end - at) words part ≡ cleared count at words
cleared-filled count at end words part e h p = rw p (cleared-part count at (end - at) words (omega arith) (omega arith) (λ m. omega arith))

-- one turn of a loop that stores, at number k of so many, and its end
pub laid-turn : (count k start first : ℕ) (cells next : List ℕ) → k < count → next ≡ set cells (start + k) (vno_word (first + k))
    → laid (count - (k + 1)) (start + (k + 1)) (first + (k + 1)) next ≡ laid (count - k) (start + k) (first + k) cells
unfolding laid
laid-turn count k start first cells next h e =
    let at : start + (k + 1) ≡ start + k + 1 = omega arith in
    let number : first + (k + 1) ≡ first + k + 1 = omega arith in
    rw (left-after k count h, at, number, e) refl

pub laid-end : (count k at number : ℕ) (cells : List ℕ) → count ≤ k → cells ≡ laid (count - k) at number cells
unfolding laid
laid-end count k at number cells h = rw (none-left k count h) refl

pub undone-turn : (count k : ℕ) (trail : List ℕ) (start : ℕ) (array next : List ℕ) → k < count → next ≡ set array (get_or trail (start + 2 * k) 0) 0
    → undone (count - (k + 1)) trail (start + 2 * (k + 1)) next ≡ undone (count - k) trail (start + 2 * k) array
unfolding undone
undone-turn count k trail start array next h e =
    let at : start + 2 * (k + 1) ≡ start + 2 * k + 2 = omega arith in
    rw (left-after k count h, at, e) refl

pub undone-end : (count k : ℕ) (trail : List ℕ) (at : ℕ) (array : List ℕ) → count ≤ k → array ≡ undone (count - k) trail at array
unfolding undone
undone-end count k trail at array h = rw (none-left k count h) refl

pub installed-turn : (count k : ℕ) (trail : List ℕ) (start : ℕ) (array next : List ℕ) → k < count → next ≡ set array (get_or trail (start + 2 * k) 0) (get_or trail (start + 2 * k + 1) 0)
    → installed (count - (k + 1)) trail (start + 2 * (k + 1)) next ≡ installed (count - k) trail (start + 2 * k) array
unfolding installed
installed-turn count k trail start array next h e =
    let at : start + 2 * (k + 1) ≡ start + 2 * k + 2 = omega arith in
    rw (left-after k count h, at, e) refl

pub installed-end : (count k : ℕ) (trail : List ℕ) (at : ℕ) (array : List ℕ) → count ≤ k → array ≡ installed (count - k) trail at array
unfolding installed
installed-end count k trail at array h = rw (none-left k count h) refl

-- a test of so many numbers holds of each
pub each_holds : (test : ℕ → Bool) (count at : ℕ) → each count test at ≡ true → (k : ℕ) → k < count → test (at + k) ≡ true
unfolding each
each_holds test zero at e k h = absurd (omega arith)
each_holds test (suc count) at e k h = go (test at) refl k h e (each_holds test count (at + 1))
  where
    go : (b : Bool) → test at ≡ b → (k : ℕ) → k < suc count → elim b [ true ↦ each count test (at + 1) | false ↦ false ] ≡ true
        → (each count test (at + 1) ≡ true → (j : ℕ) → j < count → test (at + 1 + j) ≡ true) → test (at + k) ≡ true
    go true q zero h e rest = ap test (add-zero at) ∙ q
    go true q (suc k) h e rest = ap test (let s : at + suc k ≡ at + 1 + k = omega arith in s) ∙ rest e k (omega arith)
    go false q k h e rest = let z : ◌≡◌ {A = ℕ} 0 1 = cc in absurd (omega arith)

-- a node's child, and another worker at a node: none left to look at, one found, one passed
module _ (nodes : List ℕ) (node : ℕ) where
  abbrev pub child_test : ℕ → Bool
  child_test slot = eqb (used nodes slot) 1 && eqb (parent nodes slot) node

  pub child_from-none : (slot : ℕ) → child_from 0 nodes node slot ≡ false
  unfolding child_from
  child_from-none slot = refl

  pub child_from-hit : (left slot : ℕ) → child_test slot ≡ true → child_from (suc left) nodes node slot ≡ true
  unfolding child_from
  child_from-hit left slot e = rw (e, child_from) refl

  pub child_from-miss : (left slot : ℕ) → child_test slot ≡ false → child_from (suc left) nodes node slot ≡ child_from left nodes node (slot + 1)
  unfolding child_from
  child_from-miss left slot e = rw (e, child_from) refl

module _ (workers : List ℕ) (worker node : ℕ) where
  abbrev pub worker_test : ℕ → Bool
  worker_test other = not (eqb other worker) && eqb (get_or workers other 0) node

  pub another_from-none : (other : ℕ) → another_from 0 workers worker node other ≡ false
  unfolding another_from
  another_from-none other = refl

  pub another_from-hit : (left other : ℕ) → worker_test other ≡ true → another_from (suc left) workers worker node other ≡ true
  unfolding another_from
  another_from-hit left other e = rw (e, another_from) refl

  pub another_from-miss : (left other : ℕ) → worker_test other ≡ false → another_from (suc left) workers worker node other ≡ another_from left workers worker node (other + 1)
  unfolding another_from
  another_from-miss left other e = rw (e, another_from) refl

-- a walk up, whatever it does to the array, k slots of so many climbed: it has climbed as often as it may, it is there, or it goes on
module _ (change : ℕ → List ℕ → ℕ → List ℕ → List ℕ) (nodes trail : List ℕ) (ancestor : ℕ) where
  pub climbed-end : (most k slot passed : ℕ) (array : List ℕ) → most ≤ k → leg array passed ≡ climbed change (most - k) nodes trail ancestor slot array passed
  unfolding climbed
  climbed-end most k slot passed array h = rw (none-left k most h) refl

  pub climbed-there : (most k slot passed : ℕ) (array : List ℕ) → k < most → slot ≡ ancestor → leg array passed ≡ climbed change (most - k) nodes trail ancestor slot array passed
  unfolding climbed
  climbed-there most k slot passed array h e = rw (left-after k most h, climbed, eq-eqb slot ancestor e) refl

  pub climbed-turn : (most k slot passed here up : ℕ) (array next : List ℕ) → k < most → (slot ≡ ancestor → ⊥)
      → here ≡ entries nodes slot → up ≡ parent nodes slot → next ≡ change here trail (32 * slot) array
      → climbed change (most - (k + 1)) nodes trail ancestor up next (passed + here) ≡ climbed change (most - k) nodes trail ancestor slot array passed
  unfolding climbed
  climbed-turn most k slot passed here up array next h n eh eu en =
      rw (left-after k most h, en, eh, eu, ne_eqb slot ancestor n, climbed, add-zero (32 * slot)) refl
