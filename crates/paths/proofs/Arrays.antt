-- What stands in a worker's array: 0, or a value that is trailed for that number at a slot on the path. So what is known of every trailed value on the path
-- is known of every word of the array. Document 01, "Refused calls", condition 21, "each worker's slot used and its array as demand 3 says". Assumes nothing.
use Rattle.std.specs.Prelude.{◌≡◌, Bool, true, false, List, eqb, ltb, length, get_or, set, take, replicate}
use Rattle.std.proofs.Math.Path.{refl, subst}
use Rattle.std.proofs.Common.{sym, length-take, get_or-set_same, get_or-set_other, eqb-true, ltb-true, ltb-false}
use Prim.Native.Nat.{ℕ, zero, suc, ◌+◌, ◌*◌, ◌≤◌, ◌<◌}
use native.Mathlib.Omega.{arith}
use Rattle.std.proofs.Math.ListN.{get_or-eq_default}
use Rattle.std.proofs.Math.Seq.{set_out}
use Rattle.std.proofs.lemmas.Bool.{eqb-false}
use Rattle.model.specs.Memory.{used, parent, depth, entries, cell_of, number_at, value_at}
use Rattle.model.specs.Moves.{Leg, leg, installed, climbed}
use Rattle.model.specs.Damage.{path_array, same_words}
use Rattle.paths.proofs.Held.{all_held}
use Rattle.paths.specs.Slots.{Links}
use Rattle.paths.specs.Ancestors.{OnPath, Ancestor}
use Rattle.paths.proofs.Ancestors.{ancestor, path-self, path_parent}

replicate-zero : (count k : ℕ) → ◌≡◌ {A = ℕ} (get_or (replicate count 0) k 0) 0
replicate-zero zero k = refl
replicate-zero (suc count) zero = refl
replicate-zero (suc count) (suc k) = replicate-zero count k

-- past its end nothing stands in a part of a list
take_past : (count k : ℕ) (words : List ℕ) → count ≤ k → get_or (take count words) k 0 ≡ 0
take_past count k words h = get_or-eq_default (take count words) 0 (omega (arith, length-take count words))

-- what is said of a number and its word
module _ (Says : ℕ → ℕ → Type 0) where
  set_says : (array : List ℕ) (number word : ℕ) → ((k : ℕ) → Says k (get_or array k 0)) → Says number word → (k : ℕ) → Says k (get_or (set array number word) k 0)
  set_says array number word said new k = go (eqb k number) refl (ltb number (length array)) refl
    where
      go : (same : Bool) → eqb k number ≡ same → (fits : Bool) → ltb number (length array) ≡ fits → Says k (get_or (set array number word) k 0)
      go false q fits p = subst (Says k) (sym (get_or-set_other array number k word 0 (eqb-false k number q))) (said k)
      go true q false p = subst (λ (l : List ℕ). Says k (get_or l k 0)) (sym (set_out array number word (ltb-false number (length array) p))) (said k)
      go true q true p =
          subst (λ (j : ℕ). Says j (get_or (set array number word) j 0)) (sym (eqb-true k number q))
          (subst (Says number) (sym (get_or-set_same array number word 0 (ltb-true number (length array) p))) new)

  installed-says : (trail : List ℕ) (count at : ℕ) (array : List ℕ) → ((k : ℕ) → Says k (get_or array k 0))
      → ((j : ℕ) → j < count → Says (get_or trail (at + 2 * j) 0) (get_or trail (at + 2 * j + 1) 0)) → (k : ℕ) → Says k (get_or (installed count trail at array) k 0)
  unfolding installed
  installed-says trail zero at array said new k = said k
  installed-says trail (suc count) at array said new k =
      installed-says trail count (at + 2) (set array (get_or trail at 0) (get_or trail (at + 1) 0))
      (set_says array (get_or trail at 0) (get_or trail (at + 1) 0) said
      (subst (λ (i : ℕ). Says (get_or trail i 0) (get_or trail (i + 1) 0)) (let e : at + 2 * 0 ≡ at = omega arith in e) (new 0 (omega arith))))
      (λ j h. subst (λ (i : ℕ). Says (get_or trail i 0) (get_or trail (i + 1) 0)) (let e : at + 2 * suc j ≡ at + 2 + 2 * j = omega arith in e) (new (suc j) (omega arith)))
      k

  module _ (nodes trail : List ℕ) (links : Links nodes) (node : ℕ) (fits : node < 64) (taken : used nodes node ≡ 1)
      (trailed : (slot : ℕ) → Ancestor nodes node slot → (entry : ℕ) → entry < entries nodes slot → Says (get_or trail (number_at slot entry) 0) (get_or trail (value_at slot entry) 0)) where
    slot-says : (slot : ℕ) (array : List ℕ) → Ancestor nodes node slot → ((k : ℕ) → Says k (get_or array k 0))
        → (k : ℕ) → Says k (get_or (installed (entries nodes slot) trail (cell_of slot 0) array) k 0)
    slot-says slot array a said =
        installed-says trail (entries nodes slot) (cell_of slot 0) array said
        (λ j h. subst (λ (i : ℕ). Says (get_or trail i 0) (get_or trail (i + 1) 0)) (let e : number_at slot j ≡ cell_of slot 0 + 2 * j = omega arith in e) (trailed slot a j h))

    climbed-says : (most slot : ℕ) (array : List ℕ) (passed : ℕ) → OnPath nodes node slot → ((k : ℕ) → Says k (get_or array k 0))
        → (k : ℕ) → Says k (get_or (climbed installed most nodes trail 0 slot array passed).array k 0)
    unfolding climbed
    climbed-says zero slot array passed on said k = said k
    climbed-says (suc most) slot array passed on said k =
        go (eqb slot 0) refl
        (climbed-says most (parent nodes slot) (installed (entries nodes slot) trail (cell_of slot 0) array) (passed + entries nodes slot))
      where
        next : Leg
        next = climbed installed most nodes trail 0 (parent nodes slot) (installed (entries nodes slot) trail (cell_of slot 0) array) (passed + entries nodes slot)

        go : (root : Bool) → eqb slot 0 ≡ root
            → (OnPath nodes node (parent nodes slot) → ((k : ℕ) → Says k (get_or (installed (entries nodes slot) trail (cell_of slot 0) array) k 0)) → (k : ℕ) → Says k (get_or next.array k 0))
            → Says k (get_or (elim root as (λ x. Leg) [ true ↦ leg array passed | false ↦ next ]).array k 0)
        go true q up = said k
        go false q up =
            let a = ancestor nodes links node slot fits taken on in
            up (a.path (parent nodes slot) (path_parent nodes links slot a.fits a.taken (eqb-false slot 0 q))) (slot-says slot array a said) k

    -- a worker's array at the node: every word of it, where the word 0 says nothing
    pub array-says : (words : List ℕ) → same_words 2048 (take 2048 words) (path_array nodes trail node) 0 ≡ true → ((k : ℕ) → Says k 0)
        → (k : ℕ) → Says k (get_or (take 2048 words) k 0)
    unfolding same_words path_array
    array-says words same none k = go (ltb k 2048) refl
      where
        path : (k : ℕ) → Says k (get_or (path_array nodes trail node) k 0)
        path =
            climbed-says (depth nodes node) node (replicate 2048 0) 0 (path-self nodes (depth nodes node) node) (λ k. subst (Says k) (sym (replicate-zero 2048 k)) (none k))

        go : (b : Bool) → ltb k 2048 ≡ b → Says k (get_or (take 2048 words) k 0)
        go true q =
            subst (Says k)
            (sym (eqb-true (get_or (take 2048 words) k 0) (get_or (path_array nodes trail node) k 0)
            (all_held (λ i. eqb (get_or (take 2048 words) i 0) (get_or (path_array nodes trail node) i 0)) 2048 same k (ltb-true k 2048 q))))
            (path k)
        go false q = subst (Says k) (sym (take_past 2048 k words (ltb-false k 2048 q))) (none k)
