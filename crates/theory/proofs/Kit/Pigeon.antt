-- Different numbers below n are at most n: so a path in n slots has a depth below n, and its variable numbers stay below 32 n.
-- Serves "depth 6" and "base 12" of document 01's node words. Assumes nothing.
use Rattle.std.specs.Prelude.{Bool, false, true, ◌⊎◌, ◌≡◌, refl, ◌<◌, ◌≤◌, suc, zero, ℕ, eqb, length}
use mathlib.Core.List.Memᴰ
use mathlib.Core.List.{List, Memᴰ, [], ◌∷◌}
use Rattle.std.proofs.Common.{inl, inr, arith, eqb-true}
use Rattle.std.proofs.lemmas.Bool.{eqb-false}

unfoldable pub Different : List ℕ → Type 0
Different [] = Unit {0}
Different (x ∷ l) = (Memᴰ x l → ⊥) × Different l

-- the first x taken out
take_out : ℕ → List ℕ → List ℕ
take_out x [] = []
take_out x (y ∷ l) = elim (eqb x y) [ true ↦ l | false ↦ y ∷ take_out x l ]

take_out-here : (x y : ℕ) (l : List ℕ) → eqb x y ≡ true → take_out x (y ∷ l) ≡ l
unfolding take_out
take_out-here x y l q = rw (q, take_out)

take_out-next : (x y : ℕ) (l : List ℕ) → eqb x y ≡ false → take_out x (y ∷ l) ≡ y ∷ take_out x l
unfolding take_out
take_out-next x y l q = rw (q, take_out)

take_out-length : (x : ℕ) (l : List ℕ) → length l ≤ suc (length (take_out x l))
unfolding take_out
take_out-length x [] = omega arith
take_out-length x (y ∷ l) = go (eqb x y) refl (take_out-length x l)
  where
    go : (b : Bool) → eqb x y ≡ b → length l ≤ suc (length (take_out x l)) → suc (length l) ≤ suc (length (take_out x (y ∷ l)))
    go true q ih = rw (take_out-here x y l q) (omega arith)
    go false q ih = rw (take_out-next x y l q) (omega arith)

take_out-member : (x z : ℕ) (l : List ℕ) → Memᴰ z (take_out x l) → Memᴰ z l
unfolding take_out
take_out-member x z [] m = m
take_out-member x z (y ∷ l) m = go (eqb x y) refl (take_out-member x z l)
  where
    go : (b : Bool) → eqb x y ≡ b → (Memᴰ z (take_out x l) → Memᴰ z l) → Memᴰ z (y ∷ l)
    go true q ih = Memᴰ.tail (rw (take_out-here x y l q) at m)
    go false q ih = which (Memᴰ.cases_cons (rw (take_out-next x y l q) at m))
      where
        which : (z ≡ y) ⊎ Memᴰ z (take_out x l) → Memᴰ z (y ∷ l)
        which (inl e) = Memᴰ.head e
        which (inr k) = Memᴰ.tail (ih k)

take_out-different : (x : ℕ) (l : List ℕ) → Different l → Different (take_out x l)
unfolding Different take_out
take_out-different x [] d = d
take_out-different x (y ∷ l) (h, d) = go (eqb x y) refl (take_out-different x l d)
  where
    go : (b : Bool) → eqb x y ≡ b → Different (take_out x l) → Different (take_out x (y ∷ l))
    go true q ih = rw (take_out-here x y l q) d
    go false q ih = rw (take_out-next x y l q) (λ m. h (take_out-member x y l m), ih)

take_out-gone : (x : ℕ) (l : List ℕ) → Different l → Memᴰ x (take_out x l) → ⊥
unfolding Different take_out
take_out-gone x [] d m = Memᴰ.not-nil m
take_out-gone x (y ∷ l) (h, d) m = go (eqb x y) refl (take_out-gone x l d)
  where
    go : (b : Bool) → eqb x y ≡ b → (Memᴰ x (take_out x l) → ⊥) → ⊥
    go true q ih = h (cast (eqb-true x y q) (rw (take_out-here x y l q) at m))
      where
        cast : x ≡ y → Memᴰ x l → Memᴰ y l
        cast e k = rw (← e) k
    go false q ih = which (Memᴰ.cases_cons (rw (take_out-next x y l q) at m))
      where
        which : (x ≡ y) ⊎ Memᴰ x (take_out x l) → ⊥
        which (inl e) = eqb-false x y q e
        which (inr k) = ih k

pub pigeon : (n : ℕ) (l : List ℕ) → Different l → ((x : ℕ) → Memᴰ x l → x < n) → length l ≤ n
pigeon zero [] d h = omega arith
pigeon zero (x ∷ l) d h = let z = h x (Memᴰ.head refl) in omega arith
pigeon (suc n) l d h =
    let ih = pigeon n (take_out n l) (take_out-different n l d) (λ x m. below x m) in
    let k = take_out-length n l in
    omega arith
  where
    below : (x : ℕ) → Memᴰ x (take_out n l) → x < n
    below x m = go (eqb x n) refl
      where
        go : (b : Bool) → eqb x n ≡ b → x < n
        go true q = absurd (take_out-gone n l d (rw (eqb-true x n q) at m))
        go false q = let a = h x (take_out-member n x l m) in let z = eqb-false x n q in omega arith
