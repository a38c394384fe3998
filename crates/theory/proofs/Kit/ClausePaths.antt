-- Facts of clause paths as lists: how two paths that meet can part (`last_step`), the one list lemma that the theory of reports rests on.
-- Serves "A derivation is a path" of document 01's steps. Assumes nothing.
use Rattle.std.specs.Prelude.{[], ◌++◌, ◌∷◌, ◌⊎◌, ◌≡◌, refl, ℕ, length}
use Rattle.std.proofs.Common.{inl, inr, ap, sym, arith, length-append}
use Rattle.model.specs.Search.{ClausePath}

pub record Ends (a p : ClausePath) (j k : ℕ) (r : ClausePath) : Type 0 where
  pub same : a ≡ p
  pub index : j ≡ k
  pub rest : r ≡ []

pub record Above (a p : ClausePath) (j k : ℕ) (r : ClausePath) : Type 0 where
  pub between : ClausePath
  pub lower : p ≡ a ++ (j ∷ between)
  pub rest : r ≡ between ++ (k ∷ [])

clash : {a : ℕ} {s : ClausePath} → ◌≡◌ {A = ClausePath} [] (a ∷ s) → ⊥
clash e = let z : ◌≡◌ {A = ℕ} 0 1 = cc in omega arith

pub app-cons-not-nil : (a : ClausePath) (j : ℕ) (r : ClausePath) → a ++ (j ∷ r) ≡ [] → ⊥
app-cons-not-nil [] j r e = clash (sym e)
app-cons-not-nil (x ∷ a) j r e = clash (sym e)

pub last_step : (a p : ClausePath) (j k : ℕ) (r : ClausePath) → a ++ (j ∷ r) ≡ p ++ (k ∷ []) → Ends a p j k r ⊎ Above a p j k r
last_step [] [] j k r e = inl (record { same = refl; index = cc; rest = cc })
last_step [] (x ∷ p) j k r e = inr (record { between = p; lower = cc; rest = cc })
last_step (y ∷ a) [] j k r e = absurd (app-cons-not-nil a j r cc)
last_step (y ∷ a) (x ∷ p) j k r e = go (last_step a p j k r cc)
  where
    go : Ends a p j k r ⊎ Above a p j k r → Ends (y ∷ a) (x ∷ p) j k r ⊎ Above (y ∷ a) (x ∷ p) j k r
    go (inl h) = inl (record { same = cc; index = h.index; rest = h.rest })
    go (inr h) = inr (record { between = h.between; lower = cc; rest = h.rest })

pub longer : (a : ClausePath) (j : ℕ) (r : ClausePath) → a ++ (j ∷ r) ≡ a → ⊥
longer a j r e = omega (arith, ap length e, length-append a (j ∷ r))
