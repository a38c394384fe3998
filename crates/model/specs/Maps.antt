-- Numbered places: what each holds, whether one below a bound passes a test, and the lowest that does.
-- Serves "The steps" of document 01: a slot that has a child, another worker there, the lowest free slot. Assumes nothing.
use Rattle.std.specs.Prelude.{Bool, true, false, cond, ℕ, zero, suc, eqb}
use Rattle.std.proofs.Math.Option.{Option, none, some}

-- f with v at place s
abbrev pub put {ℓ} : {A : Type ℓ} → (ℕ → A) → ℕ → A → ℕ → A
put f s v t = cond (eqb t s) v (f t)

unfoldable pub any_below : ℕ → (ℕ → Bool) → Bool
any_below zero p = false
any_below (suc n) p = elim (any_below n p) [ true ↦ true | false ↦ p n ]

unfoldable pub lowest_below : ℕ → (ℕ → Bool) → Option ℕ
lowest_below zero p = none
lowest_below (suc n) p = elim (lowest_below n p) [ some i ↦ some i | none ↦ elim (p n) [ true ↦ some n | false ↦ none ] ]
