-- Facts of `put`: the place that was put, any other place, and the two cases of an equation about it.
-- Serves every change of slots, workers and cells in "The steps" of document 01. Assumes nothing.
use Rattle.std.specs.Prelude.{Bool, false, true, ◌≢◌, ◌⊎◌, ◌≡◌, refl, ℕ, eqb}
use Rattle.std.proofs.Common.{inl, inr, sym, arith, eq-eqb, eqb-true, ne_eqb}
use Rattle.std.proofs.Math.Option.{Option, none, some}
use Rattle.std.proofs.lemmas.Bool.{eqb-false}
use Rattle.model.specs.Maps.{put}

pub put_same : {A : Type 0} (f : ℕ → A) (s : ℕ) (v : A) → put f s v s ≡ v
put_same f s v = rw (eq-eqb s s refl)

pub put_other : {A : Type 0} (f : ℕ → A) (s t : ℕ) (v : A) → t ≢ s → put f s v t ≡ f t
put_other f s t v h = rw (ne_eqb t s h)

pub record Met {A : Type 0} (f : ℕ → A) (s : ℕ) (v : A) (t : ℕ) (x : A) : Type 0 where
  pub at : t ≡ s
  pub is : x ≡ v

pub record Passed {A : Type 0} (f : ℕ → A) (s t : ℕ) (x : A) : Type 0 where
  pub off : t ≢ s
  pub was : f t ≡ x

pub put-cases : {A : Type 0} (f : ℕ → A) (s : ℕ) (v : A) (t : ℕ) (x : A) → put f s v t ≡ x → Met f s v t x ⊎ Passed f s t x
put-cases f s v t x e = go (eqb t s) refl
  where
    go : (b : Bool) → eqb t s ≡ b → Met f s v t x ⊎ Passed f s t x
    go true q = inl (record { at = eqb-true t s q; is = sym (rw q at e) })
    go false q = inr (record { off = eqb-false t s q; was = rw q at e })

pub some-none : {A : Type 0} {o : Option A} {a : A} → o ≡ some a → o ≡ none → ⊥
some-none e q = let z : ◌≡◌ {A = ℕ} 0 1 = cc in omega arith

pub true-false : {A : Type 0} (b : Bool) → b ≡ true → b ≡ false → A
true-false b p q = let z : ◌≡◌ {A = ℕ} 0 1 = cc in absurd (omega arith)
