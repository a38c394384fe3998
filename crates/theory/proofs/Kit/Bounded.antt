-- Facts of `any_below` and `lowest_below`: what a test that passed or failed below a bound says.
-- Serves "has a child", "another worker there" and "the lowest free slot" of document 01's steps. Assumes nothing.
use Rattle.std.specs.Prelude.{Bool, false, true, ◌≡◌, refl, ◌<◌, suc, zero, ℕ, eqb}
use Rattle.std.proofs.Math.Option.{Option, none, some}
use Rattle.std.proofs.Common.{◌∙◌, ap, sym, arith, eqb-true}
use Rattle.std.proofs.lemmas.Bool.{eqb-false}
use Rattle.model.specs.Maps.{any_below, lowest_below}

pub record Hit (n : ℕ) (p : ℕ → Bool) : Type 0 where
  pub i : ℕ
  pub low : i < n
  pub passes : p i ≡ true

any_below-next : (n : ℕ) (p : ℕ → Bool) → any_below n p ≡ false → any_below (suc n) p ≡ p n
unfolding any_below
any_below-next n p e = rw (e, any_below)

any_below-stay : (n : ℕ) (p : ℕ → Bool) → any_below n p ≡ true → any_below (suc n) p ≡ true
unfolding any_below
any_below-stay n p e = rw (e, any_below)

pub any_below-hit : (n : ℕ) (p : ℕ → Bool) → any_below n p ≡ true → Hit n p
unfolding any_below
any_below-hit zero p e = let z : ◌≡◌ {A = ℕ} 0 1 = cc in absurd (omega arith)
any_below-hit (suc n) p e = go (any_below n p) refl (any_below-hit n p)
  where
    go : (b : Bool) → any_below n p ≡ b → (any_below n p ≡ true → Hit n p) → Hit (suc n) p
    go true q ih = let h = ih q in record { i = h.i; low = omega (arith, h.low); passes = h.passes }
    go false q ih = record { i = n; low = omega arith; passes = sym (any_below-next n p q) ∙ e }

pub any_below-none : (n : ℕ) (p : ℕ → Bool) → any_below n p ≡ false → (i : ℕ) → i < n → p i ≡ false
any_below-none zero p e i h = absurd (omega arith)
any_below-none (suc n) p e i h = go (any_below n p) refl (any_below-none n p)
  where
    go : (b : Bool) → any_below n p ≡ b → (any_below n p ≡ false → (i : ℕ) → i < n → p i ≡ false) → p i ≡ false
    go true q ih = let z : ◌≡◌ {A = ℕ} 0 1 = cc (any_below-stay n p q) in absurd (omega arith)
    go false q ih = last (eqb i n) refl
      where
        last : (b : Bool) → eqb i n ≡ b → p i ≡ false
        last true r = ap p (eqb-true i n r) ∙ sym (any_below-next n p q) ∙ e
        last false r = ih q i (let z = eqb-false i n r in omega arith)

pub record LowestAt (n : ℕ) (p : ℕ → Bool) (i : ℕ) : Type 0 where
  pub low : i < n
  pub passes : p i ≡ true
  pub least : (j : ℕ) → j < i → p j ≡ false

pub data Lowest (n : ℕ) (p : ℕ → Bool) : Option ℕ → Type 0 where
  nowhere : ((i : ℕ) → i < n → p i ≡ false) → Lowest n p none
  there : {i : ℕ} → LowestAt n p i → Lowest n p (some i)

pub lowest_below-found : (n : ℕ) (p : ℕ → Bool) → Lowest n p (lowest_below n p)
unfolding lowest_below
lowest_below-found zero p = nowhere (λ i h. absurd (omega arith))
lowest_below-found (suc n) p = go (lowest_below n p) (lowest_below-found n p)
  where
    all : ((i : ℕ) → i < n → p i ≡ false) → p n ≡ false → (i : ℕ) → i < suc n → p i ≡ false
    all h q i l = pick (eqb i n) refl
      where
        pick : (b : Bool) → eqb i n ≡ b → p i ≡ false
        pick true r = ap p (eqb-true i n r) ∙ q
        pick false r = h i (let z = eqb-false i n r in omega arith)

    last : ((i : ℕ) → i < n → p i ≡ false) → (b : Bool) → p n ≡ b → Lowest (suc n) p (elim b [ true ↦ some n | false ↦ none ])
    last h true q = there {i = n} (record { low = omega arith; passes = q; least = h })
    last h false q = nowhere (all h q)

    go : (o : Option ℕ) → Lowest n p o → Lowest (suc n) p (elim o [ some i ↦ some i | none ↦ elim (p n) [ true ↦ some n | false ↦ none ] ])
    go none (nowhere h) = last h (p n) refl
    go (some i) (there f) = there {i = i} (record { low = omega (arith, f.low); passes = f.passes; least = f.least })
