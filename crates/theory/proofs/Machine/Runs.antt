-- Runs: what steps keep runs keep, how a run comes to say Finished, and that a run cut short and gone on with is one run.
-- Serves "A run takes steps until ..." of document 01's steps. Assumes nothing.
use Rattle.std.specs.Prelude.{◌≢◌}
use Rattle.std.proofs.Common.{◌∙◌, suc-add, zero-add}
use Rattle.std.proofs.Math.Path.{◌≡◌, ap, refl, sym}
use Prim.Native.Nat.{◌+◌, suc, zero, ℕ}
use native.Mathlib.Omega.{arith}
use Rattle.model.specs.Machine.{Machine, Ran, Size, Stopping, goes_on, run, step, stopping, stops_counted, stops_uncounted}
use Rattle.model.specs.Search.{Search}
use Rattle.model.specs.declared.Outcome.{Outcome}
use Rattle.model.specs.declared.Outcome.TheVariants.{Finished, Spent}

module _ (T : Search) (Z : Size) where
  pub run-goes_on : (n : ℕ) (M : Machine T) (w : ℕ) → stopping (step T Z M w).outcome ≡ goes_on
      → run T Z (suc n) M w ≡ record { outcome = (run T Z n (step T Z M w).machine w).outcome; count = suc (run T Z n (step T Z M w).machine w).count; machine = (run T Z n (step T Z M w).machine w).machine }
  unfolding run
  run-goes_on n M w q = rw (q, run) refl

  pub run-stops_counted : (n : ℕ) (M : Machine T) (w : ℕ) → stopping (step T Z M w).outcome ≡ stops_counted
      → run T Z (suc n) M w ≡ record { outcome = (step T Z M w).outcome; count = 1; machine = (step T Z M w).machine }
  unfolding run
  run-stops_counted n M w q = rw (q, run) refl

  pub run-stops_uncounted : (n : ℕ) (M : Machine T) (w : ℕ) → stopping (step T Z M w).outcome ≡ stops_uncounted
      → run T Z (suc n) M w ≡ record { outcome = (step T Z M w).outcome; count = 0; machine = M }
  unfolding run
  run-stops_uncounted n M w q = rw (q, run) refl

  -- what every step keeps, a run keeps
  pub run-keeps : (P : Machine T → Type 0) (w : ℕ) → ((M : Machine T) → P M → P (step T Z M w).machine) → (n : ℕ) (M : Machine T) → P M → P (run T Z n M w).machine
  unfolding run
  run-keeps P w k zero M p = p
  run-keeps P w k (suc n) M p = go (stopping (step T Z M w).outcome) refl (run-keeps P w k n (step T Z M w).machine)
    where
      go : (s : Stopping) → stopping (step T Z M w).outcome ≡ s → (P (step T Z M w).machine → P (run T Z n (step T Z M w).machine w).machine)
          → P (run T Z (suc n) M w).machine
      go goes_on q ih = rw (run-goes_on n M w q) (ih (k M p))
      go stops_counted q ih = rw (run-stops_counted n M w q) (k M p)
      go stops_uncounted q ih = rw (run-stops_uncounted n M w q) p

  -- a run that says Finished ended with a step that says so, after steps only
  pub record LastStep (P : Machine T → Type 0) (w : ℕ) (R : Ran T) : Type 0 where
    pub before : Machine T
    pub kept : P before
    pub says : (step T Z before w).outcome ≡ Finished
    pub same : R.machine ≡ (step T Z before w).machine

  pub run-last_step : (P : Machine T → Type 0) (w : ℕ) → ((M : Machine T) → P M → P (step T Z M w).machine) → (n : ℕ) (M : Machine T) → P M
      → (run T Z n M w).outcome ≡ Finished → LastStep P w (run T Z n M w)
  unfolding run stopping
  run-last_step P w k zero M p e = let z : ◌≡◌ {A = ℕ} 0 1 = cc in absurd (omega arith)
  run-last_step P w k (suc n) M p e = go (stopping (step T Z M w).outcome) refl (run-last_step P w k n (step T Z M w).machine)
    where
      uncounted : (o : Outcome) → stopping o ≡ stops_uncounted → o ≡ Finished → ⊥
      uncounted o q f = let y : stops_counted ≡ stops_uncounted = sym (ap stopping f) ∙ q in let z : ◌≡◌ {A = ℕ} 0 1 = cc in omega arith

      go : (s : Stopping) → stopping (step T Z M w).outcome ≡ s
          → (P (step T Z M w).machine → (run T Z n (step T Z M w).machine w).outcome ≡ Finished → LastStep P w (run T Z n (step T Z M w).machine w))
          → LastStep P w (run T Z (suc n) M w)
      go goes_on q ih =
          let r = run-goes_on n M w q in
          let l = ih (k M p) (sym (ap (λ (x : Ran T). x.outcome) r) ∙ e) in
          record { before = l.before; kept = l.kept; says = l.says; same = ap (λ (x : Ran T). x.machine) r ∙ l.same }
      go stops_counted q ih =
          let r = run-stops_counted n M w q in
          record { before = M; kept = p; says = sym (ap (λ (x : Ran T). x.outcome) r) ∙ e; same = ap (λ (x : Ran T). x.machine) r }
      go stops_uncounted q ih = absurd (uncounted (step T Z M w).outcome q (sym (ap (λ (x : Ran T). x.outcome) (run-stops_uncounted n M w q)) ∙ e))

  -- a run that ends Spent, then a second, is one run of the sum
  pub run-split : (a b w : ℕ) (M : Machine T) → (run T Z a M w).outcome ≡ Spent
      → run T Z (a + b) M w ≡ record {
        outcome = (run T Z b (run T Z a M w).machine w).outcome;
        count = (run T Z a M w).count + (run T Z b (run T Z a M w).machine w).count;
        machine = (run T Z b (run T Z a M w).machine w).machine;
      }
  unfolding run stopping
  run-split zero b w M e = rw (zero-add b) (ap (λ (k : ℕ). record { outcome = (run T Z b M w).outcome; count = k; machine = (run T Z b M w).machine }) (sym (zero-add (run T Z b M w).count)))
  run-split (suc a) b w M e = go (stopping (step T Z M w).outcome) refl (run-split a b w (step T Z M w).machine)
    where
      stop-spent : (o : Outcome) (s : Stopping) → stopping o ≡ s → s ≢ goes_on → o ≡ Spent → ⊥
      stop-spent o s q h f = h (sym q ∙ ap stopping f)

      next : Machine T
      next = (step T Z M w).machine

      Sum : Ran T → Ran T → Type 0
      Sum whole first = whole ≡ record { outcome = (run T Z b first.machine w).outcome; count = first.count + (run T Z b first.machine w).count; machine = (run T Z b first.machine w).machine }

      more : (x y z : Ran T) → Sum x y → z ≡ record { outcome = y.outcome; count = suc y.count; machine = y.machine }
          → Sum (record { outcome = x.outcome; count = suc x.count; machine = x.machine }) z
      more x y z h k = rw (k, h, suc-add y.count (run T Z b y.machine w).count) refl

      go : (s : Stopping) → stopping (step T Z M w).outcome ≡ s
          → ((run T Z a next w).outcome ≡ Spent → Sum (run T Z (a + b) next w) (run T Z a next w)) → Sum (run T Z (suc a + b) M w) (run T Z (suc a) M w)
      go goes_on q ih =
          let r = run-goes_on a M w q in
          rw (suc-add a b, run-goes_on (a + b) M w q)
          (more (run T Z (a + b) next w) (run T Z a next w) (run T Z (suc a) M w) (ih (sym (ap (λ (x : Ran T). x.outcome) r) ∙ e)) r)
      go stops_counted q ih = absurd (stop-spent (step T Z M w).outcome stops_counted q (λ h. let z : ◌≡◌ {A = ℕ} 0 1 = cc in omega arith) (sym (ap (λ (x : Ran T). x.outcome) (run-stops_counted a M w q)) ∙ e))
      go stops_uncounted q ih = absurd (stop-spent (step T Z M w).outcome stops_uncounted q (λ h. let z : ◌≡◌ {A = ℕ} 0 1 = cc in omega arith) (sym (ap (λ (x : Ran T). x.outcome) (run-stops_uncounted a M w q)) ∙ e))
