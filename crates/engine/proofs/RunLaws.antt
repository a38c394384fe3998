-- A run from its turns: so many steps that each say Tried, or one step. Document 01, "A run takes steps until". Assumes nothing.
use Rattle.std.proofs.Common.{◌≡◌, refl, sym, ap, subst, ◌∙◌, List, ℕ, zero, suc, ◌+◌, ◌-◌, ◌≤◌, ◌<◌, arith, add-zero}
use Rattle.model.specs.declared.Outcome.{Outcome}
use Rattle.model.specs.declared.Outcome.TheVariants.{Tried}
use Rattle.model.specs.Steps.{View, stepped, step, run_from}
use Rattle.turns.specs.declared.Progress.{Progress}
use Rattle.turns.specs.declared.Progress.TheVariants.{Passed, Did}
use Rattle.turns.specs.Progress.{Tries, Progressed}
use Rattle.engine.specs.Runs.{stops}
use Rattle.engine.proofs.StopLaws.{run_from-more}

-- so many steps that each say Tried are the first of a run
tries-run : (k budget count : ℕ) (image query : List ℕ) (worker : ℕ) (v after : View) → k ≤ budget - count → Tries k image query worker v after
    → run_from (budget - (count + k)) (count + k) image query worker after ≡ run_from (budget - count) count image query worker v
unfolding stops
tries-run zero budget count image query worker v after h same =
    ap (λ (n : ℕ). run_from (budget - n) n image query worker after) (add-zero count) ∙ ap (run_from (budget - count) count image query worker) (sym same)
tries-run (suc k) budget count image query worker v after h steps =
    let c : count + suc k ≡ count + 1 + k = omega arith in
    ap (λ (n : ℕ). run_from (budget - n) n image query worker after) c ∙ tries-run k budget (count + 1) image query worker steps.0 after (omega arith) steps.1.1
    ∙ run_from-more budget count image query worker v steps.0 Tried steps.1.0 (omega arith) refl

tries-one : (image query : List ℕ) (worker : ℕ) (v after : View) → Tries 1 image query worker v after → stepped Tried after ≡ step image query v worker
tries-one image query worker v after steps = ap (stepped Tried) (sym steps.1.1) ∙ steps.1.0

module _ (image query : List ℕ) (worker : ℕ) (v after : View) (progress : Progress) where
  -- a single turn of one step at most
  pub progress-one : (k : ℕ) → progress ≡ Passed k → Progressed progress 1 image query worker v after → stepped Tried after ≡ step image query v worker
  progress-one k is did =
      let p = subst (λ (g : Progress). Progressed g 1 image query worker v after) is did in
      let one : k ≡ 1 = omega (arith, p.0, p.1) in
      tries-one image query worker v after (subst (λ (n : ℕ). Tries n image query worker v after) one p.2)

  pub progress-did : (most : ℕ) (outcome : Outcome) → progress ≡ Did outcome → Progressed progress most image query worker v after → stepped outcome after ≡ step image query v worker
  progress-did most outcome is did = subst (λ (g : Progress). Progressed g most image query worker v after) is did

  pub progress-some : (most k : ℕ) → progress ≡ Passed k → Progressed progress most image query worker v after → (0 < k) × (k ≤ most)
  progress-some most k is did = let p = subst (λ (g : Progress). Progressed g most image query worker v after) is did in (p.0, p.1)

  pub progress-run : (budget k count : ℕ) → progress ≡ Passed k → Progressed progress (budget - count) image query worker v after
      → run_from (budget - (count + k)) (count + k) image query worker after ≡ run_from (budget - count) count image query worker v
  progress-run budget k count is did =
      let p = subst (λ (g : Progress). Progressed g (budget - count) image query worker v after) is did in
      tries-run k budget count image query worker v after p.1 p.2
