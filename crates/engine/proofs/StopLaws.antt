-- A run from its steps: it goes on, or stops. Document 01, "A run takes steps until". Assumes nothing.
use Rattle.std.proofs.Common.{◌≡◌, refl, ap, ◌∙◌, true, false, List, ℕ, suc, ◌+◌, ◌-◌, ◌≤◌, ◌<◌, arith}
use Rattle.model.specs.declared.Outcome.{Outcome}
use Rattle.model.specs.declared.Outcome.TheVariants.{Tried, Extended, Answer, Back, Left, Wait, Finished, Spent, Full}
use Rattle.model.specs.Steps.{View, Stepped, stepped, step, Ran, ran, go_on, run_from}
use Rattle.engine.specs.Runs.{stops, last_count}

go_on-stops : (more : View → Ran) (count : ℕ) (outcome : Outcome) (v : View) → stops outcome ≡ true → ran outcome (last_count count outcome) v ≡ go_on more count outcome v
unfolding stops last_count
go_on-stops more count Tried v e = cc
go_on-stops more count Extended v e = cc
go_on-stops more count Answer v e = refl
go_on-stops more count Back v e = cc
go_on-stops more count Left v e = cc
go_on-stops more count Wait v e = refl
go_on-stops more count Finished v e = refl
go_on-stops more count Spent v e = refl
go_on-stops more count Full v e = refl

go_on-more : (more : View → Ran) (count : ℕ) (outcome : Outcome) (v : View) → stops outcome ≡ false → more v ≡ go_on more count outcome v
unfolding stops
go_on-more more count Tried v e = refl
go_on-more more count Extended v e = refl
go_on-more more count Answer v e = cc
go_on-more more count Back v e = refl
go_on-more more count Left v e = refl
go_on-more more count Wait v e = cc
go_on-more more count Finished v e = cc
go_on-more more count Spent v e = cc
go_on-more more count Full v e = cc

pub run_from-end : (budget count : ℕ) (image query : List ℕ) (worker : ℕ) (v : View) → budget ≤ count → ran Spent count v ≡ run_from (budget - count) count image query worker v
unfolding run_from
run_from-end budget count image query worker v h = let none : budget - count ≡ 0 = omega arith in rw none refl

module _ (budget count : ℕ) (image query : List ℕ) (worker : ℕ) (v next : View) (outcome : Outcome) (did : stepped outcome next ≡ step image query v worker) (left : count < budget) where
  turn : go_on (run_from (budget - (count + 1)) (count + 1) image query worker) count outcome next ≡ run_from (budget - count) count image query worker v
  unfolding run_from
  turn =
      let s : budget - count ≡ suc (budget - (count + 1)) = omega arith in
      rw s (ap (λ (d : Stepped). go_on (run_from (budget - (count + 1)) (count + 1) image query worker) count d.outcome d.after) did)

  pub run_from-stops : stops outcome ≡ true → ran outcome (last_count count outcome) next ≡ run_from (budget - count) count image query worker v
  run_from-stops e = go_on-stops (run_from (budget - (count + 1)) (count + 1) image query worker) count outcome next e ∙ turn

  pub run_from-more : stops outcome ≡ false → run_from (budget - (count + 1)) (count + 1) image query worker next ≡ run_from (budget - count) count image query worker v
  run_from-more e = go_on-more (run_from (budget - (count + 1)) (count + 1) image query worker) count outcome next e ∙ turn
