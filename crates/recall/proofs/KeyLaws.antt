-- A key names one goal, or one clause, so a place that is true of one naming is true of all. Assumes nothing.
use Rattle.std.proofs.Common.{◌≡◌, ap, ◌∙◌, cond, List, ℕ, ◌<◌, arith, eqb}
use Rattle.model.specs.Decoding.{clause_at}
use Rattle.model.specs.Goals.{goal_place}
use Rattle.recall.specs.Places.{goal_key, clause_key, GoalTold, ClauseTold}

module _ (image : List ℕ) where
  pub clause-told : (predicate clause place : ℕ) → clause < 1024 → place ≡ clause_at image predicate clause → ClauseTold image (clause_key predicate clause) place
  clause-told predicate clause place fits is other number small same =
      let p : predicate ≡ other = omega arith in
      let n : clause ≡ number = omega arith in
      is ∙ ap (λ (q : ℕ). clause_at image q clause) p ∙ ap (clause_at image other) n

  pub goal-told : (query : List ℕ) (position index place : ℕ) → index < 16 → place ≡ goal_place image (cond (eqb position 0) query image) position index
      → GoalTold image query (goal_key position index) place
  goal-told query position index place fits is other number small same =
      let p : position ≡ other = omega arith in
      let n : index ≡ number = omega arith in
      is ∙ ap (λ (q : ℕ). goal_place image (cond (eqb q 0) query image) q index) p ∙ ap (goal_place image (cond (eqb other 0) query image) other) n
