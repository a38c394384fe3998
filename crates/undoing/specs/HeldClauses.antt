-- Definitions: that a slot's clause stands where its clause position says, and its first goal where its frame and index say.
-- Document 01, "Refused calls", condition 21, "a clause position among the tried clauses of the parent's first goal". Assumes nothing.
use Rattle.std.specs.Prelude.{ℕ, ◌≤◌}
use mathlib.Core.List.{List}
use Rattle.model.specs.Rules.{Goal, Clause}
use Rattle.model.specs.Decoding.{decode}
use Rattle.model.specs.Memory.{clause_position, frame}
use Rattle.model.specs.Goals.{clause_words}
use Rattle.model.specs.Steps.{goal_of}
use Rattle.meaning.specs.ClausePlaces.{GoalPlace, ClausePlace}

-- a slot's clause stands where its clause position says
pub record Holds (image query nodes : List ℕ) (slot : ℕ) : Type 0 where
  pub head_arity : ℕ
  pub narrow : head_arity ≤ 15
  pub clause : Clause
  pub place : ClausePlace image (clause_words image query nodes slot) (decode image) head_arity (clause_position nodes slot) clause

-- a slot's first goal stands where its frame and index say
abbrev pub Calls : List ℕ → List ℕ → List ℕ → ℕ → ℕ → Type 0
Calls image query nodes node count =
    (goal : Goal) × GoalPlace image (clause_words image query nodes (frame nodes node)) (decode image) count (goal_of image query nodes node) goal
