-- Definition: what the check of image and query says of the clause that is taken at a node, and of the clause that holds the node's first goal.
-- Document 01, rule 7, "Failure: Tried; only that count has changed." Assumes nothing.
use Rattle.std.specs.Prelude.{◌≡◌, ℕ, ◌+◌, ◌≤◌, ◌<◌, get_or}
use mathlib.Core.List.{List}
use Rattle.model.specs.Fields.{op, arity, variables, variable_number}
use Rattle.model.specs.Image.{predicate_word}
use Rattle.model.specs.Memory.{own_variables, frame}
use Rattle.model.specs.Goals.{clause_words}
use Rattle.model.specs.Steps.{goal_of, predicate_of}
use Rattle.undoing.specs.Failing.{clause_taken}

-- the check of image and query refuses "variables over 32" and a "variable number not below the declared count": what that says of the clause that is taken at
-- a node, and of the clause that holds the node's first goal; the arguments stand behind the CLAUSE word and behind the GOAL word
pub record Judged (image query nodes : List ℕ) (node : ℕ) : Type 0 where
  pub heads : (k : ℕ) → k < arity (predicate_word image (predicate_of image query nodes node)) → op (get_or image (clause_taken image query nodes node + 1 + k) 0) ≡ 1
      → variable_number (get_or image (clause_taken image query nodes node + 1 + k) 0) < variables (get_or image (clause_taken image query nodes node) 0)
  pub few : variables (get_or image (clause_taken image query nodes node) 0) ≤ 32
  pub goals : (k : ℕ) → k < arity (predicate_word image (predicate_of image query nodes node))
      → op (get_or (clause_words image query nodes (frame nodes node)) (goal_of image query nodes node + 1 + k) 0) ≡ 1
      → variable_number (get_or (clause_words image query nodes (frame nodes node)) (goal_of image query nodes node + 1 + k) 0) < own_variables nodes (frame nodes node)
  pub few_held : own_variables nodes (frame nodes node) ≤ 32
