-- Definitions: a clause that stands at a place, with its goals and arguments: where they stand, what their words are and decode to, and that every variable is below the clause's count.
-- Document 01, "Rule image", "A clause is its CLAUSE word, its head arguments, then each GOAL word with its arguments". For the clauses of an image and for a query alike. Assumes nothing.
use Rattle.std.proofs.Math.Path.{◌≡◌}
use Rattle.std.proofs.Math.Option.{some}
use mathlib.Core.List.{List}
use Prim.Native.Nat.{ℕ, ◌+◌, ◌<◌}
use Rattle.std.proofs.Math.ListN.{length, get_elem?}
use Rattle.std.specs.Prelude.{get_or}
use Rattle.model.specs.Fields.{predicate_count, arity, goal_predicate}
use Rattle.model.specs.Image.{predicate_word}
use Rattle.model.specs.Rules.{Argument, Goal, Clause, Rules}
use Rattle.model.specs.Encoding.{Each, encode_arg, encode_goal, encode_clause, goal_args, clause_args, WellFormedGoal, WellFormedClause}
use Rattle.model.specs.Decoding.{decode_arg, decode_goal, decode_clause, goal_at}
use Rattle.meaning.specs.Stands.{Stands}
use Rattle.meaning.specs.Reading.{ArgBelow}
use Rattle.meaning.specs.ClauseWords.{ClauseFields}

-- an argument's word at a place
pub record ArgPlace (words : List ℕ) (count place : ℕ) (arg : Argument) : Type 0 where
  pub there : place < length words
  pub word : get_or words place 0 ≡ encode_arg arg
  pub decoded : decode_arg (get_or words place 0) ≡ arg
  pub below : ArgBelow count arg

-- a goal at a place: its word, and its arguments behind it
pub record GoalPlace (image words : List ℕ) (program : Rules) (count place : ℕ) (goal : Goal) : Type 0 where
  pub there : place < length words
  pub stands : Stands words place (encode_goal goal)
  pub decoded : decode_goal image words place ≡ goal
  pub good : WellFormedGoal program goal
  -- the predicate that its word names is there, and has as many arguments as the goal
  pub exists : goal_predicate (get_or words place 0) < predicate_count (get_or image 0 0)
  pub arity : arity (predicate_word image (goal_predicate (get_or words place 0))) ≡ length (goal_args goal)
  pub args : (i : ℕ) (arg : Argument) → get_elem? (goal_args goal) i ≡ some arg → ArgPlace words count (place + 1 + i) arg

-- a clause at a place: its word, its head arguments, its goals
pub record ClausePlace (image words : List ℕ) (program : Rules) (head_arity place : ℕ) (clause : Clause) : Type 0 where
  pub there : place < length words
  pub stands : Stands words place (encode_clause clause)
  pub decoded : decode_clause image words head_arity place ≡ clause
  pub good : WellFormedClause program head_arity clause
  pub fields : ClauseFields (get_or words place 0) clause.variables (length clause.goals) (length (encode_clause clause))
  pub heads : (i : ℕ) (arg : Argument) → get_elem? clause.head i ≡ some arg → ArgPlace words clause.variables (place + 1 + i) arg
  pub goals : (j : ℕ) (goal : Goal) → get_elem? clause.goals j ≡ some goal → GoalPlace image words program clause.variables (goal_at image words head_arity place j) goal
  pub variables : Each (ArgBelow clause.variables) (clause_args clause)
