-- The rule set that an image's words say, and the places of clauses, goals and arguments in it: document 01, "Rule image".
-- Total functions of the words; of a legal image they give back what was encoded. Assumes nothing.
use Rattle.std.specs.Prelude.{cond, List, [], ◌∷◌, ℕ, zero, suc, ◌+◌, eqb, get_or}
use Rattle.model.specs.Fields.{predicate_count, arity, sequential, clause_count, first_clause, op, variables, goal_count, clause_length, variable_number, constant, goal_predicate}
use Rattle.model.specs.Image.{predicate_word}
use Rattle.model.specs.Rules.{Argument, con, var, Goal, call, Clause, Predicate, Rules}

-- the place after a goal: its word and as many arguments as its predicate's arity are passed
unfoldable pub goal_next : List ℕ → List ℕ → ℕ → ℕ
goal_next image words at = at + 1 + arity (predicate_word image (goal_predicate (get_or words at 0)))

-- the place of the goal so many goals after the one here
unfoldable pub goal_from : List ℕ → List ℕ → ℕ → ℕ → ℕ
goal_from image words at zero = at
goal_from image words at (suc goals) = goal_from image words (goal_next image words at) goals

-- the place of goal number `goal` of the clause here: behind the CLAUSE word and the head arguments
unfoldable pub goal_at : List ℕ → List ℕ → ℕ → ℕ → ℕ → ℕ
goal_at image words head_arity at goal = goal_from image words (at + 1 + head_arity) goal

-- the place after a clause, by its length field
unfoldable pub clause_next : List ℕ → ℕ → ℕ
clause_next image at = at + clause_length (get_or image at 0)

-- the place of the clause so many clauses after the one here
unfoldable pub clause_from : List ℕ → ℕ → ℕ → ℕ
clause_from image at zero = at
clause_from image at (suc clauses) = clause_from image (clause_next image at) clauses

-- the place of clause number `clause` of a predicate
unfoldable pub clause_at : List ℕ → ℕ → ℕ → ℕ
clause_at image predicate clause = clause_from image (first_clause (predicate_word image predicate)) clause

unfoldable pub decode_arg : ℕ → Argument
decode_arg word = cond (eqb (op word) 1) (var (variable_number word)) (con (constant word))

unfoldable pub decode_args : ℕ → List ℕ → ℕ → List Argument
decode_args zero words at = []
decode_args (suc count) words at = decode_arg (get_or words at 0) ∷ decode_args count words (at + 1)

unfoldable pub decode_goal : List ℕ → List ℕ → ℕ → Goal
decode_goal image words at =
    call (goal_predicate (get_or words at 0)) (decode_args (arity (predicate_word image (goal_predicate (get_or words at 0)))) words (at + 1))

unfoldable pub decode_goals : ℕ → List ℕ → List ℕ → ℕ → List Goal
decode_goals zero image words at = []
decode_goals (suc count) image words at = decode_goal image words at ∷ decode_goals count image words (goal_next image words at)

unfoldable pub decode_clause : List ℕ → List ℕ → ℕ → ℕ → Clause
decode_clause image words head_arity at = record {
  variables = variables (get_or words at 0);
  head = decode_args head_arity words (at + 1);
  goals = decode_goals (goal_count (get_or words at 0)) image words (at + 1 + head_arity);
}

unfoldable pub decode_clauses : ℕ → List ℕ → ℕ → ℕ → List Clause
decode_clauses zero image head_arity at = []
decode_clauses (suc count) image head_arity at = decode_clause image image head_arity at ∷ decode_clauses count image head_arity (clause_next image at)

unfoldable pub decode_predicate : List ℕ → ℕ → Predicate
decode_predicate image number = record {
  arity = arity (predicate_word image number);
  sequential = eqb (sequential (predicate_word image number)) 1;
  clauses =
      decode_clauses (clause_count (predicate_word image number)) image (arity (predicate_word image number)) (first_clause (predicate_word image number));
}

unfoldable pub decode_predicates : ℕ → List ℕ → ℕ → Rules
decode_predicates zero image number = []
decode_predicates (suc count) image number = decode_predicate image number ∷ decode_predicates count image (suc number)

unfoldable pub decode : List ℕ → Rules
decode image = decode_predicates (predicate_count (get_or image 0 0)) image 0

unfoldable pub decode_query : List ℕ → List ℕ → Clause
decode_query image query = decode_clause image query 0 0
