-- The rules of document 01, "The desk program", as abstract syntax: their encoding is the page's words, decoding gives them back, they are well formed;
-- and rule sets that are off by one are not. Assumes nothing.
use Rattle.std.specs.Prelude.{◌≡◌, refl, false, ℕ, ◌<◌}
use mathlib.Core.List.{[], ◌∷◌, flat_map}
use Rattle.std.proofs.Common.{arith}
use Rattle.model.specs.Fields.{widths_of, total, below, field, join}
use Rattle.model.specs.Rules.{con, var, call, Clause, Predicate, Rules}
use Rattle.model.specs.Encoding.{encode_arg, encode_goal, encode_body, encode_clause, encode_clauses, encode_mark, encode_predicates, encoded_length, encode, encode_query, seen_with, seen_after, goal_args, clause_args, arity_of, WellFormedArg, WellFormedGoal, WellFormedClause, WellFormedPred, WellFormed, WellFormedQuery}
use Rattle.model.specs.Decoding.{goal_next, clause_next, decode_arg, decode_args, decode_goal, decode_goals, decode_clause, decode_clauses, decode_predicate, decode_predicates, decode, decode_query}
use Rattle.model.proofs.Examples.{desk_image}

-- a fact with one constant
abbrev fact : ℕ → Clause
fact constant = record { variables = 0; head = con constant ∷ []; goals = [] }

-- p(5). p(6).
abbrev pub desk_rules : Rules
desk_rules = record { arity = 1; sequential = false; clauses = fact 5 ∷ fact 6 ∷ [] } ∷ []

-- ?- p(X).
abbrev pub desk_query : Clause
desk_query = record { variables = 1; head = []; goals = call 0 (var 0 ∷ []) ∷ [] }

pub desk-encodes : encode desk_rules ≡ desk_image
unfolding encode encoded_length encode_predicates encode_mark encode_clauses encode_clause encode_body encode_goal encode_arg flat_map join widths_of total
desk-encodes = refl

pub desk-query-encodes : encode_query desk_query ≡ 0x80410003 ∷ 0x90000000 ∷ 0x10000000 ∷ []
unfolding encode_query encode_clause encode_body encode_goal encode_arg flat_map join widths_of total
desk-query-encodes = refl

pub desk-decodes : decode desk_image ≡ desk_rules
unfolding decode decode_predicates decode_predicate decode_clauses decode_clause decode_goals decode_goal decode_args decode_arg clause_next goal_next field below widths_of total
desk-decodes = refl

pub desk-query-decodes : decode_query desk_image (0x80410003 ∷ 0x90000000 ∷ 0x10000000 ∷ []) ≡ desk_query
unfolding decode_query decode_clause decode_goals decode_goal decode_args decode_arg goal_next field below widths_of total
desk-query-decodes = refl

fact-formed : (constant : ℕ) → constant < 1000 → WellFormedClause desk_rules 1 (fact constant)
unfolding clause_args flat_map seen_after seen_with
fact-formed constant h = record { heads = refl; variables = omega arith; goal_count = omega arith; calls = tt; numbered = (omega arith, tt); declared = refl }

pub desk-formed : WellFormed desk_rules
unfolding encode encode_predicates encode_clauses encode_clause encode_body flat_map
desk-formed = record {
  nonempty = omega arith;
  predicate_count = omega arith;
  predicates = (record { arity = omega arith; clause_count = omega arith; clauses = (fact-formed 5 (omega arith), (fact-formed 6 (omega arith), tt)) }, tt);
  image_length = omega arith;
}

pub desk-query-formed : WellFormedQuery desk_rules desk_query
unfolding clause_args goal_args flat_map seen_after seen_with arity_of
desk-query-formed = record {
  nonempty = omega arith;
  clause = record { heads = refl; variables = omega arith; goal_count = omega arith; calls = ((omega arith, refl), tt); numbered = (omega arith, tt); declared = refl };
}

-- a predicate without clauses, of some arity
abbrev bare : ℕ → Predicate
bare arity = record { arity = arity; sequential = false; clauses = [] }

-- a clause without arguments and goals, of so many variables
abbrev empty : ℕ → Clause
empty own = record { variables = own; head = []; goals = [] }

-- what a well-formed rule set does not have
pub off-by-one :
    -- an arity of more than 4 bits
    (WellFormedPred desk_rules (bare 16) → ⊥)
    -- a constant of more than 28 bits
    × (WellFormedArg 0 (con 0x10000000) → ⊥)
    -- a first variable that is not number 0
    × (WellFormedArg 0 (var 1) → ⊥)
    -- a declared variable that never appears
    × (WellFormedClause desk_rules 0 (empty 1) → ⊥)
    -- a goal whose predicate is not there, and one with an argument too few
    × (WellFormedGoal desk_rules (call 1 []) → ⊥)
    × (WellFormedGoal desk_rules (call 0 []) → ⊥)
    -- no predicate at all
    × (WellFormed [] → ⊥)
    -- a query without a goal
    × (WellFormedQuery desk_rules (empty 0) → ⊥)
unfolding clause_args flat_map seen_after arity_of
off-by-one = (
  λ good. omega (arith, good.arity),
  λ good. omega (arith, good),
  λ good. omega (arith, good),
  λ good. omega (arith, good.declared),
  λ good. omega (arith, good.0),
  λ good. omega (arith, good.1),
  λ good. omega (arith, good.nonempty),
  λ good. omega (arith, good.nonempty),
)
