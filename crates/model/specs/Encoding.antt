-- A rule set as words, and which rule sets are well formed: document 01, "Rule image", the table of words and the paragraph after it.
-- The legal images are exactly the encodings of the well-formed rule sets, so this page can be read instead of the check. Assumes nothing.
use Rattle.std.specs.Prelude.{Bool, true, false, ◌≡◌, ℕ, zero, suc, ◌+◌, ◌^◌, ◌≤◌, ◌<◌, max, length, get_or}
use mathlib.Core.List.{List, [], ◌∷◌, ◌++◌, map, flat_map}
use Rattle.model.specs.declared.Kind.TheVariants.{Header, Predicate as PredicateWord, Clause as ClauseWord, Var, Con, Goal as GoalWord}
use Rattle.model.specs.Fields.{widths_of, join}
use Rattle.model.specs.Rules.{Argument, con, var, Goal, call, Clause, Predicate, Rules}

-- "words have 32 bits"
abbrev pub Word : ℕ → Type 0
Word word = word < 2 ^ 32

-- a slice of words, as it is read at any place
abbrev pub Words : List ℕ → Type 0
Words words = (i : ℕ) → Word (get_or words i 0)

-- VAR: op 1, zero, number. CON: op 2, constant
unfoldable pub encode_arg : Argument → ℕ
encode_arg (con constant) = join (widths_of Con) (2 ∷ constant ∷ [])
encode_arg (var number) = join (widths_of Var) (1 ∷ 0 ∷ number ∷ [])

-- GOAL: op 9, predicate, zero
abbrev pub encode_call : ℕ → ℕ
encode_call predicate = join (widths_of GoalWord) (9 ∷ predicate ∷ 0 ∷ [])

-- "each GOAL word with its arguments"
unfoldable pub encode_goal : Goal → List ℕ
encode_goal (call predicate args) = encode_call predicate ∷ map encode_arg args

-- "its head arguments, then each GOAL word with its arguments"
unfoldable pub encode_body : Clause → List ℕ
encode_body clause = map encode_arg clause.head ++ flat_map encode_goal clause.goals

-- CLAUSE: op 8, variables, goals, length in words with this one
unfoldable pub encode_clause : Clause → List ℕ
encode_clause clause =
    join (widths_of ClauseWord) (8 ∷ clause.variables ∷ length clause.goals ∷ suc (length (encode_body clause)) ∷ []) ∷ encode_body clause

unfoldable pub encode_clauses : Predicate → List ℕ
encode_clauses predicate = flat_map encode_clause predicate.clauses

unfoldable pub encode_mark : Bool → ℕ
encode_mark true = 1
encode_mark false = 0

-- predicate word: arity, sequential, clause count, position of first clause
abbrev pub encode_predicate : ℕ → Predicate → ℕ
encode_predicate at predicate =
    join (widths_of PredicateWord) (predicate.arity ∷ encode_mark predicate.sequential ∷ length predicate.clauses ∷ at ∷ [])

-- the first predicate's clauses stand at the position given, the next one's behind them. "A predicate may have no clauses; its position is then where they would stand"
unfoldable pub encode_predicates : ℕ → Rules → List ℕ
encode_predicates at [] = []
encode_predicates at (predicate ∷ rest) = encode_predicate at predicate ∷ encode_predicates (at + length (encode_clauses predicate)) rest

-- the words of an image: the header, the predicate words, all clauses
unfoldable pub encoded_length : Rules → ℕ
encoded_length program = 1 + length program + length (flat_map encode_clauses program)

-- header: edition 1, predicate count, zero, image length. "After the header come P predicate words, then all clauses, predicate by predicate"
unfoldable pub encode : Rules → List ℕ
encode program =
    join (widths_of Header) (1 ∷ length program ∷ 0 ∷ encoded_length program ∷ [])
    ∷ (encode_predicates (1 + length program) program ++ flat_map encode_clauses program)

-- "A query is one clause of arity 0, alone"
unfoldable pub encode_query : Clause → List ℕ
encode_query query = encode_clause query

-- each element of a list
abbrev pub Each : {A : Type 0} → (A → Type 0) → List A → Type 0
Each Good [] = Unit {0}
Each Good (element ∷ rest) = Good element × Each Good rest

-- CON: "constant 28". "Variables are numbered 0, 1, .. by first appearance": where so many were seen before, a variable is one of them or the next
abbrev pub WellFormedArg : ℕ → Argument → Type 0
WellFormedArg seen (con constant) = constant < 2 ^ 28
WellFormedArg seen (var number) = number ≤ seen

-- how many variables were seen, with this argument
unfoldable pub seen_with : ℕ → Argument → ℕ
seen_with seen (con constant) = seen
seen_with seen (var number) = max seen (suc number)

unfoldable pub seen_after : ℕ → List Argument → ℕ
seen_after seen [] = seen
seen_after seen (arg ∷ args) = seen_after (seen_with seen arg) args

abbrev pub WellFormedArgs : ℕ → List Argument → Type 0
WellFormedArgs seen [] = Unit {0}
WellFormedArgs seen (arg ∷ args) = WellFormedArg seen arg × WellFormedArgs (seen_with seen arg) args

unfoldable pub goal_args : Goal → List Argument
goal_args (call predicate args) = args

-- the arguments of a clause in the order of their words
unfoldable pub clause_args : Clause → List Argument
clause_args clause = clause.head ++ flat_map goal_args clause.goals

-- the arity of a predicate by its number; 0 where there is none
unfoldable pub arity_of : Rules → ℕ → ℕ
arity_of [] number = 0
arity_of (predicate ∷ rest) zero = predicate.arity
arity_of (predicate ∷ rest) (suc number) = arity_of rest number

-- "14 predicate not below P"; a goal has as many arguments as its predicate's arity
abbrev pub WellFormedGoal : Rules → Goal → Type 0
WellFormedGoal program (call predicate args) = (predicate < length program) × (length args ≡ arity_of program predicate)

pub record WellFormedClause (program : Rules) (arity : ℕ) (clause : Clause) : Type 0 where
  -- "its head arguments": as many as its predicate's arity
  pub heads : length clause.head ≡ arity
  -- "9 variables over 32"
  pub variables : clause.variables ≤ 32
  -- "10 goals over 16"
  pub goal_count : length clause.goals ≤ 16
  pub calls : Each (WellFormedGoal program) clause.goals
  -- "Variables are numbered 0, 1, .. by first appearance"
  pub numbered : WellFormedArgs 0 (clause_args clause)
  -- "12 variable number not below the declared count", "15 a declared variable never appears": as many are declared as appear
  pub declared : seen_after 0 (clause_args clause) ≡ clause.variables

pub record WellFormedPred (program : Rules) (predicate : Predicate) : Type 0 where
  -- predicate word: "arity 4"
  pub arity : predicate.arity ≤ 15
  -- predicate word: "clause count 10"
  pub clause_count : length predicate.clauses ≤ 1023
  pub clauses : Each (WellFormedClause program predicate.arity) predicate.clauses

pub record WellFormed (program : Rules) : Type 0 where
  -- "3 P is 0"
  pub nonempty : 1 ≤ length program
  -- header: "predicate count P 10"
  pub predicate_count : length program ≤ 1023
  pub predicates : Each (WellFormedPred program) program
  -- header: "image length 17". A clause's length needs no bound: 16 goals with 15 arguments each are far below 2^16 words
  pub image_length : length (encode program) ≤ 131071

-- "A query is one clause of arity 0, alone, with 1 to 16 goals"
pub record WellFormedQuery (program : Rules) (query : Clause) : Type 0 where
  pub nonempty : 1 ≤ length query.goals
  pub clause : WellFormedClause program 0 query
