-- The fields of a word: document 01, "Rule image", the table of words, and "Shared memory", node words and values.
-- Fields are listed most significant first; a word has 32 bits. Assumes nothing.
use Rattle.std.specs.Prelude.{List, [], ◌∷◌, ℕ, suc, ◌+◌, ◌*◌, ◌/◌, ◌%◌, ◌^◌, get_or, drop}
use Rattle.model.specs.declared.Kind.{Kind}
use Rattle.model.specs.declared.Kind.TheVariants.{Header, Predicate, Clause, Var, Con, Goal, Node0, Node1, Node2, Node3, Value}

-- the table of widths, by word kind
unfoldable pub widths_of : Kind → List ℕ
-- edition, predicate count P, zero, image length
widths_of Header = 4 ∷ 10 ∷ 1 ∷ 17 ∷ []
-- arity, sequential, clause count, position of first clause
widths_of Predicate = 4 ∷ 1 ∷ 10 ∷ 17 ∷ []
-- op, variables, goals, length in words with this one
widths_of Clause = 4 ∷ 6 ∷ 6 ∷ 16 ∷ []
-- op, zero, number
widths_of Var = 4 ∷ 22 ∷ 6 ∷ []
-- op, constant
widths_of Con = 4 ∷ 28 ∷ []
-- op, predicate, zero
widths_of Goal = 4 ∷ 10 ∷ 18 ∷ []
-- used, parent, depth, trail entries, variables, zero
widths_of Node0 = 1 ∷ 6 ∷ 6 ∷ 4 ∷ 6 ∷ 9 ∷ []
-- base, zero, clause position
widths_of Node1 = 12 ∷ 3 ∷ 17 ∷ []
-- has goal, frame slot, goal index, clauses tried, zero
widths_of Node2 = 1 ∷ 6 ∷ 4 ∷ 10 ∷ 11 ∷ []
-- zero
widths_of Node3 = 32 ∷ []
-- tag, value
widths_of Value = 3 ∷ 29 ∷ []

-- which fields stand in the spread form, by word kind: all but the zero field
unfoldable pub kept_fields : Kind → List ℕ
kept_fields Header = 0 ∷ 1 ∷ 3 ∷ []
kept_fields Predicate = 0 ∷ 1 ∷ 2 ∷ 3 ∷ []
kept_fields Clause = 0 ∷ 1 ∷ 2 ∷ 3 ∷ []
kept_fields Var = 0 ∷ 2 ∷ []
kept_fields Con = 0 ∷ 1 ∷ []
kept_fields Goal = 0 ∷ 1 ∷ []
kept_fields Node0 = 0 ∷ 1 ∷ 2 ∷ 3 ∷ 4 ∷ []
kept_fields Node1 = 0 ∷ 2 ∷ []
kept_fields Node2 = 0 ∷ 1 ∷ 2 ∷ 3 ∷ []
kept_fields Node3 = []
kept_fields Value = 0 ∷ 1 ∷ []

-- the bits of all fields together
unfoldable pub total : List ℕ → ℕ
total [] = 0
total (width ∷ widths) = width + total widths

-- the bits below field i
unfoldable pub below : List ℕ → ℕ → ℕ
below widths i = total (drop (suc i) widths)

-- field i of a word; 0 where there is no such field
unfoldable pub field : List ℕ → ℕ → ℕ → ℕ
field widths word i = word / 2 ^ below widths i % 2 ^ get_or widths i 0

-- all fields of a word, in order
unfoldable pub fields : List ℕ → ℕ → List ℕ
fields [] word = []
fields (width ∷ widths) word = word / 2 ^ total widths ∷ fields widths (word % 2 ^ total widths)

-- the word that has these fields
unfoldable pub join : List ℕ → List ℕ → ℕ
join [] values = 0
join (width ∷ widths) [] = 0
join (width ∷ widths) (value ∷ values) = value * 2 ^ total widths + join widths values

-- the fields by name, in the order of the table
abbrev pub edition : ℕ → ℕ
edition word = field (widths_of Header) word 0

abbrev pub predicate_count : ℕ → ℕ
predicate_count word = field (widths_of Header) word 1

abbrev pub header_zero : ℕ → ℕ
header_zero word = field (widths_of Header) word 2

abbrev pub image_length : ℕ → ℕ
image_length word = field (widths_of Header) word 3

abbrev pub arity : ℕ → ℕ
arity word = field (widths_of Predicate) word 0

abbrev pub sequential : ℕ → ℕ
sequential word = field (widths_of Predicate) word 1

abbrev pub clause_count : ℕ → ℕ
clause_count word = field (widths_of Predicate) word 2

abbrev pub first_clause : ℕ → ℕ
first_clause word = field (widths_of Predicate) word 3

-- CLAUSE, VAR, CON and GOAL words all begin with the op
abbrev pub op : ℕ → ℕ
op word = field (widths_of Clause) word 0

abbrev pub variables : ℕ → ℕ
variables word = field (widths_of Clause) word 1

abbrev pub goal_count : ℕ → ℕ
goal_count word = field (widths_of Clause) word 2

abbrev pub clause_length : ℕ → ℕ
clause_length word = field (widths_of Clause) word 3

abbrev pub variable_zero : ℕ → ℕ
variable_zero word = field (widths_of Var) word 1

abbrev pub variable_number : ℕ → ℕ
variable_number word = field (widths_of Var) word 2

abbrev pub constant : ℕ → ℕ
constant word = field (widths_of Con) word 1

abbrev pub goal_predicate : ℕ → ℕ
goal_predicate word = field (widths_of Goal) word 1

abbrev pub goal_zero : ℕ → ℕ
goal_zero word = field (widths_of Goal) word 2
