-- How large the fields of words are: each has the bits of its table. Document 01, "Rule image" and "Shared memory". Assumes nothing.
use mathlib.Core.List.{List}
use Prim.Native.Nat.{ℕ, ◌<◌}
use Rattle.model.specs.declared.Kind.TheVariants.{Predicate, Clause, Node0, Node1, Node2}
use Rattle.model.specs.Fields.{widths_of, arity, clause_count, first_clause, variables, clause_length}
use Rattle.model.specs.Memory.{node_word, parent, depth, entries, own_variables, base, clause_position, frame, goal_index, tried}
use Rattle.words.proofs.FieldLaws.{field_lt}

-- a predicate word and a CLAUSE word
module _ (word : ℕ) where
  pub arity-lt : arity word < 16
  unfolding widths_of
  arity-lt = field_lt (widths_of Predicate) word 0

  pub clause_count-lt : clause_count word < 1024
  unfolding widths_of
  clause_count-lt = field_lt (widths_of Predicate) word 2

  pub first_clause-lt : first_clause word < 131072
  unfolding widths_of
  first_clause-lt = field_lt (widths_of Predicate) word 3

  pub variables-lt : variables word < 64
  unfolding widths_of
  variables-lt = field_lt (widths_of Clause) word 1

  pub clause_length-lt : clause_length word < 65536
  unfolding widths_of
  clause_length-lt = field_lt (widths_of Clause) word 3

-- a slot's node words
module _ (nodes : List ℕ) (slot : ℕ) where
  pub parent-lt : parent nodes slot < 64
  unfolding widths_of
  parent-lt = field_lt (widths_of Node0) (node_word nodes slot 0) 1

  pub depth-lt : depth nodes slot < 64
  unfolding widths_of
  depth-lt = field_lt (widths_of Node0) (node_word nodes slot 0) 2

  pub entries-lt : entries nodes slot < 16
  unfolding widths_of
  entries-lt = field_lt (widths_of Node0) (node_word nodes slot 0) 3

  pub own_variables-lt : own_variables nodes slot < 64
  unfolding widths_of
  own_variables-lt = field_lt (widths_of Node0) (node_word nodes slot 0) 4

  pub base-lt : base nodes slot < 4096
  unfolding widths_of
  base-lt = field_lt (widths_of Node1) (node_word nodes slot 1) 0

  pub clause_position-lt : clause_position nodes slot < 131072
  unfolding widths_of
  clause_position-lt = field_lt (widths_of Node1) (node_word nodes slot 1) 2

  pub frame-lt : frame nodes slot < 64
  unfolding widths_of
  frame-lt = field_lt (widths_of Node2) (node_word nodes slot 2) 1

  pub goal_index-lt : goal_index nodes slot < 16
  unfolding widths_of
  goal_index-lt = field_lt (widths_of Node2) (node_word nodes slot 2) 2

  pub tried-lt : tried nodes slot < 1024
  unfolding widths_of
  tried-lt = field_lt (widths_of Node2) (node_word nodes slot 2) 3
