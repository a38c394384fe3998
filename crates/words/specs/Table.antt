-- The code's table of widths has six places a kind; the row of each kind in it. Assumes nothing.
use Rattle.std.specs.Prelude.{ℕ}
use Rattle.model.specs.declared.Kind.{Kind}
use Rattle.model.specs.declared.Kind.TheVariants.{Header, Predicate, Clause, Var, Con, Goal, Node0, Node1, Node2, Node3, Value}

abbrev pub row_of : Kind → ℕ
row_of Header = 0
row_of Predicate = 1
row_of Clause = 2
row_of Var = 3
row_of Con = 4
row_of Goal = 5
row_of Node0 = 6
row_of Node1 = 7
row_of Node2 = 8
row_of Node3 = 9
row_of Value = 10
