-- A search tree, as the machine and the theory of reports see it: no unification, no bindings.
-- Renders the tree of "The steps" in document 01: "A derivation is a path to a node without goals."
-- The definition gives one such tree for rules and a query. Assumes nothing.
use Rattle.std.specs.Prelude.{◌≡◌, Bool, true, List, [], ◌∷◌, ℕ}
use Rattle.std.proofs.Math.Option.{Option, none, some}

-- clause_count: how many clauses the first goal's predicate has, 0 without a goal. child N k: what clause k gives at N, none if its head does not unify.
pub record Search : Type 1 where
  pub Node : Type 0
  pub root : Node
  pub clause_count : Node → ℕ
  pub without_goals : Node → Bool
  pub sequential : Node → Bool
  pub child : Node → ℕ → Option Node

-- A node is named by the clauses taken from the root to it, by their indices 0, 1, ..
abbrev pub ClausePath : Type 0
ClausePath = List ℕ

module _ (T : Search) where
  -- the node at the end of a path that starts at N
  unfoldable pub node_at : T.Node → ClausePath → Option T.Node
  node_at N [] = some N
  node_at N (k ∷ d) = elim (T.child N k) [ none ↦ none | some M ↦ node_at M d ]

  pub record Derivation (N : T.Node) (d : ClausePath) : Type 0 where
    pub end : T.Node
    pub leads : node_at N d ≡ some end
    pub over : T.without_goals end ≡ true
