-- Definitions: the three laws that a search tree must keep, and the first step of a derivation.
-- Serves "A derivation is a path to a node without goals" of document 01's steps. Assumes nothing.
use Rattle.std.specs.Prelude.{false, true, ◌≡◌, ◌<◌, ℕ}
use Rattle.std.proofs.Math.Option.{some}
use Rattle.model.specs.Search.{ClausePath, Derivation, Search}

pub record Laws (T : Search) : Type 0 where
  pub child_counted : (n m : T.Node) (k : ℕ) → T.child n k ≡ some m → k < T.clause_count n
  pub count_without_goals : (n : T.Node) → T.without_goals n ≡ true → T.clause_count n ≡ 0
  pub root_has_goal : T.without_goals T.root ≡ false

module _ (T : Search) where
  pub record FirstStep (N : T.Node) (k : ℕ) (d : ClausePath) : Type 0 where
    pub node : T.Node
    pub by : T.child N k ≡ some node
    pub rest : Derivation T node d
