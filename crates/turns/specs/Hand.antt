-- What a worker has at hand through a run: places that were found, and how many children each node has. It changes nothing that a step does. Assumes nothing.
use Rattle.std.specs.Prelude.{◌≡◌, List, ℕ}
use Rattle.memory.specs.Wiped.{Wiped}
use Rattle.recall.specs.Places.{GoalsKept, ClausesKept}
use Rattle.children.specs.Children.{Counted}
use Rattle.turns.specs.declared.hand.Hand.{Hand}

-- what is kept of goals and clauses is true of the rules, and the table of children of the node words
abbrev pub AtHand : List ℕ → List ℕ → List ℕ → List ℕ → List ℕ → List ℕ → Type 0
AtHand image query nodes places clauses children = GoalsKept image query places × ClausesKept image clauses × Counted nodes children

-- nothing is kept yet, and the children are counted
abbrev pub Begun : List ℕ → List ℕ → List ℕ → List ℕ → Type 0
Begun nodes places clauses children = Wiped places × Wiped clauses × Counted nodes children

-- the same of the tables that are lent in one piece
abbrev pub HandTrue : List ℕ → List ℕ → List ℕ → Hand → Type 0
HandTrue image query nodes hand = AtHand image query nodes hand.places.now hand.clauses.now hand.children.now

-- both hold the same tables, whatever stands in them
abbrev pub SameTables : Hand → Hand → Type 0
SameTables h k = (h.places.ghost_name ≡ k.places.ghost_name) × (h.clauses.ghost_name ≡ k.clauses.ghost_name) × (h.children.ghost_name ≡ k.children.ghost_name)
