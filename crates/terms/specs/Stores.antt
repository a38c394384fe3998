-- A lent store: the words in its slices beside what unifying came to, and that it holds the same slices. Assumes nothing.
use Rattle.std.specs.Prelude.{◌≡◌}
use Rattle.terms.specs.declared.Store.{Store}
use Rattle.model.specs.Terms.{Unified, store, Store as WordStore}

-- the words that the store's slices hold, and what unifying came to
abbrev pub stored : Store → Unified → WordStore
stored s unified = store s.array.now s.cells.now s.trail.now unified

-- both stores hold the same slices, whatever stands in them
abbrev pub SameStore : Store → Store → Type 0
SameStore s t = (s.array.ghost_name ≡ t.array.ghost_name) × (s.cells.ghost_name ≡ t.cells.ghost_name) × (s.trail.ghost_name ≡ t.trail.ghost_name)
