-- A lent view: the words in its slices, and that it holds the same slices. Assumes nothing.
use Rattle.std.specs.Prelude.{◌≡◌, List, ℕ}
use Rattle.memory.specs.declared.view.View.{View}
use Rattle.model.specs.Steps.{view}
use Rattle.model.specs.Steps.{View as WordView}

-- the words that the view's slices hold
abbrev pub words_of : View → WordView
words_of v = view v.nodes.now v.cells.now v.trail.now v.array.now v.workers.now

-- both views hold the same slices, whatever stands in them
abbrev pub SameSlices : View → View → Type 0
SameSlices v w =
    (v.nodes.ghost_name ≡ w.nodes.ghost_name) × (v.cells.ghost_name ≡ w.cells.ghost_name) × (v.trail.ghost_name ≡ w.trail.ghost_name)
    × (v.array.ghost_name ≡ w.array.ghost_name) × (v.workers.ghost_name ≡ w.workers.ghost_name)
