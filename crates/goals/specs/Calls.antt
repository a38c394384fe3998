-- What is known of a live node's first goal. Assumes nothing.
use Rattle.std.specs.Prelude.{◌≡◌, List, ℕ}
use Rattle.goals.specs.declared.Call.{Call}
use Rattle.model.specs.Steps.{goal_of, predicate_of}

-- the predicate and the place are those of the node's first goal
abbrev pub IsCall : List ℕ → List ℕ → List ℕ → Call → Type 0
IsCall image query nodes call = (call.predicate ≡ predicate_of image query nodes call.node) × (call.place ≡ goal_of image query nodes call.node)
