-- Whether a node is live, and then its first goal. Document 01, "A node is live". Assumes nothing.
use Rattle.std.specs.Prelude.{cond, List, ℕ, Option, Some, None}
use Rattle.goals.specs.declared.Call.{Call}
use Rattle.model.specs.Steps.{goal_of, predicate_of, live}

abbrev pub call_at : List ℕ → List ℕ → List ℕ → ℕ → Call
call_at image query nodes node = record { node = node; predicate = predicate_of image query nodes node; place = goal_of image query nodes node }

unfoldable pub live_goal : List ℕ → List ℕ → List ℕ → ℕ → Option Call
live_goal image query nodes node = cond (live image query nodes node) (Some (call_at image query nodes node)) None
