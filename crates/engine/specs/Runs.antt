-- When a run stops, and how it counts the step that it stops at. Document 01, "A run takes steps until". Assumes nothing.
use Rattle.std.specs.Prelude.{Bool, true, false, ℕ, ◌+◌}
use Rattle.model.specs.declared.Outcome.{Outcome}
use Rattle.model.specs.declared.Outcome.TheVariants.{Tried, Extended, Answer, Back, Left, Wait, Finished, Spent, Full}

unfoldable pub stops : Outcome → Bool
stops Tried = false
stops Extended = false
stops Answer = true
stops Back = false
stops Left = false
stops Wait = true
stops Finished = true
stops Spent = true
stops Full = true

-- Full is not counted
unfoldable pub last_count : ℕ → Outcome → ℕ
last_count count Tried = count + 1
last_count count Extended = count + 1
last_count count Answer = count + 1
last_count count Back = count + 1
last_count count Left = count + 1
last_count count Wait = count + 1
last_count count Finished = count + 1
last_count count Spent = count + 1
last_count count Full = count
