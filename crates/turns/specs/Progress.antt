-- How far one turn of a run comes: some steps that each say Tried, or one step. Document 01, "A run takes steps until". Assumes nothing.
use Rattle.std.specs.Prelude.{◌≡◌, List, ℕ, zero, suc, ◌≤◌, ◌<◌}
use Rattle.model.specs.declared.Outcome.TheVariants.{Tried}
use Rattle.model.specs.Steps.{View, stepped, step}
use Rattle.turns.specs.declared.Progress.{Progress}
use Rattle.turns.specs.declared.Progress.TheVariants.{Passed, Did}

-- so many steps of a worker, each of which says Tried, lead from one view to another
abbrev pub Tries : ℕ → List ℕ → List ℕ → ℕ → View → View → Type 0
Tries zero image query worker v after = v ≡ after
Tries (suc count) image query worker v after = (next : View) × ((stepped Tried next ≡ step image query v worker) × Tries count image query worker next after)

-- how far a run came: some steps that each say Tried, at most so many; or one step
abbrev pub Progressed : Progress → ℕ → List ℕ → List ℕ → ℕ → View → View → Type 0
Progressed (Passed count) most image query worker v after = (0 < count) × (count ≤ most) × Tries count image query worker v after
Progressed (Did outcome) most image query worker v after = stepped outcome after ≡ step image query v worker
