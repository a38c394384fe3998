-- Definition: what a slot's fields say of its first goal. Document 01, "Refused calls",
-- condition 21, "has goal, frame and index follow the rules; tried is at most the clause count". Assumes nothing.
use Rattle.std.specs.Prelude.{List}
use Prim.Native.Nat.{ℕ, ◌≤◌, ◌<◌}
use Rattle.model.specs.Fields.{clause_count}
use Rattle.model.specs.Memory.{frame, goal_index, tried}
use Rattle.model.specs.Goals.{goals_of}
use Rattle.model.specs.Damage.{called_word}

-- what a slot's fields say of its first goal: its index is below its clause's goals, and the count of tried clauses at most its predicate's
pub record Indexed (image query nodes : List ℕ) (slot : ℕ) : Type 0 where
  pub index : goal_index nodes slot < goals_of image query nodes (frame nodes slot)
  pub most : tried nodes slot ≤ clause_count (called_word image query nodes slot)
