-- `extension::succeed` meets its contract: the goal's index is small. Assumes nothing.
use Rattle.std.proofs.Common.{arith}
use Rattle.memory.proofs.FieldBounds.{goal_index-lt}
use Rattle.extension.proofs.succeed.Goals as goal

pub child_goal-first-requires : goal.child_goal-first-requires
child_goal-first-requires c = omega (arith, goal_index-lt)
