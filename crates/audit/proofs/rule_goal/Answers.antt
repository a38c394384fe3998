-- `audit::rule_goal` meets its contract: an index is a field of 4 bits. Assumes nothing.
use Rattle.std.proofs.Common.{arith}
use Rattle.memory.proofs.FieldBounds.{goal_index-lt}
use Rattle.audit.proofs.rule_goal.Goals as goal

pub child_goal-requires : goal.child_goal-requires
child_goal-requires c = omega (arith, c.goal_index.ensures, goal_index-lt c.args.nodes.now c.parent-parent.result)
