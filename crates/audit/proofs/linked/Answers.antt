-- `audit::linked` meets its contract: a depth is a field of 6 bits. Assumes nothing.
use Rattle.std.proofs.Common.{arith}
use Rattle.memory.proofs.FieldBounds.{depth-lt}
use Rattle.audit.proofs.linked.Goals as goal

pub overflow_add-depth : goal.overflow_add-depth
overflow_add-depth c = omega (arith, c.depth-then-used-eq1.ensures, depth-lt c.args.nodes.now c.parent-parent.result)
