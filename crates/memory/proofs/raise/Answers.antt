-- `memory::raise` meets its contract. Assumes nothing.
use Rattle.std.proofs.Common.{arith}
use Rattle.memory.proofs.FieldBounds.{tried-lt}
use Rattle.memory.proofs.raise.Goals as goal

pub overflow_add-tried : goal.overflow_add-tried
overflow_add-tried c = omega (arith, c.tried.ensures, tried-lt c.args.nodes.now c.args.node)
