-- `extension::grow` meets its contract: its sums fit. Assumes nothing.
use Rattle.std.proofs.Common.{arith}
use Rattle.memory.proofs.FieldBounds.{depth-lt, own_variables-lt, base-lt}
use Rattle.extension.proofs.grow.Goals as goal

pub overflow_add-depth : goal.overflow_add-depth
overflow_add-depth c = omega (arith, depth-lt)

pub overflow_add-base : goal.overflow_add-base
overflow_add-base c = omega (arith, base-lt, own_variables-lt)
