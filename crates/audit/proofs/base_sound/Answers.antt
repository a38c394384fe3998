-- `audit::base_sound` meets its contract: a base is a field of 12 bits, a count of variables one of 6. Assumes nothing.
use Rattle.std.proofs.Common.{arith}
use Rattle.memory.proofs.FieldBounds.{own_variables-lt, base-lt}
use Rattle.audit.proofs.base_sound.Goals as goal

pub overflow_add-result : goal.overflow_add-result
overflow_add-result c = let nodes = c.args.nodes.now in let parent = c.parent-parent.result in
    omega (arith, c.base-else-slot-eq0.ensures, c.own_variables.ensures, base-lt nodes parent, own_variables-lt nodes parent)
