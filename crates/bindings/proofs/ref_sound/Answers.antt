-- `bindings::ref_sound` meets its contract: a base is a field of 12 bits. Assumes nothing.
use Rattle.std.proofs.Common.{◌/◌, arith}
use Rattle.memory.proofs.FieldBounds.{base-lt}
use Rattle.bindings.proofs.ref_sound.Goals as goal

pub overflow_add-base : goal.overflow_add-base
overflow_add-base c = let a = c.args in omega (arith, c.base.ensures, base-lt a.nodes.now (a.address / 32))
