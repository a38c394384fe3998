-- `bindings::Tree::cell_sound` meets its contract: a base is a field of 12 bits. Assumes nothing.
use Rattle.std.proofs.Common.{arith}
use Rattle.memory.proofs.FieldBounds.{base-lt}
use Rattle.bindings.proofs.Tree.cell_sound.Goals as goal

pub overflow_add-number : goal.overflow_add-number
overflow_add-number c = omega (arith, c.base.ensures, base-lt c.args.self.nodes.now c.args.slot, c.requires)
