-- `bindings::Tree::trail_sound` meets its contract: a slot has at most 15 entries. Assumes nothing.
use Rattle.std.proofs.Common.{arith}
use Rattle.memory.proofs.FieldBounds.{entries-lt}
use Rattle.bindings.proofs.Tree.trail_sound.Goals as goal

pub overflow_mul-count : goal.overflow_mul-count
overflow_mul-count c = omega (arith, c.entries-count.ensures, entries-lt c.args.self.nodes.now c.args.slot)

pub overflow_sub-count : goal.overflow_sub-count
overflow_sub-count c = omega (arith, c.entries-count.ensures, entries-lt c.args.self.nodes.now c.args.slot)
