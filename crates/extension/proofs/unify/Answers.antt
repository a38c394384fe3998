-- `extension::unify` meets its contract: the fields' bounds, and how far a goal can stand. Assumes nothing.
use Rattle.std.proofs.Common.{arith}
use Rattle.goals.proofs.PlaceLaws.{goal_of-lt}
use Rattle.memory.proofs.FieldBounds.{arity-lt, variables-lt, own_variables-lt, base-lt, frame-lt}
use Rattle.extension.proofs.unify.Goals as goal

pub overflow_add-base : goal.overflow_add-base
overflow_add-base c = omega (arith, base-lt, own_variables-lt)

pub lay-requires : goal.lay-requires
lay-requires c = omega (arith, base-lt, own_variables-lt, variables-lt)

pub overflow_add-place : goal.overflow_add-place
overflow_add-place c = omega (arith, goal_of-lt)

pub unify_head-requires : goal.unify_head-requires
unify_head-requires c = omega (arith, goal_of-lt, frame-lt, arity-lt)
