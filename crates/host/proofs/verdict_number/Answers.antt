-- `host::verdict_number` meets its contract. Assumes nothing.
use Rattle.std.proofs.Common.{subst, arith}
use Rattle.host.specs.Near.{Near}
use Rattle.host.proofs.verdict_number.Goals as goal

pub overflow_add-result : goal.overflow_add-result
unfolding Near
overflow_add-result c = let near = subst Near c.in-Err.is c.requires in omega arith
