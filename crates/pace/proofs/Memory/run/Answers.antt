-- `pace::Memory::run` meets its contract: worker 0's array is within the arrays. Assumes nothing.
use Rattle.std.proofs.Common.{length-take, arith}
use Rattle.pace.proofs.Memory.run.Goals as goal

pub slice_bounds-array-end : goal.slice_bounds-array-end
slice_bounds-array-end c = simp length-take (omega arith)
