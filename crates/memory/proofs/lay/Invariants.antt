-- `memory::lay` meets its contract. The loop's invariant: what is left to do gives the whole. Assumes nothing.
use Rattle.std.proofs.Common.{◌≡◌, ◌+◌, ◌-◌}
use Rattle.model.specs.Steps.{laid}
use Rattle.memory.proofs.lay.Given as goal

abbrev pub invariant-loop-k : goal.invariant-loop-k
invariant-loop-k l = laid (l.count - l.k) (l.start + l.k) (l.first + l.k) l.cells ≡ laid l.count l.start l.first l.initial.cells
