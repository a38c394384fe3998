-- `words::low` meets its contract. The loop's invariant: what is left to do gives the whole. Assumes nothing.
use Rattle.std.proofs.Common.{◌≡◌, ◌≤◌}
use Rattle.model.specs.Fields.{widths_of, below}
use Rattle.words.proofs.low.Given as goal

abbrev pub invariant-loop-j : goal.invariant-loop-j
invariant-loop-j l = (l.i ≤ l.j) × (l.j ≤ 5) × (l.bits ≡ below (widths_of l.kind) l.j)

abbrev pub decreases-loop-j : goal.decreases-loop-j
decreases-loop-j l = l.j
