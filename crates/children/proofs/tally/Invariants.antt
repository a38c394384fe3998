-- `children::tally` meets its contract. The loop's invariant: what is counted and what is left to count are all children. Assumes nothing.
use Rattle.children.proofs.ChildLaws.{Tallied}
use Rattle.children.proofs.tally.Given as goal

abbrev pub invariant-loop-slot : goal.invariant-loop-slot
invariant-loop-slot l = Tallied l.nodes l.children l.slot
