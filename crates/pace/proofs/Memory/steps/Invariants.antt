-- What is taken and what is left are 65,535 steps at the most, and what is at hand stays true. Assumes nothing.
use Rattle.std.proofs.Common.{◌+◌, ◌≤◌}
use Rattle.turns.specs.Hand.{AtHand}
use Rattle.pace.proofs.Memory.steps.Given as goal

abbrev pub invariant-loop-left : goal.invariant-loop-left
invariant-loop-left l = (l.total + l.left ≤ 65535) × AtHand l.image l.query l.self.nodes l.hand.places l.hand.clauses l.hand.children

abbrev pub decreases-loop-left : goal.decreases-loop-left
decreases-loop-left l = l.left
