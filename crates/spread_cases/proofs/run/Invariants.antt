-- No more cases agree than have been run. Assumes nothing.
use Rattle.std.proofs.Common.{◌≤◌}
use Rattle.spread_cases.proofs.run.Given as goal

abbrev pub invariant-loop-i : goal.invariant-loop-i
invariant-loop-i g l = l.good ≤ l.i-counter
