-- No more cases agree than have been run. Assumes nothing.
use Rattle.std.proofs.Common.{◌≤◌}
use Rattle.image_cases.proofs.run_cases.Given as goal

abbrev pub invariant-loop : goal.invariant-loop
invariant-loop g l = l.agree ≤ l.counter
