-- 65,535 steps a search at the most. Assumes nothing.
use Rattle.std.proofs.Common.{◌*◌, ◌≤◌}
use Rattle.pace.proofs.searches.Given as goal

abbrev pub invariant-loop : goal.invariant-loop
invariant-loop l = l.total ≤ 65535 * l.counter
