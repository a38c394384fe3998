-- The sum so far is below the prime. Assumes nothing.
use Rattle.std.proofs.Common.{◌<◌}
use Rattle.engine_cases.proofs.answers.digest.Given as goal

abbrev pub invariant-loop-word : goal.invariant-loop-word
invariant-loop-word l = l.sum < 4294967311
