-- `passing::Attempt::clashes` meets its contract. The loop's invariant: what is left to do gives the whole. Assumes nothing.
use Rattle.std.proofs.Common.{◌≡◌}
use Rattle.passing.proofs.PassLaws.{clashes_from, clashes_all}
use Rattle.passing.proofs.Attempt.clashes.Given as goal

abbrev pub invariant-loop-k : goal.invariant-loop-k
invariant-loop-k l = clashes_from l.self l.head l.k ≡ clashes_all l.self l.head
