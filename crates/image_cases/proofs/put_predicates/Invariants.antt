-- The clauses of a predicate stand behind the predicates and at most 1,023 words for each predicate before. Assumes nothing.
use Rattle.std.proofs.Common.{◌+◌, ◌*◌, ◌≤◌}
use Rattle.image_cases.proofs.put_predicates.Given as goal

abbrev pub invariant-loop-p : goal.invariant-loop-p
invariant-loop-p l = l.at ≤ 129 + 1023 * l.p
