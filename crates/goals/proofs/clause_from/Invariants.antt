-- The loop's invariant of `goals::clause_from`: what is left to do gives the whole, and the place is not too far. Assumes nothing.
use Rattle.std.proofs.Common.{◌≡◌, ◌+◌, ◌-◌, ◌*◌, ◌≤◌}
use Rattle.model.specs.Decoding.{clause_from}
use Rattle.goals.proofs.clause_from.Given as goal

abbrev pub invariant-loop : goal.invariant-loop
invariant-loop l = record { near : l.at ≤ l.start + 65536 * l.counter; rest : clause_from l.image l.at (l.clauses - l.counter) ≡ clause_from l.image l.start l.clauses }
