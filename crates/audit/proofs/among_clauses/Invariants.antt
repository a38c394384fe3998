-- `audit::among_clauses` meets its contract. The loop's invariant: what is left to do gives the whole. Assumes nothing.
use Rattle.std.proofs.Common.{◌≡◌, ◌+◌, ◌-◌, ◌*◌, ◌≤◌}
use Rattle.model.specs.Damage.{among_clauses}
use Rattle.audit.proofs.among_clauses.Given as goal

abbrev pub invariant-loop : goal.invariant-loop
invariant-loop l = record {
  room : l.at + 65536 * (l.count - l.counter) ≤ l.start + 65536 * l.count;
  whole : among_clauses (l.count - l.counter) l.image l.at l.position ≡ among_clauses l.count l.image l.start l.position;
}
