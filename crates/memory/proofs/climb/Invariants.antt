-- `memory::climb` meets its contract. The loop's invariant: what is left to do gives the whole. Assumes nothing.
use Rattle.std.proofs.Common.{◌≡◌, ◌+◌, ◌-◌, ◌*◌, ◌≤◌}
use Rattle.model.specs.Moves.{climbed}
use Rattle.memory.proofs.climb.Given as goal

abbrev pub invariant-loop : goal.invariant-loop
invariant-loop g l = record {
  room : l.count + 16 * (l.most - l.counter) ≤ l.passed + 16 * l.most;
  whole : climbed g.L.Leg.change (l.most - l.counter) l.nodes l.trail l.ancestor l.slot l.array l.count ≡ climbed g.L.Leg.change l.most l.nodes l.trail l.ancestor l.start l.initial.array l.passed;
}
