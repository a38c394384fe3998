-- The loop's invariant of `goals::goal_from`: what is left to do gives the whole, and the place is not too far. Assumes nothing.
use Rattle.std.proofs.Common.{◌≡◌, ◌+◌, ◌-◌, ◌*◌, ◌≤◌}
use Rattle.model.specs.Decoding.{goal_from}
use Rattle.goals.proofs.goal_from.Given as goal

abbrev pub invariant-loop : goal.invariant-loop
invariant-loop l = record { near : l.at ≤ l.start + 16 * l.counter; rest : goal_from l.image l.words l.at (l.goals - l.counter) ≡ goal_from l.image l.words l.start l.goals }
