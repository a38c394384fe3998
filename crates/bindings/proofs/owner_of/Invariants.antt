-- `bindings::owner_of` meets its contract. The loop's invariant: what is left to do gives the whole. Assumes nothing.
use Rattle.std.proofs.Common.{◌≡◌, ◌-◌}
use Rattle.model.specs.Damage.{owner_of}
use Rattle.bindings.proofs.owner_of.Given as goal

abbrev pub invariant-loop : goal.invariant-loop
invariant-loop l = owner_of (l.most - l.counter) l.nodes l.slot l.number ≡ owner_of l.most l.nodes l.start l.number
