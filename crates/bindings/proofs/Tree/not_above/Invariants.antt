-- `bindings::Tree::not_above` meets its contract. The loop's invariant: what is left to do gives the whole. Assumes nothing.
use Rattle.std.proofs.Common.{◌≡◌, ◌-◌}
use Rattle.model.specs.Damage.{not_above}
use Rattle.bindings.proofs.Tree.not_above.Given as goal

abbrev pub invariant-loop : goal.invariant-loop
invariant-loop l = not_above (l.most - l.counter) l.self.nodes.now l.self.trail.now l.slot l.number ≡ not_above l.most l.self.nodes.now l.self.trail.now l.start l.number
