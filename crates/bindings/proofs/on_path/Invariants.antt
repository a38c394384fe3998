-- `bindings::on_path` meets its contract. The loop's invariant: what is left to do gives the whole. Assumes nothing.
use Rattle.std.proofs.Common.{◌≡◌, ◌-◌}
use Rattle.model.specs.Damage.{on_path}
use Rattle.bindings.proofs.on_path.Given as goal

abbrev pub invariant-loop : goal.invariant-loop
invariant-loop l = on_path (l.most - l.counter) l.nodes l.slot l.other ≡ on_path l.most l.nodes l.start l.other
