-- `image::arguments` meets its contract. The loop's invariant: what is left to do gives the whole. Assumes nothing.
use Rattle.std.proofs.Common.{◌≡◌, ◌-◌}
use Rattle.model.specs.Image.{arguments}
use Rattle.image.proofs.arguments.Given as goal

abbrev pub invariant-loop : goal.invariant-loop
invariant-loop l = arguments (l.count - l.counter) l.words l.declared l.at l.seen ≡ arguments l.count l.words l.declared l.start l.before
