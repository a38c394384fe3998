-- `image::goals` meets its contract. The loop's invariant: what is left to do gives the whole. Assumes nothing.
use Rattle.std.proofs.Common.{◌≡◌, ◌-◌}
use Rattle.model.specs.Image.{goals}
use Rattle.image.proofs.goals.Given as goal

abbrev pub invariant-loop : goal.invariant-loop
invariant-loop l = goals (l.count - l.counter) l.image l.words l.declared l.at l.seen ≡ goals l.count l.image l.words l.declared l.start l.before
