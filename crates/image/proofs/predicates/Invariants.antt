-- `image::predicates` meets its contract. The loop's invariant: what is left to do gives the whole. Assumes nothing.
use Rattle.std.proofs.Common.{◌≡◌, ◌-◌}
use Rattle.model.specs.Image.{predicates}
use Rattle.image.proofs.predicates.Given as goal

abbrev pub invariant-loop-number : goal.invariant-loop-number
invariant-loop-number l = predicates (l.count - l.number) l.image l.number l.at l.seen ≡ predicates l.count l.image 0 l.start l.before
