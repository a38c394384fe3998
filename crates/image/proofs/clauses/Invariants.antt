-- `image::clauses` meets its contract. The loop's invariant: what is left to do gives the whole. Assumes nothing.
use Rattle.std.proofs.Common.{◌≡◌, ◌-◌}
use Rattle.model.specs.Image.{clauses}
use Rattle.image.proofs.clauses.Given as goal

abbrev pub invariant-loop : goal.invariant-loop
invariant-loop l = clauses (l.count - l.counter) l.image l.head_arity l.at l.seen ≡ clauses l.count l.image l.head_arity l.start l.before
