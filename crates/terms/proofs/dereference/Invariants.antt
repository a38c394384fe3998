-- The loop's invariant of `terms::dereference`: what is left to do gives the whole. Assumes nothing.
use Rattle.std.proofs.Common.{◌≡◌, ◌-◌}
use Rattle.model.specs.Terms.{dereference}
use Rattle.terms.proofs.dereference.Given as goal

abbrev pub invariant-loop : goal.invariant-loop
invariant-loop l = dereference (2048 - l.counter) l.array l.cells l.at.0 ≡ dereference 2048 l.array l.cells l.fn.start.0
