-- The loop's invariant of `terms::unify_head`: what is left to do gives the whole. Assumes nothing.
use Rattle.std.proofs.Common.{◌≡◌, ◌+◌, ◌-◌, ◌≤◌}
use Rattle.model.specs.Terms.{unify_head}
use Rattle.terms.specs.Stores.{SameStore}
use Rattle.terms.proofs.unify_head.Given as goal

abbrev pub invariant-loop-k : goal.invariant-loop-k
invariant-loop-k l = record {
  lent : SameStore l.initial.store l.store;
  few : l.count ≤ l.k;
  rest : unify_head (l.arity - l.k) l.image l.words l.child.slot l.child.base l.slot (l.head + l.k) (l.goal + l.k) l.store.array.now l.store.cells.now l.store.trail.now l.count
      ≡ unify_head l.arity l.image l.words l.child.slot l.child.base l.slot l.head l.goal l.initial.store.array.now l.initial.store.cells.now l.initial.store.trail.now 0;
}
