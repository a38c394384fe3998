-- `engine::run_on` meets its contract. The loop's invariant: what is left to do gives the whole, and what is at hand is true. Assumes nothing.
use Rattle.std.proofs.Common.{◌≡◌, ◌≤◌, ◌-◌}
use Rattle.model.specs.Steps.{run_from}
use Rattle.memory.specs.Views.{words_of, SameSlices}
use Rattle.turns.specs.Hand.{HandTrue, SameTables}
use Rattle.engine.proofs.run_on.Given as goal

abbrev pub invariant-loop-count : goal.invariant-loop-count
invariant-loop-count l = record {
  within : l.count ≤ l.budget;
  whole : run_from (l.budget - l.count) l.count l.search.image.now l.search.query.now l.worker (words_of l.view) ≡ run_from l.budget 0 l.search.image.now l.search.query.now l.worker (words_of l.initial.view);
  at_hand : HandTrue l.search.image.now l.search.query.now l.view.nodes.now l.hand;
  lent : SameSlices l.initial.view l.view × SameTables l.initial.hand l.hand;
}

abbrev pub decreases-loop-count : goal.decreases-loop-count
decreases-loop-count l = l.budget - l.count
