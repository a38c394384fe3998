-- `engine::run_in_view` meets its contract. Assumes nothing.
use Rattle.turns.proofs.HandLaws.{begun-at-hand}
use Rattle.engine.proofs.run_in_view.Goals as goal

pub run_on-requires : goal.run_on-requires
run_on-requires c = let a = c.args in begun-at-hand a.search.image.now a.search.query.now a.view.now.nodes.now _ _ _ c.begin.ensures.did
