-- `engine::step_in_view` meets its contract. Assumes nothing.
use Rattle.std.proofs.Common.{arith}
use Rattle.memory.specs.Views.{words_of}
use Rattle.engine.proofs.RunLaws.{progress-one, progress-did}
use Rattle.turns.proofs.HandLaws.{begun-at-hand}
use Rattle.engine.proofs.step_in_view.Goals as goal

pub advance-requires : goal.advance-requires
advance-requires c = let a = c.args in (omega arith, begun-at-hand a.search.image.now a.search.query.now a.view.now.nodes.now _ _ _ c.begin.ensures.did)

pub returns-in-Passed-clause-did : goal.returns-in-Passed-clause-did
returns-in-Passed-clause-did c = let a = c.args in
    progress-one a.search.image.now a.search.query.now a.worker (words_of a.view.now) _ c.advance.result c.in-Passed.field-0 c.in-Passed.is c.advance.ensures.did

pub returns-in-Did-clause-did : goal.returns-in-Did-clause-did
returns-in-Did-clause-did c = let a = c.args in
    progress-did a.search.image.now a.search.query.now a.worker (words_of a.view.now) _ c.advance.result 1 c.in-Did.outcome c.in-Did.is c.advance.ensures.did
