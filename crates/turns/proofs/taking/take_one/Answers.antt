-- `turns::taking::take_one` meets its contract. Assumes nothing.
use Rattle.memory.specs.Views.{words_of}
use Rattle.turns.proofs.HandLaws.{take-agrees, step-agrees, follows}
use Rattle.turns.proofs.taking.take_one.Goals as goal

pub returns-clause-counted : goal.returns-clause-counted
returns-clause-counted c = let a = c.args in
    let did = c.take_clause-outcome.ensures.did in
    let agrees = step-agrees a.child a.view.now.nodes.now _ _ _ did (take-agrees a.search.image.now a.search.query.now (words_of a.view.now) a.worker a.call.node a.child) in
    follows a.view.now.nodes.now _ a.children.now _ a.child _ c.word_at-before.ensures c.follow.ensures agrees c.requires.counted
