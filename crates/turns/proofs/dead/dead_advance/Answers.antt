-- `turns::dead::dead_advance` meets its contract. Assumes nothing.
use Rattle.std.proofs.Common.{eqb}
use Rattle.memory.specs.Views.{words_of}
use Rattle.model.specs.Steps.{another_there}
use Rattle.turns.proofs.HandLaws.{dead-agrees, step-agrees, follows}
use Rattle.turns.proofs.dead.dead_advance.Goals as goal

pub returns-clause-counted : goal.returns-clause-counted
returns-clause-counted c = let a = c.args in
    let v = words_of a.view.now in
    let did = c.dead_step-outcome.ensures.did in
    let agrees = step-agrees a.node a.view.now.nodes.now _ _ _ did (dead-agrees c.has_child-child.result (eqb a.node 0) (another_there a.view.now.workers.now a.worker a.node) v a.worker a.node) in
    follows a.view.now.nodes.now _ a.children.now _ a.node _ c.word_at-before.ensures c.follow.ensures agrees c.requires
