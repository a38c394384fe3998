-- `turns::advance` meets its contract. Assumes nothing.
use Rattle.std.proofs.Common.{◌∙◌, sym}
use Rattle.memory.specs.Views.{words_of}
use Rattle.turns.proofs.StepLaws.{live_goal-dead, live_goal-live, step-dead}
use Rattle.turns.proofs.advance.Goals as goal

pub live_advance-requires-clause-live_node : goal.live_advance-requires-clause-live_node
live_advance-requires-clause-live_node c =
    let a = c.args in
    let l = live_goal-live a.search.image.now a.search.query.now a.view.now.nodes.now c.word_at-node.result c.in-Some.call (sym c.live_goal.ensures.0 ∙ c.in-Some.is) in
    (l.0 ∙ c.word_at-node.ensures, l.1, l.2, c.requires.0)

pub returns-in_default-clause-did : goal.returns-in_default-clause-did
returns-in_default-clause-did c =
    let a = c.args in
    let dead = live_goal-dead a.search.image.now a.search.query.now a.view.now.nodes.now c.word_at-node.result (sym c.live_goal.ensures.0 ∙ c.in_default.is) in
    c.dead_advance.ensures.did ∙ step-dead a.search.image.now a.search.query.now (words_of a.view.now) a.worker c.word_at-node.result c.word_at-node.ensures dead
