-- `memory::has_child` meets its contract. Assumes nothing.
use Rattle.std.proofs.Common.{refl, rules}
use borrow.Author.Tests.{tests}
use Rattle.model.specs.Steps.{child_from}
use Rattle.words.proofs.Ranges.{some-from_any}
use Rattle.memory.proofs.LoopLaws.{child_test, child_from-none, child_from-hit, child_from-miss}
use Rattle.memory.proofs.has_child.Goals as goal

pub returns : goal.returns
returns c = let a = c.args in
    some-from_any (λ left. child_from left a.nodes.now a.node) (child_test a.nodes.now a.node) (child_from-none a.nodes.now a.node) (child_from-hit a.nodes.now a.node) (child_from-miss a.nodes.now a.node) _ _ _ 1 64 63 refl refl c.any.ensures.ran
    (λ x q k. search (rules, tests)) (λ x q k. search (rules, tests))
