-- `memory::another_there` meets its contract. Assumes nothing.
use Rattle.std.proofs.Common.{refl, rules}
use borrow.Author.Tests.{tests}
use Rattle.model.specs.Steps.{another_from}
use Rattle.words.proofs.Ranges.{some-from_any}
use Rattle.memory.proofs.LoopLaws.{worker_test, another_from-none, another_from-hit, another_from-miss}
use Rattle.memory.proofs.another_there.Goals as goal

pub returns : goal.returns
returns c = let a = c.args in
    some-from_any (λ left. another_from left a.workers.now a.worker a.node) (worker_test a.workers.now a.worker a.node) (another_from-none a.workers.now a.worker a.node) (another_from-hit a.workers.now a.worker a.node) (another_from-miss a.workers.now a.worker a.node) _ _ _ 0 4 4 refl refl c.any.ensures.ran
    (λ x q k. search (rules, tests)) (λ x q k. search (rules, tests))
