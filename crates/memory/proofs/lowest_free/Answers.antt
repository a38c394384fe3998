-- `memory::lowest_free` meets its contract. Assumes nothing.
use Rattle.std.proofs.Common.{◌≡◌, ◌≢◌, rules, tests}
use Rattle.std.proofs.lemmas.Iterator.{first_from_Range}
use Rattle.model.specs.Memory.{used}
use Rattle.memory.proofs.FreeLaws.{free_from-found}
use Rattle.memory.proofs.lowest_free.Goals as goal

pub returns-clause-free : goal.returns-clause-free
returns-clause-free c =
    let nodes = c.args.nodes.now in
    free_from-found nodes _ (first_from_Range _ _ _ _ (λ k. used nodes k ≢ 1) (λ k. used nodes k ≡ 1) c.find.ensures.ran (λ x q k. search (rules, tests)) (λ x q k. search (rules, tests)))
