-- `bindings::zeros` meets its contract. Assumes nothing.
use Rattle.std.proofs.Common.{◌≡◌, rules, tests}
use Rattle.std.proofs.lemmas.Iterator.{cases_from_all, YieldsList-from_slice}
use Rattle.bindings.proofs.BindingLaws.{zeros-from_part}
use Rattle.bindings.proofs.zeros.Goals as goal

pub returns : goal.returns
returns c = let a = c.args in
    zeros-from_part a.words.now a.start a.count c.min.result c.min-end.result c.all.result c.min-end.ensures c.min.ensures
    (cases_from_all _ _ _ (λ word. word ≡ 0) (λ word. word ≡ 0 → ⊥) c.all.ensures.ran (YieldsList-from_slice _ c.iter.ensures.rest) (λ x q k. search (rules, tests)) (λ x q k. search (rules, tests)))
