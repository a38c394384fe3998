-- `bindings::not_among` meets its contract. Assumes nothing.
use Rattle.std.proofs.Common.{refl, rules, tests, arith, eqb, not, get_or, ◌+◌, ◌*◌}
use Rattle.model.specs.Damage.{not_among}
use Rattle.words.proofs.Ranges.{each-from_all}
use Rattle.bindings.proofs.not_among.Goals as goal

pub returns : goal.returns
unfolding not_among
returns c = let a = c.args in
    each-from_all _ _ _ (λ k. not (eqb (get_or a.trail.now (32 * a.slot + 2 * k) 0) a.number)) 0 a.count a.count refl (omega arith) c.all.ensures.ran (λ x q k. search (rules, tests)) (λ x q k. search (rules, tests))
