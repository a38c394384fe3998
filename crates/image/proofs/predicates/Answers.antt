-- `image::predicates` meets its contract. Assumes nothing.
use Rattle.std.proofs.Common.{sym, ◌∙◌}
use Rattle.std.proofs.lemmas.Result.{err_from_is_err_and}
use Rattle.image.proofs.WalkLaws.{predicates-end, predicates-turn}
use Rattle.image.proofs.predicates.Goals as goal

pub returns-in_err-at : goal.returns-in_err-at
returns-in_err-at c = let p = err_from_is_err_and c.from_residual.result c.from_residual.ensures.1 in
    let l = c.loop-number in
    let a = c.args in
    rw (p.1, p.2) (predicates-turn a.image.now a.count l.number l.at l.seen _ c.loop-number-test.true (sym c.in_err-at.was ∙ c.predicate.ensures) ∙ l.invariant)

pub loop-number-preserved : goal.loop-number-preserved
loop-number-preserved c = let l = c.loop-number in
    let a = c.args in
    predicates-turn a.image.now a.count l.number l.at l.seen _ c.loop-number-test.true (sym c.in_ok-at.was ∙ c.predicate.ensures) ∙ l.invariant

pub returns : goal.returns
returns c = let l = c.loop-number in
    let a = c.args in
    predicates-end a.image.now a.count l.number l.at l.seen c.loop-number-test.false ∙ l.invariant
