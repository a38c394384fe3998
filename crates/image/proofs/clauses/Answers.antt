-- `image::clauses` meets its contract. Assumes nothing.
use Rattle.std.proofs.Common.{sym, ◌∙◌}
use Rattle.std.proofs.lemmas.Result.{err_from_is_err_and}
use Rattle.image.proofs.WalkLaws.{clauses-end, clauses-turn}
use Rattle.image.proofs.clauses.Goals as goal

pub returns-in_err-at : goal.returns-in_err-at
returns-in_err-at c = let p = err_from_is_err_and c.from_residual.result c.from_residual.ensures.1 in
    let l = c.loop in
    let a = c.args in
    rw (p.1, p.2) (clauses-turn a.image.now a.head_arity a.count l.counter l.at l.seen _ c.loop-test.true (sym c.in_err-at.was ∙ c.clause.ensures) ∙ l.invariant)

pub loop-preserved : goal.loop-preserved
loop-preserved c = let l = c.loop in
    let a = c.args in
    clauses-turn a.image.now a.head_arity a.count l.counter l.at l.seen _ c.loop-test.true (sym c.in_ok-at.was ∙ c.clause.ensures) ∙ l.invariant

pub returns : goal.returns
returns c = let l = c.loop in
    let a = c.args in
    clauses-end a.image.now a.head_arity a.count l.counter l.at l.seen c.loop-test.false ∙ l.invariant
