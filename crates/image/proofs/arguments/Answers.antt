-- `image::arguments` meets its contract. Assumes nothing.
use Rattle.std.proofs.Common.{sym, ◌∙◌}
use Rattle.std.proofs.lemmas.Result.{err_from_is_err_and}
use Rattle.image.proofs.WalkLaws.{arguments-end, arguments-turn}
use Rattle.image.proofs.arguments.Goals as goal

pub returns-in_err-at : goal.returns-in_err-at
returns-in_err-at c = let p = err_from_is_err_and c.from_residual.result c.from_residual.ensures.1 in
    let l = c.loop in
    let a = c.args in
    rw (p.1, p.2) (arguments-turn a.words.now a.declared a.count l.counter l.at l.seen _ c.loop-test.true (sym c.in_err-at.was ∙ c.argument.ensures) ∙ l.invariant)

pub loop-preserved : goal.loop-preserved
loop-preserved c = let l = c.loop in
    let a = c.args in
    arguments-turn a.words.now a.declared a.count l.counter l.at l.seen _ c.loop-test.true (sym c.in_ok-at.was ∙ c.argument.ensures) ∙ l.invariant

pub returns : goal.returns
returns c = let l = c.loop in
    let a = c.args in
    arguments-end a.words.now a.declared a.count l.counter l.at l.seen c.loop-test.false ∙ l.invariant
