-- `terms::unify_head` meets its contract. Assumes nothing.
use Rattle.std.proofs.Common.{◌≡◌, ◌+◌, ◌≤◌, ◌∙◌, arith, rules}
use Rattle.std.proofs.lemmas.Result.{err_from_is_err_and}
use Rattle.terms.proofs.HeadLaws.{unify_head-end, unify_head-turn, unify_words-count}
use Rattle.terms.proofs.unify_head.Goals as goal

pub returns-in_err-count-clause-did : goal.returns-in_err-count-clause-did
returns-in_err-count-clause-did c = let a = c.args in
    let l = c.loop-k in
    let s = l.store in
    let p = err_from_is_err_and c.from_residual.result c.from_residual.ensures.1 in
    let turn = unify_head-turn a.image.now a.words.now a.child.slot a.child.base a.slot (a.head + l.k) (a.goal + l.k) s.array.now s.cells.now s.trail.now l.count c.word_at-ours.result c.word_at-theirs.result _ _ _ _ c.unify_words.ensures.did
    l.k a.arity c.loop-k-test.true c.word_at-ours.ensures c.word_at-theirs.ensures ∙ l.invariant.rest in
    rw (p.1, p.2) (rw c.in_err-count.was at turn)

pub loop-k-preserved : goal.loop-k-preserved
loop-k-preserved c = let a = c.args in
    let l = c.loop-k in
    let s = l.store in
    let u = c.unify_words in
    let e = unify_words-count a.image.now a.words.now a.child.slot a.child.base a.slot (a.head + l.k) (a.goal + l.k) s.array.now s.cells.now s.trail.now l.count c.word_at-ours.result c.word_at-theirs.result _ _ _ _ u.ensures.did in
    let n : c.in_ok-count.count ≤ l.count + 1 = rw c.in_ok-count.was at e in
    let h : a.head + l.k + 1 ≡ a.head + (l.k + 1) = omega arith in
    let g : a.goal + l.k + 1 ≡ a.goal + (l.k + 1) = omega arith in
    let turn = unify_head-turn a.image.now a.words.now a.child.slot a.child.base a.slot (a.head + l.k) (a.goal + l.k) s.array.now s.cells.now s.trail.now l.count c.word_at-ours.result c.word_at-theirs.result _ _ _ _ u.ensures.did
    l.k a.arity c.loop-k-test.true c.word_at-ours.ensures c.word_at-theirs.ensures ∙ l.invariant.rest in
    record { lent = (search rules, search rules, search rules); few = omega arith; rest = rw (c.in_ok-count.was, h, g) at turn }

pub returns-clause-did : goal.returns-clause-did
returns-clause-did c = let a = c.args in
    let l = c.loop-k in
    let s = l.store in
    unify_head-end a.image.now a.words.now a.child.slot a.child.base a.slot (a.head + l.k) (a.goal + l.k) s.array.now s.cells.now s.trail.now l.count l.k a.arity c.loop-k-test.false ∙ l.invariant.rest
