-- `spread::groups::scan_list` meets its contract. Assumes nothing.
use Rattle.std.proofs.Common.{sym, ap, ◌∙◌, ℕ, arith, length}
use Rattle.std.proofs.lemmas.Result.{err_from_is_err_and}
use Rattle.model.specs.Spread.{scan_from, scan}
use Rattle.spread.proofs.StepLaws.{turn, stops, scan-over}
use Rattle.spread.proofs.groups.scan_list.Goals as goal

pub loop-at-init : goal.loop-at-init
unfolding scan
loop-at-init c =
    let list = c.args.list.now in
    record { most = length list; fuel = omega arith; counts = omega arith; inside = omega arith; scans = ap (λ (n : ℕ). scan_from (length list) n 0 0 list) c.word_at-count.ensures }

pub returns-in_err-at : goal.returns-in_err-at
returns-in_err-at c =
    let p = err_from_is_err_and c.from_residual.result c.from_residual.ensures.1 in
    let l = c.loop-at in
    let i = l.invariant in
    rw (p.1, p.2) (stops c.word_at-count.result l.number l.at c.args.list.now i.most c.in_err-at.field-0.0.1 c.in_err-at.field-0.0.0 c.loop-at-test.true i.fuel (sym c.in_err-at.was ∙ c.judge_group.ensures) ∙ i.scans)

pub overflow_add-number : goal.overflow_add-number
overflow_add-number c =
    let l = c.loop-at in
    let i = l.invariant in
    let t = turn c.word_at-count.result l.number l.at c.args.list.now i.most c.in_ok-at.at c.loop-at-test.true i.fuel (sym c.judge_group.ensures ∙ c.in_ok-at.was) in
    omega (arith, t.ahead, t.inside)

pub loop-at-smaller : goal.loop-at-smaller
loop-at-smaller c =
    let l = c.loop-at in
    let i = l.invariant in
    let t = turn c.word_at-count.result l.number l.at c.args.list.now i.most c.in_ok-at.at c.loop-at-test.true i.fuel (sym c.judge_group.ensures ∙ c.in_ok-at.was) in
    omega (arith, t.ahead, t.inside)

pub loop-at-preserved : goal.loop-at-preserved
loop-at-preserved c =
    let l = c.loop-at in
    let i = l.invariant in
    let t = turn c.word_at-count.result l.number l.at c.args.list.now i.most c.in_ok-at.at c.loop-at-test.true i.fuel (sym c.judge_group.ensures ∙ c.in_ok-at.was) in
    record { most = t.left; fuel = t.fuel; counts = omega (arith, t.ahead); inside = t.inside; scans = t.scans ∙ i.scans }

pub returns : goal.returns
returns c = let l = c.loop-at in scan-over c.word_at-count.result l.number l.at c.args.list.now l.invariant.most c.loop-at-test.false ∙ l.invariant.scans
