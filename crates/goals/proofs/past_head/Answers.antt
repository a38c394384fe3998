-- `goals::past_head` meets its contract. Assumes nothing.
use Rattle.std.proofs.Common.{◌≡◌, ℕ, ◌+◌, ◌-◌, ◌∙◌, sym, ap, arith}
use Rattle.model.specs.Fields.{op}
use Rattle.model.specs.Goals.{past_head}
use Rattle.goals.proofs.PlaceLaws.{past_head-end, past_head-hit, past_head-miss}
use Rattle.goals.proofs.past_head.Goals as goal

pub loop-at-init : goal.loop-at-init
loop-at-init c = let a = c.args in
    let e : a.start + a.most - a.start ≡ a.most = omega arith in
    ap (λ (n : ℕ). past_head n a.words.now a.start) e

pub returns-then-op-eq-GOAL_OP : goal.returns-then-op-eq-GOAL_OP
returns-then-op-eq-GOAL_OP c = let l = c.loop-at in
    past_head-hit c.args.words.now l.at (c.args.start + c.args.most) (omega arith) (ap op (sym c.word_at.ensures) ∙ sym c.op.ensures ∙ c.if-op-eq-GOAL_OP.true) ∙ l.invariant

pub loop-at-preserved : goal.loop-at-preserved
loop-at-preserved c = let l = c.loop-at in
    past_head-miss c.args.words.now l.at (c.args.start + c.args.most) (omega arith) (λ e. c.if-op-eq-GOAL_OP.false (c.op.ensures ∙ ap op c.word_at.ensures ∙ e)) ∙ l.invariant

pub returns : goal.returns
returns c = let l = c.loop-at in
    let e : c.args.start + c.args.most ≡ l.at = omega arith in
    e ∙ past_head-end c.args.words.now l.at (c.args.start + c.args.most) (omega arith) ∙ l.invariant
