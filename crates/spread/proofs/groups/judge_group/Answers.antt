-- `spread::groups::judge_group` meets its contract. Assumes nothing.
use mathlib.Core.Path.{sym, ◌∙◌}
use Rattle.spread.proofs.StepLaws.{group-unknown, group-known}
use Rattle.spread.proofs.groups.judge_group.Goals as goal

pub returns-then-not-op_known : goal.returns-then-not-op_known
returns-then-not-op_known c = let a = c.args in group-unknown a.count a.number a.at a.list.now (sym c.op_known.ensures ∙ c.if-not-op_known.true)

pub returns : goal.returns
returns c = let a = c.args in group-known a.count a.number a.at a.list.now c.kind_at-kind.result c.judge.result (sym c.op_known.ensures ∙ c.if-not-op_known.false) c.kind_at-kind.ensures c.judge.ensures
