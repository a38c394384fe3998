-- `bindings::owner_of` meets its contract. Assumes nothing.
use Rattle.std.proofs.Common.{◌∙◌, arith}
use Rattle.bindings.proofs.BindingLaws.{owner_of-end, owner_of-hit, owner_of-miss}
use Rattle.bindings.proofs.owner_of.Goals as goal

pub returns-then-base-number : goal.returns-then-base-number
returns-then-base-number c = let l = c.loop in let a = c.args in
    owner_of-hit a.nodes.now a.number a.most l.counter l.slot c.loop-test.true (omega (arith, c.base.ensures, c.if-base-number.true)) ∙ l.invariant

pub loop-preserved : goal.loop-preserved
loop-preserved c = let l = c.loop in let a = c.args in
    owner_of-miss a.nodes.now a.number a.most l.counter l.slot c.parent-slot.result c.loop-test.true (omega (arith, c.base.ensures, c.if-base-number.false)) c.parent-slot.ensures ∙ l.invariant

pub returns : goal.returns
returns c = let l = c.loop in let a = c.args in owner_of-end a.nodes.now a.number a.most l.counter l.slot c.loop-test.false ∙ l.invariant
