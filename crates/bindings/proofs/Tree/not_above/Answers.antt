-- `bindings::Tree::not_above` meets its contract. Assumes nothing.
use Rattle.std.proofs.Common.{◌∙◌, sym}
use Rattle.bindings.proofs.BindingLaws.{not_above-end, not_above-fail, not_above-turn}
use Rattle.bindings.proofs.Tree.not_above.Goals as goal

pub returns-then-not-not_among : goal.returns-then-not-not_among
returns-then-not-not_among c = let l = c.loop in let a = c.args in
    not_above-fail a.self.nodes.now a.self.trail.now a.number a.most l.counter l.slot c.parent-slot.result c.entries.result c.loop-test.true c.parent-slot.ensures c.entries.ensures
    (sym c.not_among.ensures ∙ c.if-not-not_among.true) ∙ l.invariant

pub loop-preserved : goal.loop-preserved
loop-preserved c = let l = c.loop in let a = c.args in
    not_above-turn a.self.nodes.now a.self.trail.now a.number a.most l.counter l.slot c.parent-slot.result c.entries.result c.loop-test.true c.parent-slot.ensures c.entries.ensures
    (sym c.not_among.ensures ∙ c.if-not-not_among.false) ∙ l.invariant

pub returns : goal.returns
returns c = let l = c.loop in let a = c.args in not_above-end a.self.nodes.now a.self.trail.now a.number a.most l.counter l.slot c.loop-test.false ∙ l.invariant
