-- `bindings::on_path` meets its contract. Assumes nothing.
use Rattle.std.proofs.Common.{◌∙◌}
use Rattle.bindings.proofs.BindingLaws.{on_path-end, on_path-hit, on_path-miss}
use Rattle.bindings.proofs.on_path.Goals as goal

pub returns-then-slot-other : goal.returns-then-slot-other
returns-then-slot-other c = let l = c.loop in let a = c.args in on_path-hit a.nodes.now a.other a.most l.counter l.slot c.loop-test.true c.if-slot-other.true ∙ l.invariant

pub loop-preserved : goal.loop-preserved
loop-preserved c = let l = c.loop in let a = c.args in
    on_path-miss a.nodes.now a.other a.most l.counter l.slot c.parent-slot.result c.loop-test.true c.if-slot-other.false c.parent-slot.ensures ∙ l.invariant

pub returns : goal.returns
returns c = let l = c.loop in let a = c.args in on_path-end a.nodes.now a.other a.most l.counter l.slot c.loop-test.false ∙ l.invariant
