-- `lines::value_text` meets its contract. Assumes nothing.
use Rattle.lines.proofs.WholeLaws.{value-constant, value-variable}
use Rattle.lines.proofs.value_text.Goals as goal

pub returns-then-op-eq-CON_OP : goal.returns-then-op-eq-CON_OP
returns-then-op-eq-CON_OP c = let a = c.args in value-constant a.word a.at c.op.result _ a.line.now _ _ _ _ c.op.ensures c.if-op-eq-CON_OP.true c.constant.ensures c.put.ensures c.put-then-op-eq-CON_OP.ensures c.decimal.ensures

pub returns : goal.returns
returns c = let a = c.args in value-variable a.word a.at c.op.result _ a.line.now _ _ _ _ c.op.ensures c.if-op-eq-CON_OP.false c.variable_number.ensures c.put.ensures c.put-2.ensures c.decimal-2.ensures
