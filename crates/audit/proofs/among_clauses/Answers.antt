-- `audit::among_clauses` meets its contract. Assumes nothing.
use Rattle.std.proofs.Common.{arith, ap, ◌∙◌, get_or}
use Rattle.model.specs.Fields.{clause_length}
use Rattle.memory.proofs.FieldBounds.{clause_length-lt}
use Rattle.audit.proofs.AuditLaws.{among-end, among-hit, among-miss}
use Rattle.audit.proofs.among_clauses.Goals as goal

pub returns-then-at-position : goal.returns-then-at-position
returns-then-at-position c = let l = c.loop in let a = c.args in
    among-hit a.image.now a.position a.count l.counter l.at c.loop-test.true c.if-at-position.true ∙ l.invariant.whole

pub overflow_add-at : goal.overflow_add-at
overflow_add-at c = let e = c.clause_length.ensures ∙ ap clause_length c.word_at.ensures in
    omega (arith, e, clause_length-lt (get_or c.args.image.now c.loop.at 0), c.loop.invariant.room, c.loop-test.true)

pub loop-preserved : goal.loop-preserved
loop-preserved c = let l = c.loop in let a = c.args in
    let e = c.clause_length.ensures ∙ ap clause_length c.word_at.ensures in record {
      room = omega (arith, e, clause_length-lt (get_or a.image.now l.at 0), l.invariant.room, c.loop-test.true);
      whole = among-miss a.image.now a.position a.count l.counter l.at c.clause_length.result c.loop-test.true c.if-at-position.false e ∙ l.invariant.whole;
    }

pub returns : goal.returns
returns c = let l = c.loop in let a = c.args in among-end a.image.now a.position a.count l.counter l.at c.loop-test.false ∙ l.invariant.whole
