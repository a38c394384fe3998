-- `moves::read_words` meets its contract. Assumes nothing.
use Rattle.std.proofs.Common.{◌∙◌, ap, ◌-◌, take, set, arith}
use Rattle.moves.proofs.ReadLaws.{answered-turn, answered-end, answered-whole}
use Rattle.moves.proofs.read_words.Goals as goal

pub loop-variable-preserved : goal.loop-variable-preserved
loop-variable-preserved c = let l = c.loop-variable in
    let a = c.args in
    let w = c.read_word-word.ensures in record {
      seen = omega (arith, w.count, l.invariant.seen);
      whole = answered-turn a.array.now a.cells.now a.variables l.variable (take l.seen.count l.seen.numbers) l.room _ _ c.loop-variable-test.true (c.put.ensures ∙ ap (set l.room l.variable) w.word) w.seen ∙ l.invariant.whole;
    }

pub returns : goal.returns
returns c = let l = c.loop-variable in
    let a = c.args in
    answered-end a.array.now a.cells.now (a.variables - l.variable) l.variable (take l.seen.count l.seen.numbers) l.room (omega (arith, c.loop-variable-test.false)) ∙ l.invariant.whole ∙ answered-whole a.array.now a.cells.now a.variables a.room.now (omega arith)
