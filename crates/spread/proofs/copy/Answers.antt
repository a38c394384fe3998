-- `spread::copy` meets its contract. Assumes nothing.
use Rattle.std.proofs.Common.{sym, ◌∙◌, arith}
use Rattle.spread.proofs.LoopLaws.{store-end, stored}
use Rattle.spread.proofs.copy.Goals as goal

pub returns : goal.returns
returns c =
    let l = c.loop-i in
    sym (store-end l.room c.args.words.now l.i l.i (omega arith)) ∙ l.invariant.1 ∙ stored c.args.room.now c.args.words.now c.requires
