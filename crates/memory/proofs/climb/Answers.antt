-- `memory::climb` meets its contract. Assumes nothing.
use Rattle.std.proofs.Common.{◌∙◌, arith}
use Rattle.memory.proofs.FieldBounds.{entries-lt}
use Rattle.memory.proofs.LoopLaws.{climbed-there, climbed-turn, climbed-end}
use Rattle.memory.proofs.climb.Goals as goal

pub returns-then-slot-ancestor : goal.returns-then-slot-ancestor
returns-then-slot-ancestor g c = let l = c.loop in let a = c.args in
    climbed-there g.L.Leg.change a.nodes.now a.trail.now a.ancestor a.most l.counter l.slot l.count l.array c.loop-test.true c.if-slot-ancestor.true ∙ l.invariant.whole

pub overflow_add-count : goal.overflow_add-count
overflow_add-count g c = omega (arith, c.entries-here.ensures, entries-lt c.args.nodes.now c.loop.slot, c.requires, c.loop.invariant.room, c.loop-test.true)

pub loop-preserved : goal.loop-preserved
loop-preserved g c = let l = c.loop in let a = c.args in
    let e = c.entries-here.ensures in record {
      room = omega (arith, e, entries-lt a.nodes.now l.slot, l.invariant.room, c.loop-test.true);
      whole = climbed-turn g.L.Leg.change a.nodes.now a.trail.now a.ancestor a.most l.counter l.slot l.count c.entries-here.result c.parent-slot.result l.array c.apply.new.array c.loop-test.true
          c.if-slot-ancestor.false e c.parent-slot.ensures c.apply.ensures ∙ l.invariant.whole;
    }

pub returns : goal.returns
returns g c = let l = c.loop in let a = c.args in
    climbed-end g.L.Leg.change a.nodes.now a.trail.now a.ancestor a.most l.counter l.slot l.count l.array c.loop-test.false ∙ l.invariant.whole
