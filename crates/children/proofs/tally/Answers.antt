-- `children::tally` meets its contract. Assumes nothing.
use Rattle.std.proofs.Common.{rules}
use Rattle.children.proofs.ChildLaws.{tally-turn, tally-end}
use Rattle.children.proofs.tally.Goals as goal

pub loop-slot-preserved : goal.loop-slot-preserved
loop-slot-preserved c = let l = c.loop-slot in
    tally-turn c.args.nodes.now l.children c.gain.new.children l.slot c.loop-slot-test.true l.invariant (search rules)

pub returns : goal.returns
returns c = let l = c.loop-slot in tally-end c.args.nodes.now l.children l.slot c.loop-slot-test.false l.invariant
