-- `memory::lay` meets its contract. Assumes nothing.
use Rattle.std.proofs.Common.{rules, ◌+◌, ◌∙◌}
use Rattle.memory.proofs.LoopLaws.{laid-turn, laid-end}
use Rattle.memory.proofs.lay.Goals as goal

pub loop-k-preserved : goal.loop-k-preserved
loop-k-preserved c = let a = c.args in
    laid-turn a.count c.loop-k.k a.start a.first c.loop-k.cells c.put.new.words c.loop-k-test.true (search rules) ∙ c.loop-k.invariant

pub returns : goal.returns
returns c = let a = c.args in
    let l = c.loop-k in laid-end a.count l.k (a.start + l.k) (a.first + l.k) l.cells c.loop-k-test.false ∙ l.invariant
