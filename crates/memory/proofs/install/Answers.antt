-- `memory::install` meets its contract. Assumes nothing.
use Rattle.std.proofs.Common.{rules, ◌+◌, ◌*◌, ◌∙◌}
use Rattle.memory.proofs.LoopLaws.{installed-turn, installed-end}
use Rattle.memory.proofs.install.Goals as goal

pub loop-entry-preserved : goal.loop-entry-preserved
loop-entry-preserved c = let a = c.args in
    installed-turn a.count c.loop-entry.entry a.trail.now a.start c.loop-entry.array c.put.new.words c.loop-entry-test.true (search rules) ∙ c.loop-entry.invariant

pub returns : goal.returns
returns c = let a = c.args in
    let l = c.loop-entry in installed-end a.count l.entry a.trail.now (a.start + 2 * l.entry) l.array c.loop-entry-test.false ∙ l.invariant
