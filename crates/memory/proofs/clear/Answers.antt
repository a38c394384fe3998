-- `memory::clear` meets its contract. Assumes nothing.
use Rattle.std.proofs.Common.{rules}
use Rattle.memory.proofs.LoopLaws.{cleared-none, cleared-filled}
use Rattle.memory.proofs.clear.Goals as goal

pub returns-then-start-end : goal.returns-then-start-end
returns-then-start-end c = let a = c.args in
    cleared-filled a.count a.start c.min-end.result a.words.now c.fill.new.self (search rules) c.if-start-end.true (search rules)

pub returns-else-start-end : goal.returns-else-start-end
returns-else-start-end c = let a = c.args in cleared-none a.count a.start c.min-end.result a.words.now (search rules) c.if-start-end.false
