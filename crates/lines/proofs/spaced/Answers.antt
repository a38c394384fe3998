-- `lines::spaced` meets its contract. Assumes nothing.
use Rattle.lines.proofs.WholeLaws.{spaced-of}
use Rattle.lines.proofs.spaced.Goals as goal

pub returns : goal.returns
returns c = let a = c.args in spaced-of a.at a.n a.line.now _ _ _ c.put.ensures c.decimal.ensures
