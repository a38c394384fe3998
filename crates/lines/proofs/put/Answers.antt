-- `lines::put` meets its contract. Assumes nothing.
use Rattle.std.proofs.Common.{sym}
use lib.Seq.{set_out}
use Rattle.lines.proofs.put.Goals as goal

pub returns-else-at-line : goal.returns-else-at-line
returns-else-at-line c = sym (set_out c.args.line.now c.args.at c.args.byte c.if-at-line.false)
