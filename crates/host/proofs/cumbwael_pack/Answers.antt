-- `host::cumbwael_pack` meets its contract. Assumes nothing.
use Rattle.host.proofs.AnswerLaws.{writing-said}
use Rattle.host.proofs.cumbwael_pack.Goals as goal

pub returns : goal.returns
returns c = writing-said _ _ _ _ c.from.ensures c.pack.ensures
