-- `host::search::cumbwael_read` meets its contract. Assumes nothing.
use Rattle.host.proofs.AnswerLaws.{read-said}
use Rattle.host.proofs.search.cumbwael_read.Goals as goal

pub returns : goal.returns
returns c = read-said _ _ _ _ c.from.ensures c.read.ensures
