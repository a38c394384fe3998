-- `host::search::cumbwael_run` meets its contract. Assumes nothing.
use Rattle.host.proofs.AnswerLaws.{run-said}
use Rattle.host.proofs.search.cumbwael_run.Goals as goal

pub returns : goal.returns
returns c = run-said _ _ _ _ c.from.ensures c.run.ensures
