-- `host::search::cumbwael_step` meets its contract. Assumes nothing.
use Rattle.host.proofs.AnswerLaws.{step-said}
use Rattle.host.proofs.search.cumbwael_step.Goals as goal

pub returns : goal.returns
returns c = step-said _ _ _ _ c.from.ensures c.step.ensures
