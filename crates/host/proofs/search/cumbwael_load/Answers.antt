-- `host::search::cumbwael_load` meets its contract. Assumes nothing.
use Rattle.host.proofs.AnswerLaws.{load_said}
use Rattle.host.proofs.search.cumbwael_load.Goals as goal

pub returns : goal.returns
returns c = load_said _ _ _ _ c.from.ensures c.load.ensures
