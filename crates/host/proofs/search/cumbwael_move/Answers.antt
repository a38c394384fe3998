-- `host::search::cumbwael_move` meets its contract. Assumes nothing.
use Rattle.host.proofs.AnswerLaws.{move-said}
use Rattle.host.proofs.search.cumbwael_move.Goals as goal

pub returns : goal.returns
returns c = move-said _ _ _ _ c.from.ensures c.move_worker.ensures
