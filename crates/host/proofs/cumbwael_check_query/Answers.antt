-- `host::cumbwael_check_query` meets its contract. Assumes nothing.
use mathlib.Core.Path.{ap, ◌∙◌}
use Rattle.host.specs.Answers.{answer_of_check}
use Rattle.host.proofs.cumbwael_check_query.Goals as goal

pub returns : goal.returns
returns c = c.from.ensures ∙ ap answer_of_check c.check_query.ensures
