-- `numbers::outcome_number` meets its contract. Assumes nothing.
use mathlib.Core.Path.{sym, ap}
use Rattle.model.specs.Machine.{outcome_number}
use Rattle.numbers.proofs.outcome_number.Goals as goal

pub returns-in-Tried : goal.returns-in-Tried
unfolding outcome_number
returns-in-Tried c = ap outcome_number (sym c.in-Tried.is)

pub returns-in-Extended : goal.returns-in-Extended
unfolding outcome_number
returns-in-Extended c = ap outcome_number (sym c.in-Extended.is)

pub returns-in-Answer : goal.returns-in-Answer
unfolding outcome_number
returns-in-Answer c = ap outcome_number (sym c.in-Answer.is)

pub returns-in-Back : goal.returns-in-Back
unfolding outcome_number
returns-in-Back c = ap outcome_number (sym c.in-Back.is)

pub returns-in-Left : goal.returns-in-Left
unfolding outcome_number
returns-in-Left c = ap outcome_number (sym c.in-Left.is)

pub returns-in-Wait : goal.returns-in-Wait
unfolding outcome_number
returns-in-Wait c = ap outcome_number (sym c.in-Wait.is)

pub returns-in-Finished : goal.returns-in-Finished
unfolding outcome_number
returns-in-Finished c = ap outcome_number (sym c.in-Finished.is)

pub returns-in-Spent : goal.returns-in-Spent
unfolding outcome_number
returns-in-Spent c = ap outcome_number (sym c.in-Spent.is)

pub returns-in-Full : goal.returns-in-Full
unfolding outcome_number
returns-in-Full c = ap outcome_number (sym c.in-Full.is)
