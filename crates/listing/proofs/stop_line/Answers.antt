-- `listing::stop_line` meets its contract. Assumes nothing.
use Rattle.model.specs.Memory.{memory}
use Rattle.listing.proofs.StopLaws.{stop-answer, stop-ended}
use Rattle.listing.proofs.stop_line.Goals as goal

pub returns-in-Answer : goal.returns-in-Answer
returns-in-Answer c = let a = c.args in (
  λ nodes trail workers.
      stop-answer a.stop a.query.now (memory nodes a.cells.now trail a.arrays.now workers) a.steps _ a.line.now _ c.in-Answer.is (c.answer_line.ensures.0 nodes trail workers),
  c.answer_line.ensures.1,
)

pub returns-in-Ended : goal.returns-in-Ended
returns-in-Ended c = let a = c.args in (
  λ nodes trail workers.
      stop-ended a.stop a.query.now (memory nodes a.cells.now trail a.arrays.now workers) a.steps _ a.line.now _ _ c.in-Ended.is c.requires.1 (rw c.unwrap.ensures at c.ending_line.ensures.0),
  rw c.unwrap.ensures at c.ending_line.ensures.1,
)
