-- `listing::answer_line` meets its contract. Assumes nothing.
use Rattle.std.proofs.Common.{sym, [], ℕ, get_or, length-take-le, arith}
use lib.ListN.{length-replicate}
use Rattle.model.specs.Memory.{memory}
use Rattle.memory.proofs.FieldBounds.{variables-lt}
use Rattle.listing.proofs.StopLaws.{read-few, answer-told}
use Rattle.listing.proofs.answer_line.Goals as goal

pub read_answer-count-requires : goal.read_answer-count-requires
read_answer-count-requires c = let a = c.args in (c.requires.0, omega arith, omega (arith, variables-lt (get_or a.query.now 0 0)))

pub slice_bounds-room-end : goal.slice_bounds-room-end
slice_bounds-room-end c = let a = c.args in omega (arith, c.read_answer-count.auto, read-few a.query.now (memory [] a.cells.now [] a.arrays.now []) _ _ _ (c.read_answer-count.ensures [] [] []), length-replicate {A = ℕ} 64 0)

pub slice_bounds-answer_line-end : goal.slice_bounds-answer_line-end
slice_bounds-answer_line-end c = let a = c.args in sym (length-take-le c.read_answer-count.result c.read_answer-count.new.room (omega (arith, c.read_answer-count.auto, read-few a.query.now (memory [] a.cells.now [] a.arrays.now []) _ _ _ (c.read_answer-count.ensures [] [] []), length-replicate {A = ℕ} 64 0)))

pub returns : goal.returns
returns c = let a = c.args in (
  λ nodes trail workers.
      answer-told a.query.now (memory nodes a.cells.now trail a.arrays.now workers) _ _ _ (c.read_answer-count.ensures nodes trail workers) a.steps _ a.line.now _ c.requires.1 (rw c.unwrap.ensures at c.answer_line.ensures.0),
  rw c.unwrap.ensures at c.answer_line.ensures.1,
)
