-- `moves::con_word` meets its contract. Assumes nothing.
use Rattle.std.proofs.Common.{arith}
use Rattle.model.specs.Memory.{cut_to, word_of}
use Rattle.model.specs.Fields.{widths_of, total, below, join}
use Rattle.moves.proofs.con_word.Goals as goal

pub overflow_add-result : goal.overflow_add-result
unfolding word_of join cut_to widths_of total below
overflow_add-result c = omega (arith, c.placed.ensures, c.placed-2.ensures)

pub returns : goal.returns
unfolding word_of join cut_to widths_of total below
returns c = omega (arith, c.placed.ensures, c.placed-2.ensures)
