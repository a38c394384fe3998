-- `terms::argument_of` meets its contract. Assumes nothing.
use Rattle.std.proofs.Common.{arith}
use Rattle.terms.proofs.TermLaws.{variable_number-lt}
use Rattle.terms.proofs.argument_of.Goals as goal

pub overflow_add-at : goal.overflow_add-at
overflow_add-at c = omega (arith, c.variable_number.ensures, variable_number-lt c.args.word)
