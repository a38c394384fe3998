-- The faults are numbered 1 to 17. Document 01, "Rule image", the table of faults. Assumes nothing.
use Prim.Native.Nat.{◌<◌}
use lib.Dec.{lit<}
use Rattle.model.specs.declared.Fault.{Fault}
use Rattle.model.specs.declared.Fault.TheVariants.{EmptyImage, WrongEdition, NoPredicates, ZeroField, LengthField, EndsEarly, FirstClause, ClauseExpected, VariableCount, GoalCount, ArgumentExpected, VariableNumber, GoalExpected, NoSuchPredicate, UnusedVariable, ClauseLength, LeftOver}
use Rattle.model.specs.Numbers.{fault_number}

pub fault_number-lt : (fault : Fault) → fault_number fault < 18
fault_number-lt EmptyImage = lit< tt
fault_number-lt WrongEdition = lit< tt
fault_number-lt NoPredicates = lit< tt
fault_number-lt ZeroField = lit< tt
fault_number-lt LengthField = lit< tt
fault_number-lt EndsEarly = lit< tt
fault_number-lt FirstClause = lit< tt
fault_number-lt ClauseExpected = lit< tt
fault_number-lt VariableCount = lit< tt
fault_number-lt GoalCount = lit< tt
fault_number-lt ArgumentExpected = lit< tt
fault_number-lt VariableNumber = lit< tt
fault_number-lt GoalExpected = lit< tt
fault_number-lt NoSuchPredicate = lit< tt
fault_number-lt UnusedVariable = lit< tt
fault_number-lt ClauseLength = lit< tt
fault_number-lt LeftOver = lit< tt
