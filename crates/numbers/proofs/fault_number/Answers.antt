-- `numbers::fault_number` meets its contract. Assumes nothing.
use mathlib.Core.Path.{sym, ap}
use Rattle.model.specs.Numbers.{fault_number}
use Rattle.numbers.proofs.fault_number.Goals as goal

pub returns-in-EmptyImage : goal.returns-in-EmptyImage
returns-in-EmptyImage c = ap fault_number (sym c.in-EmptyImage.is)

pub returns-in-WrongEdition : goal.returns-in-WrongEdition
returns-in-WrongEdition c = ap fault_number (sym c.in-WrongEdition.is)

pub returns-in-NoPredicates : goal.returns-in-NoPredicates
returns-in-NoPredicates c = ap fault_number (sym c.in-NoPredicates.is)

pub returns-in-ZeroField : goal.returns-in-ZeroField
returns-in-ZeroField c = ap fault_number (sym c.in-ZeroField.is)

pub returns-in-LengthField : goal.returns-in-LengthField
returns-in-LengthField c = ap fault_number (sym c.in-LengthField.is)

pub returns-in-EndsEarly : goal.returns-in-EndsEarly
returns-in-EndsEarly c = ap fault_number (sym c.in-EndsEarly.is)

pub returns-in-FirstClause : goal.returns-in-FirstClause
returns-in-FirstClause c = ap fault_number (sym c.in-FirstClause.is)

pub returns-in-ClauseExpected : goal.returns-in-ClauseExpected
returns-in-ClauseExpected c = ap fault_number (sym c.in-ClauseExpected.is)

pub returns-in-VariableCount : goal.returns-in-VariableCount
returns-in-VariableCount c = ap fault_number (sym c.in-VariableCount.is)

pub returns-in-GoalCount : goal.returns-in-GoalCount
returns-in-GoalCount c = ap fault_number (sym c.in-GoalCount.is)

pub returns-in-ArgumentExpected : goal.returns-in-ArgumentExpected
returns-in-ArgumentExpected c = ap fault_number (sym c.in-ArgumentExpected.is)

pub returns-in-VariableNumber : goal.returns-in-VariableNumber
returns-in-VariableNumber c = ap fault_number (sym c.in-VariableNumber.is)

pub returns-in-GoalExpected : goal.returns-in-GoalExpected
returns-in-GoalExpected c = ap fault_number (sym c.in-GoalExpected.is)

pub returns-in-NoSuchPredicate : goal.returns-in-NoSuchPredicate
returns-in-NoSuchPredicate c = ap fault_number (sym c.in-NoSuchPredicate.is)

pub returns-in-UnusedVariable : goal.returns-in-UnusedVariable
returns-in-UnusedVariable c = ap fault_number (sym c.in-UnusedVariable.is)

pub returns-in-ClauseLength : goal.returns-in-ClauseLength
returns-in-ClauseLength c = ap fault_number (sym c.in-ClauseLength.is)

pub returns-in-LeftOver : goal.returns-in-LeftOver
returns-in-LeftOver c = ap fault_number (sym c.in-LeftOver.is)
