-- The numbers of document 01 for each answer: the table of faults, "Query faults are 32 plus the number", the refusals of the spread form,
-- and what a check or a call that writes answers. Assumes nothing.
use Rattle.std.specs.Prelude.{ℕ, ◌+◌, ◌*◌, Ok, Err}
use Rattle.model.specs.declared.Fault.{Fault}
use Rattle.model.specs.declared.Fault.TheVariants.{EmptyImage, WrongEdition, NoPredicates, ZeroField, LengthField, EndsEarly, FirstClause, ClauseExpected, VariableCount, GoalCount, ArgumentExpected, VariableNumber, GoalExpected, NoSuchPredicate, UnusedVariable, ClauseLength, LeftOver}
use Rattle.model.specs.declared.Refusal.{Refusal}
use Rattle.model.specs.declared.Refusal.TheVariants.{Image, Query, TooWide, ListEnds, Room, UnknownOp, SliceLength, Damaged, NoWorker, NoSlot, NoAnswer}
use Rattle.model.specs.Answers.{Verdict, Written}

abbrev pub fault_number : Fault → ℕ
fault_number EmptyImage = 1
fault_number WrongEdition = 2
fault_number NoPredicates = 3
fault_number ZeroField = 4
fault_number LengthField = 5
fault_number EndsEarly = 6
fault_number FirstClause = 7
fault_number ClauseExpected = 8
fault_number VariableCount = 9
fault_number GoalCount = 10
fault_number ArgumentExpected = 11
fault_number VariableNumber = 12
fault_number GoalExpected = 13
fault_number NoSuchPredicate = 14
fault_number UnusedVariable = 15
fault_number ClauseLength = 16
fault_number LeftOver = 17

abbrev pub refusal_number : Refusal → ℕ
refusal_number (Image fault) = fault_number fault
refusal_number (Query fault) = 32 + fault_number fault
refusal_number TooWide = 18
refusal_number ListEnds = 19
refusal_number Room = 26
refusal_number UnknownOp = 29
refusal_number SliceLength = 20
refusal_number Damaged = 21
refusal_number NoWorker = 22
refusal_number NoSlot = 23
refusal_number NoAnswer = 25

-- as one number: number times 2^32 plus position, 0 if legal
abbrev pub verdict_number : Verdict → ℕ
verdict_number (Ok u) = 0
verdict_number (Err stop) = refusal_number stop.0 * 4294967296 + stop.1

-- 0 where words were written
unfoldable pub written_number : Written → ℕ
written_number (Ok count) = 0
written_number (Err stop) = refusal_number stop.0

-- the count of words written, or the position
unfoldable pub written_value : Written → ℕ
written_value (Ok count) = count
written_value (Err stop) = stop.1
