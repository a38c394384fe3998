-- `numbers::refusal_number` meets its contract. Assumes nothing.
use mathlib.Core.Path.{sym, ap, ◌∙◌}
use Prim.Native.Nat.{ℕ, ◌+◌}
use native.Mathlib.Omega.{arith}
use Rattle.model.specs.Numbers.{refusal_number}
use Rattle.numbers.proofs.FaultLaws.{fault_number-lt}
use Rattle.numbers.proofs.refusal_number.Goals as goal

pub overflow_add-result : goal.overflow_add-result
overflow_add-result c = omega (arith, c.fault_number-in-Query.ensures, fault_number-lt c.in-Query.fault)

pub returns-in-Image : goal.returns-in-Image
returns-in-Image c = c.fault_number.ensures ∙ ap refusal_number (sym c.in-Image.is)

pub returns-in-Query : goal.returns-in-Query
returns-in-Query c = ap (λ (n : ℕ). 32 + n) c.fault_number-in-Query.ensures ∙ ap refusal_number (sym c.in-Query.is)

pub returns-in-TooWide : goal.returns-in-TooWide
returns-in-TooWide c = ap refusal_number (sym c.in-TooWide.is)

pub returns-in-ListEnds : goal.returns-in-ListEnds
returns-in-ListEnds c = ap refusal_number (sym c.in-ListEnds.is)

pub returns-in-Room : goal.returns-in-Room
returns-in-Room c = ap refusal_number (sym c.in-Room.is)

pub returns-in-UnknownOp : goal.returns-in-UnknownOp
returns-in-UnknownOp c = ap refusal_number (sym c.in-UnknownOp.is)

pub returns-in-SliceLength : goal.returns-in-SliceLength
returns-in-SliceLength c = ap refusal_number (sym c.in-SliceLength.is)

pub returns-in-Damaged : goal.returns-in-Damaged
returns-in-Damaged c = ap refusal_number (sym c.in-Damaged.is)

pub returns-in-NoWorker : goal.returns-in-NoWorker
returns-in-NoWorker c = ap refusal_number (sym c.in-NoWorker.is)

pub returns-in-NoSlot : goal.returns-in-NoSlot
returns-in-NoSlot c = ap refusal_number (sym c.in-NoSlot.is)

pub returns-in-NoAnswer : goal.returns-in-NoAnswer
returns-in-NoAnswer c = ap refusal_number (sym c.in-NoAnswer.is)
