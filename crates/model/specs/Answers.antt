-- What checks and calls answer: `Ok` with what was found or done, or `Err` with a fault or a refusal and its position; as `src/lib.rt` declares it. Assumes nothing.
use Rattle.std.specs.Prelude.{ℕ, Result, Err}
use Rattle.model.specs.declared.Fault.{Fault}
use Rattle.model.specs.declared.Met.{Met}
use Rattle.model.specs.declared.Refusal.{Refusal}
use Rattle.model.specs.declared.Refused.{Refused}
use Rattle.model.specs.declared.Outcome.{Outcome}

-- where the check stands: on, at a word and with so many variables seen in the clause; or stopped by a fault
abbrev pub Walk : Type 0
Walk = Result (ℕ × ℕ) Met

-- a fault, met at a position
abbrev pub met : {A : Type 0} → Fault → ℕ → Result A Met
met fault at = Err (record { 0 = fault; 1 = at })

-- a check: legal, or the refusal
abbrev pub Verdict : Type 0
Verdict = Result (Unit {0}) Refused

-- the scan of a spread list: through, up to a place in the list or a count of words; or the refusal
abbrev pub Scan : Type 0
Scan = Result ℕ Refused

-- a call that writes into a room: the count of words written, or the refusal
abbrev pub Written : Type 0
Written = Result ℕ Refused

-- a step: the outcome and the worker's slot, or the refusal
abbrev pub StepAnswer : Type 0
StepAnswer = Result (Outcome × ℕ) Refused

-- a run: the outcome, the worker's slot and the steps counted, or the refusal
abbrev pub RunAnswer : Type 0
RunAnswer = Result (Outcome × ℕ × ℕ) Refused

-- a move: the entries passed on both legs, or the refusal
abbrev pub MoveAnswer : Type 0
MoveAnswer = Result ℕ Refused

-- a refusal, with its position
abbrev pub refused_at : {A : Type 0} → Refusal → ℕ → Result A Refused
refused_at refusal at = Err (record { 0 = refusal; 1 = at })
