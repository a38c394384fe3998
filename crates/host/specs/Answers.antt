-- What a call answers to a host in C: numbers of 32 bits, each 0 where it does not apply. Document 01, "return the count of words written",
-- "steps and runs return outcome and w's slot, runs also the count", "returns the entries passed on both legs", and "Refused calls".
-- A place in a list can be greater than 32 bits hold; the greatest number then stands for it. Assumes nothing.
use Rattle.std.specs.Prelude.{List, ℕ, min, Ok, Err}
use Rattle.model.specs.Answers.{MoveAnswer, RunAnswer, StepAnswer, Verdict, Written}
use Rattle.model.specs.Numbers.{refusal_number}
use Rattle.model.specs.Machine.{outcome_number}
use Rattle.model.specs.Memory.{Memory}
use Rattle.model.specs.Spread.{WrittenTo}
use Rattle.model.specs.Calls.{Loaded, StepCalled, RunCalled, MoveCalled, ReadCalled}
use Rattle.host.specs.declared.Answer.{Answer}

abbrev pub done : ℕ → ℕ → ℕ → Answer
done outcome slot count = record { refusal = 0; position = 0; outcome = outcome; slot = slot; count = count }

abbrev pub refused : ℕ → ℕ → Answer
refused number position = record { refusal = number; position = position; outcome = 0; slot = 0; count = 0 }

-- of a check of words, and of a load
abbrev pub answer_of_check : Verdict → Answer
answer_of_check (Ok u) = done 0 0 0
answer_of_check (Err stop) = refused (refusal_number stop.0) (min stop.1 4294967295)

-- of a call that writes into a room
abbrev pub answer_of : Written → Answer
answer_of (Ok count) = done 0 0 (min count 4294967295)
answer_of (Err stop) = refused (refusal_number stop.0) (min stop.1 4294967295)

abbrev pub answer_of_step : StepAnswer → Answer
answer_of_step (Ok (outcome, slot)) = done (outcome_number outcome) slot 0
answer_of_step (Err stop) = refused (refusal_number stop.0) (min stop.1 4294967295)

abbrev pub answer_of_run : RunAnswer → Answer
answer_of_run (Ok (outcome, slot, count)) = done (outcome_number outcome) slot count
answer_of_run (Err stop) = refused (refusal_number stop.0) (min stop.1 4294967295)

abbrev pub answer_of_move : MoveAnswer → Answer
answer_of_move (Ok passed) = done 0 0 passed
answer_of_move (Err stop) = refused (refusal_number stop.0) (min stop.1 4294967295)

-- an answer and the memory after the call
pub record Called : Type 0 where
  pub answer : Answer
  pub after : Memory

abbrev pub called : Answer → Memory → Called
called answer after = record { answer = answer; after = after }

abbrev pub of_load : Loaded → Called
of_load call = called (answer_of_check call.answer) call.after

abbrev pub of_step : StepCalled → Called
of_step call = called (answer_of_step call.answer) call.after

abbrev pub of_run : RunCalled → Called
of_run call = called (answer_of_run call.answer) call.after

abbrev pub of_move : MoveCalled → Called
of_move call = called (answer_of_move call.answer) call.after

-- an answer and the room after the call
pub record Filled : Type 0 where
  pub answer : Answer
  pub room : List ℕ

abbrev pub filled : Answer → List ℕ → Filled
filled answer room = record { answer = answer; room = room }

abbrev pub of_read : ReadCalled → Filled
of_read call = filled (answer_of call.answer) call.room

-- of packing and unpacking
abbrev pub of_writing : WrittenTo → Filled
of_writing call = filled (answer_of call.answer) call.room
