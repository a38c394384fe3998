-- From what a call of `calls` answers and leaves to what the exported call answers and leaves. Document 01, "Refused calls". Assumes nothing.
use mathlib.Core.Path.{◌≡◌, ap, ◌∙◌}
use mathlib.Core.List.{List}
use Prim.Native.Nat.{ℕ}
use Rattle.model.specs.Answers.{MoveAnswer, RunAnswer, StepAnswer, Verdict, Written}
use Rattle.model.specs.Memory.{Memory}
use Rattle.model.specs.Spread.{WrittenTo, written_to}
use Rattle.model.specs.Calls.{Loaded, StepCalled, RunCalled, MoveCalled, ReadCalled, loaded_to, step_called, run_called, move_called, read_called}
use Rattle.host.specs.declared.Answer.{Answer}
use Rattle.host.specs.Answers.{answer_of_check, answer_of, answer_of_step, answer_of_run, answer_of_move, called, filled, of_load, of_step, of_run, of_move, of_read, of_writing}

module _ (given : Answer) (after : Memory) where
  pub load_said : (answer : Verdict) (call : Loaded) → given ≡ answer_of_check answer → loaded_to answer after ≡ call → called given after ≡ of_load call
  load_said answer call a e = ap (λ (x : Answer). called x after) a ∙ ap of_load e

  pub step-said : (answer : StepAnswer) (call : StepCalled) → given ≡ answer_of_step answer → step_called answer after ≡ call → called given after ≡ of_step call
  step-said answer call a e = ap (λ (x : Answer). called x after) a ∙ ap of_step e

  pub run-said : (answer : RunAnswer) (call : RunCalled) → given ≡ answer_of_run answer → run_called answer after ≡ call → called given after ≡ of_run call
  run-said answer call a e = ap (λ (x : Answer). called x after) a ∙ ap of_run e

  pub move-said : (answer : MoveAnswer) (call : MoveCalled) → given ≡ answer_of_move answer → move_called answer after ≡ call → called given after ≡ of_move call
  move-said answer call a e = ap (λ (x : Answer). called x after) a ∙ ap of_move e

module _ (given : Answer) (room : List ℕ) (answer : Written) where
  pub read-said : (call : ReadCalled) → given ≡ answer_of answer → read_called answer room ≡ call → filled given room ≡ of_read call
  read-said call a e = ap (λ (x : Answer). filled x room) a ∙ ap of_read e

  pub writing-said : (call : WrittenTo) → given ≡ answer_of answer → written_to answer room ≡ call → filled given room ≡ of_writing call
  writing-said call a e = ap (λ (x : Answer). filled x room) a ∙ ap of_writing e
