-- The calls with the order of their refusals: document 01, "Refused calls": "20 a lent slice has the wrong length; image; query; 21 damaged; 22 worker above 3;
-- then 23 (move: slot above 63 or free), 24, 25 (read: not at a node without goals), 26 (read: room below the variable count)".
-- A refusal and an outcome are kept apart: their numbers overlap. Full at a step is the outcome Full, and changes nothing. Assumes nothing.
use Rattle.std.specs.Prelude.{Bool, cond, ◌&&◌, List, ◌++◌, ℕ, eqb, ltb, leb, length, get_or, drop, Ok, Err}
use Rattle.model.specs.declared.Refusal.TheVariants.{SliceLength, Damaged, NoWorker, NoSlot, NoAnswer, Room}
use Rattle.model.specs.Answers.{MoveAnswer, RunAnswer, StepAnswer, Verdict, Written, refused_at}
use Rattle.model.specs.Image.{if_legal, check_query}
use Rattle.model.specs.Memory.{Memory, used, has_goal}
use Rattle.model.specs.Fields.{variables}
use Rattle.model.specs.Steps.{view_of, with_view, step, run}
use Rattle.model.specs.Moves.{loaded, move, answer}
use Rattle.model.specs.Damage.{sound}

-- "nodes 256, cells 2,048, trail 2,048, arrays 8,192, workers 4"
unfoldable pub lengths_right : Memory → Bool
lengths_right m =
    eqb (length m.nodes) 256 && eqb (length m.cells) 2048 && eqb (length m.trail) 2048 && eqb (length m.arrays) 8192 && eqb (length m.workers) 4

-- 20, image, query
unfoldable pub load_refusal : List ℕ → List ℕ → Memory → Verdict
load_refusal image query m = cond (lengths_right m) (check_query image query) (refused_at SliceLength 0)

-- 20, image, query, 21, 22
unfoldable pub call_refusal : List ℕ → List ℕ → Memory → ℕ → Verdict
call_refusal image query m worker =
    if_legal (load_refusal image query m) (cond (sound image query m) (cond (ltb worker 4) (Ok tt) (refused_at NoWorker 0)) (refused_at Damaged 0))

-- a call's answer and the memory after it
pub record Loaded : Type 0 where
  pub answer : Verdict
  pub after : Memory

abbrev pub loaded_to : Verdict → Memory → Loaded
loaded_to answer after = record { answer = answer; after = after }

-- "Load stops after the query check and otherwise sets memory afresh"
unfoldable pub load_if : Verdict → List ℕ → Memory → Loaded
load_if (Ok u) query m = loaded_to (Ok tt) (loaded query)
load_if (Err stop) query m = loaded_to (Err stop) m

unfoldable pub load_call : List ℕ → List ℕ → Memory → Loaded
load_call image query m = load_if (load_refusal image query m) query m

pub record StepCalled : Type 0 where
  pub answer : StepAnswer
  pub after : Memory

abbrev pub step_called : StepAnswer → Memory → StepCalled
step_called answer after = record { answer = answer; after = after }

-- "steps and runs return outcome and w's slot"
unfoldable pub step_if : Verdict → List ℕ → List ℕ → Memory → ℕ → StepCalled
step_if (Ok u) image query m worker =
    let d = step image query (view_of m worker) worker in
    step_called (Ok (d.outcome, get_or d.after.workers worker 0)) (with_view m worker d.after)
step_if (Err stop) image query m worker = step_called (Err stop) m

unfoldable pub step_call : List ℕ → List ℕ → Memory → ℕ → StepCalled
step_call image query m worker = step_if (call_refusal image query m worker) image query m worker

pub record RunCalled : Type 0 where
  pub answer : RunAnswer
  pub after : Memory

abbrev pub run_called : RunAnswer → Memory → RunCalled
run_called answer after = record { answer = answer; after = after }

-- "runs also the count"
unfoldable pub run_if : Verdict → List ℕ → List ℕ → Memory → ℕ → ℕ → RunCalled
run_if (Ok u) image query m worker budget =
    let r = run image query (view_of m worker) worker budget in
    run_called (Ok (r.outcome, get_or r.after.workers worker 0, r.count)) (with_view m worker r.after)
run_if (Err stop) image query m worker budget = run_called (Err stop) m

unfoldable pub run_call : List ℕ → List ℕ → Memory → ℕ → ℕ → RunCalled
run_call image query m worker budget = run_if (call_refusal image query m worker) image query m worker budget

pub record MoveCalled : Type 0 where
  pub answer : MoveAnswer
  pub after : Memory

abbrev pub move_called : MoveAnswer → Memory → MoveCalled
move_called answer after = record { answer = answer; after = after }

-- 23, "slot above 63 or free"
unfoldable pub move_refusal : List ℕ → List ℕ → Memory → ℕ → ℕ → Verdict
move_refusal image query m worker slot =
    if_legal (call_refusal image query m worker) (cond (ltb slot 64) (cond (eqb (used m.nodes slot) 1) (Ok tt) (refused_at NoSlot 0)) (refused_at NoSlot 0))

unfoldable pub move_if : Verdict → Memory → ℕ → ℕ → MoveCalled
move_if (Ok u) m worker slot = let v = move m worker slot in move_called (Ok v.passed) v.after
move_if (Err stop) m worker slot = move_called (Err stop) m

unfoldable pub move_call : List ℕ → List ℕ → Memory → ℕ → ℕ → MoveCalled
move_call image query m worker slot = move_if (move_refusal image query m worker slot) m worker slot

pub record ReadCalled : Type 0 where
  pub answer : Written
  pub room : List ℕ

abbrev pub read_called : Written → List ℕ → ReadCalled
read_called answer room = record { answer = answer; room = room }

-- 25, then 26
unfoldable pub read_refusal : List ℕ → List ℕ → Memory → ℕ → ℕ → Verdict
read_refusal image query m worker room =
    if_legal (call_refusal image query m worker)
    (cond (eqb (has_goal m.nodes (get_or m.workers worker 0)) 1) (refused_at NoAnswer 0)
    (cond (leb (variables (get_or query 0 0)) room) (Ok tt) (refused_at Room 0)))

-- "return the count of words written; words past it stay"
unfoldable pub read_if : Verdict → List ℕ → Memory → ℕ → List ℕ → ReadCalled
read_if (Ok u) query m worker room =
    let words = answer query m worker in
    read_called (Ok (length words)) (words ++ drop (length words) room)
read_if (Err stop) query m worker room = read_called (Err stop) room

unfoldable pub read_call : List ℕ → List ℕ → Memory → ℕ → List ℕ → ReadCalled
read_call image query m worker room = read_if (read_refusal image query m worker (length room)) query m worker room
