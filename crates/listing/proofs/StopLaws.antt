-- Worker 0's next stop and the line for it, from what the engine's run, the reading of an answer and the writing of a line promise. Document 01, "The desk program".
-- Assumes nothing.
use Rattle.std.proofs.Common.{◌≡◌, sym, ap, ◌∙◌, Some, true, ◌&&◌, List, [], ◌++◌, ℕ, zero, suc, ◌+◌, ◌-◌, ◌≤◌, ◌<◌, arith, length, get_or, take, drop, take_at}
use Rattle.model.specs.declared.Outcome.{Outcome}
use Rattle.model.specs.declared.Outcome.TheVariants.{Tried, Extended, Answer as AnswerMade, Back, Left, Wait, Finished, Spent, Full}
use Rattle.model.specs.Fields.{variables}
use Rattle.model.specs.Memory.{Memory, memory, array_of}
use Rattle.model.specs.Steps.{View, view, with_view, step, Ran, ran, go_on, run_from, run}
use Rattle.model.specs.Moves.{answer}
use Rattle.memory.proofs.FieldBounds.{variables-lt}
use Rattle.moves.proofs.ReadLaws.{answer-length}
use Rattle.lines.proofs.WholeLaws.{answer-fits, is-roomy}
use Rattle.desk_model.specs.declared.Ending.{Ending}
use Rattle.desk_model.specs.declared.Stop.{Stop}
use Rattle.desk_model.specs.declared.Stop.TheVariants.{Answer, Ended}
use Rattle.desk_model.specs.Lines.{answer_line, ending_line, wrote, line_in, roomy, few_values}
use Rattle.desk_model.specs.Desk.{stop_of, advanced_to, advanced, stop_line}

-- a run counts no more steps than its budget
pub run-count : (left count : ℕ) (image query : List ℕ) (worker : ℕ) (v : View) → (run_from left count image query worker v).count ≤ count + left
unfolding run_from
run-count zero count image query worker v = omega arith
run-count (suc left) count image query worker v =
    go (step image query v worker).outcome (step image query v worker).after (λ w. run-count left (count + 1) image query worker w)
  where
    go : (outcome : Outcome) (w : View) → ((x : View) → (run_from left (count + 1) image query worker x).count ≤ count + 1 + left)
        → (go_on (run_from left (count + 1) image query worker) count outcome w).count ≤ count + suc left
    go Tried w more = omega (arith, more w)
    go Extended w more = omega (arith, more w)
    go AnswerMade w more = omega arith
    go Back w more = omega (arith, more w)
    go Left w more = omega (arith, more w)
    go Wait w more = omega arith
    go Finished w more = omega arith
    go Spent w more = omega arith
    go Full w more = omega arith

module _ (image query nodes cells trail arrays workers : List ℕ) (steps left : ℕ) (rest : left ≡ 65535 - steps) (n c t a w : List ℕ) (outcome : Outcome) (count : ℕ)
    (did : ran outcome count (view n c t a w) ≡ run_from left 0 image query 0 (view nodes cells trail (take 2048 arrays) workers)) where
  -- the steps so far stay small
  pub steps-fit : steps < 4294967296 → steps + count < 4294967296
  steps-fit h =
      let most = run-count left 0 image query 0 (view nodes cells trail (take 2048 arrays) workers) in
      let same = ap (λ (r : Ran). r.count) did in
      omega (arith, most, same, rest)

  -- worker 0's array is the first part of the arrays
  pub advanced-from : (stop : Stop) → stop ≡ stop_of outcome
      → advanced_to stop (steps + count) (memory n c t (a ++ drop 2048 arrays) w) ≡ advanced image query (memory nodes cells trail arrays workers) steps
  unfolding advanced run
  advanced-from stop is =
      let m = memory nodes cells trail arrays workers in
      ap (λ (s : Stop). advanced_to s (steps + count) (with_view m 0 (view n c t a w))) is
      ∙ ap (λ (r : Ran). advanced_to (stop_of r.outcome) (steps + r.count) (with_view m 0 r.after))
      (did ∙ ap (λ (k : ℕ). run_from k 0 image query 0 (view nodes cells trail (take 2048 arrays) workers)) rest)

answer-few : (query : List ℕ) (m : Memory) → length (answer query m 0) < 64
unfolding answer
answer-few query m = omega (arith, answer-length (array_of m.arrays 0) m.cells (variables (get_or query 0 0)) 0 [], variables-lt (get_or query 0 0))

-- an answer that was read into a room, and the words at its front
module _ (query : List ℕ) (m : Memory) (count : ℕ) (room after : List ℕ) (read : (after ≡ answer query m 0 ++ drop count room) × (count ≡ length (answer query m 0))) where
  pub read-few : count < 64
  read-few = omega (arith, read.1, answer-few query m)

  read-words : take count after ≡ answer query m 0
  read-words = ap (take count) read.0 ∙ take_at (answer query m 0) (drop count room) count (sym read.1)

  pub answer-told : (steps size : ℕ) (line end : List ℕ) → 1024 ≤ length line
      → wrote (Some size) end ≡ line_in (roomy line && few_values (take count after)) (answer_line steps (take count after)) line
      → wrote (Some size) end ≡ line_in true (stop_line Answer query m steps) line
  unfolding stop_line
  answer-told steps size line end h e =
      e ∙ ap (λ (l : List ℕ). line_in (roomy line && few_values l) (answer_line steps l) line) read-words
      ∙ ap (λ b. line_in b (answer_line steps (answer query m 0)) line) (answer-fits line (answer query m 0) h (omega (arith, answer-few query m)))

-- the line, by what the stop is
module _ (stop : Stop) (query : List ℕ) (m : Memory) (steps size : ℕ) (line end : List ℕ) where
  pub stop-answer : stop ≡ Answer → wrote (Some size) end ≡ line_in true (stop_line Answer query m steps) line → wrote (Some size) end ≡ line_in true (stop_line stop query m steps) line
  stop-answer e h = h ∙ ap (λ (s : Stop). line_in true (stop_line s query m steps) line) (sym e)

  pub stop-ended : (ending : Ending) → stop ≡ Ended ending → 1024 ≤ length line → wrote (Some size) end ≡ line_in (roomy line) (ending_line ending steps) line
      → wrote (Some size) end ≡ line_in true (stop_line stop query m steps) line
  unfolding stop_line
  stop-ended ending e l h =
      h ∙ ap (λ b. line_in b (ending_line ending steps) line) (is-roomy line l) ∙ ap (λ (s : Stop). line_in true (stop_line s query m steps) line) (sym e)
