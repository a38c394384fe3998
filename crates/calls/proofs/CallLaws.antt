-- What a call knows once nothing refuses it, and its answer from its core's. Document 01, "Refused calls". Assumes nothing.
use mathlib.Core.Path.{◌≡◌, refl, sym, ap, ap₂, ◌∙◌}
use mathlib.Core.Bool.{Bool, true, false, cond, ◌&&◌}
use mathlib.Core.List.{List, ◌++◌}
use Prim.Native.Nat.{ℕ, ◌*◌, ◌≤◌, ◌<◌}
use native.Mathlib.Omega.{arith}
use lib.Dec.{eqb, ltb, leb}
use lib.ListN.{length, get_or, take, drop}
use borrow.Author.Tests.{eqb-true, ltb-true, leb-true}
use Rattle.model.specs.declared.Refusal.TheVariants.{SliceLength, Damaged, NoWorker, NoSlot, NoAnswer, Room}
use Rattle.model.specs.Answers.{Verdict, refused_at}
use Rattle.std.proofs.Common.{Ok, Err}
use Rattle.model.specs.declared.Outcome.{Outcome}
use Rattle.model.specs.Fields.{variables}
use Rattle.model.specs.Image.{if_legal, check_query}
use Rattle.model.specs.Memory.{Memory, memory, used, has_goal}
use Rattle.model.specs.Steps.{Stepped, view, stepped, view_of, with_view, step, Ran, ran, run_from, run}
use Rattle.model.specs.Moves.{Moved, moved, move, answer}
use Rattle.model.specs.Damage.{sound}
use Rattle.model.specs.Calls.{lengths_right, load_refusal, call_refusal, step_called, step_if, step_call, run_called, run_if, run_call, move_refusal, move_called, move_if, move_call, read_refusal, read_called, read_if, read_call}

and-true : (a b : Bool) → (a && b) ≡ true → (a ≡ true) × (b ≡ true)
and-true true b e = (refl, e)
and-true false b e = let z : ◌≡◌ {A = ℕ} 0 1 = cc in absurd (omega arith)

pub record Lengths (m : Memory) : Type 0 where
  pub nodes : length m.nodes ≡ 256
  pub cells : length m.cells ≡ 2048
  pub trail : length m.trail ≡ 2048
  pub arrays : length m.arrays ≡ 8192
  pub workers : length m.workers ≡ 4

pub lengths-of : (m : Memory) → lengths_right m ≡ true → Lengths m
unfolding lengths_right
lengths-of m e =
    let five = and-true _ _ e in
    let four = and-true _ _ five.0 in
    let three = and-true _ _ four.0 in
    let two = and-true _ _ three.0 in
    record {
      nodes = eqb-true (length m.nodes) 256 two.0;
      cells = eqb-true (length m.cells) 2048 two.1;
      trail = eqb-true (length m.trail) 2048 three.1;
      arrays = eqb-true (length m.arrays) 8192 four.1;
      workers = eqb-true (length m.workers) 4 five.1;
    }

pub load-lengths : (image query : List ℕ) (m : Memory) → (Ok tt) ≡ load_refusal image query m → Lengths m
unfolding load_refusal
load-lengths image query m e = go (lengths_right m) refl e
  where
    go : (b : Bool) → lengths_right m ≡ b → (Ok tt) ≡ cond b (check_query image query) (refused_at SliceLength 0) → Lengths m
    go true q r = lengths-of m q
    go false q r = let z : ◌≡◌ {A = ℕ} 0 1 = cc in absurd (omega arith)

pub call-legal : (image query : List ℕ) (m : Memory) (worker : ℕ) → (Ok tt) ≡ call_refusal image query m worker → Lengths m × (worker < 4)
unfolding call_refusal
call-legal image query m worker e = go (load_refusal image query m) refl (sound image query m) (ltb worker 4) refl e
  where
    go : (v : Verdict) → load_refusal image query m ≡ v → (s w : Bool) → ltb worker 4 ≡ w
        → (Ok tt) ≡ if_legal v (cond s (cond w (Ok tt) (refused_at NoWorker 0)) (refused_at Damaged 0)) → Lengths m × (worker < 4)
    go (Ok u) q true true p r = (load-lengths image query m (sym q), ltb-true worker 4 p)
    go (Ok u) q true false p r = let z : ◌≡◌ {A = ℕ} 0 1 = cc in absurd (omega arith)
    go (Ok u) q false w p r = let z : ◌≡◌ {A = ℕ} 0 1 = cc in absurd (omega arith)
    go (Err stop) q s w p r = let z : ◌≡◌ {A = ℕ} 0 1 = cc in absurd (omega arith)

-- a step's answer from its core's, whose array is the worker's own part, `size` words long
pub step_from : (image query nodes cells trail arrays workers : List ℕ) (worker size : ℕ) (n c t a w : List ℕ) (outcome : Outcome) (slot : ℕ) → size ≡ 2048
    → (Ok tt) ≡ call_refusal image query (memory nodes cells trail arrays workers) worker
    → stepped outcome (view n c t a w) ≡ step image query (view nodes cells trail (take size (drop (2048 * worker) arrays)) workers) worker → slot ≡ get_or w worker 0
    → step_called (Ok (outcome, slot)) (memory n c t (take (2048 * worker) arrays ++ (a ++ drop size (drop (2048 * worker) arrays))) w)
    ≡ step_call image query (memory nodes cells trail arrays workers) worker
unfolding step_call step_if
step_from image query nodes cells trail arrays workers worker size n c t a w outcome slot whole legal did stands =
    let m = memory nodes cells trail arrays workers in
    let own : stepped outcome (view n c t a w) ≡ step image query (view_of m worker) worker = rw whole at did in
    ap (λ (k : ℕ). step_called (Ok (outcome, slot)) (memory n c t (take (2048 * worker) arrays ++ (a ++ drop k (drop (2048 * worker) arrays))) w)) whole
    ∙ ap (λ (s : ℕ). step_called (Ok (outcome, s)) (with_view m worker (view n c t a w))) stands
    ∙ ap (λ (d : Stepped). step_called (Ok (d.outcome, get_or d.after.workers worker 0)) (with_view m worker d.after)) own
    ∙ ap (λ (v : Verdict). step_if v image query m worker) legal

-- the same for a run
pub run-from : (image query nodes cells trail arrays workers : List ℕ) (worker budget size : ℕ) (n c t a w : List ℕ) (outcome : Outcome) (count slot : ℕ) → size ≡ 2048
    → (Ok tt) ≡ call_refusal image query (memory nodes cells trail arrays workers) worker
    → ran outcome count (view n c t a w) ≡ run_from budget 0 image query worker (view nodes cells trail (take size (drop (2048 * worker) arrays)) workers) → slot ≡ get_or w worker 0
    → run_called (Ok (outcome, slot, count)) (memory n c t (take (2048 * worker) arrays ++ (a ++ drop size (drop (2048 * worker) arrays))) w)
    ≡ run_call image query (memory nodes cells trail arrays workers) worker budget
unfolding run_call run_if run
run-from image query nodes cells trail arrays workers worker budget size n c t a w outcome count slot whole legal did stands =
    let m = memory nodes cells trail arrays workers in
    let own : ran outcome count (view n c t a w) ≡ run_from budget 0 image query worker (view_of m worker) = rw whole at did in
    ap (λ (k : ℕ). run_called (Ok (outcome, slot, count)) (memory n c t (take (2048 * worker) arrays ++ (a ++ drop k (drop (2048 * worker) arrays))) w)) whole
    ∙ ap (λ (s : ℕ). run_called (Ok (outcome, s, count)) (with_view m worker (view n c t a w))) stands
    ∙ ap (λ (r : Ran). run_called (Ok (r.outcome, get_or r.after.workers worker 0, r.count)) (with_view m worker r.after)) own
    ∙ ap (λ (v : Verdict). run_if v image query m worker budget) legal

pub move-legal : (image query : List ℕ) (m : Memory) (worker slot : ℕ) → (Ok tt) ≡ move_refusal image query m worker slot → (Ok tt) ≡ call_refusal image query m worker
unfolding move_refusal
move-legal image query m worker slot e =
    go (call_refusal image query m worker) (cond (ltb slot 64) (cond (eqb (used m.nodes slot) 1) (Ok tt) (refused_at NoSlot 0)) (refused_at NoSlot 0)) e
  where
    go : (v next : Verdict) → (Ok tt) ≡ if_legal v next → (Ok tt) ≡ v
    go (Ok u) next r = refl
    go (Err stop) next r = let z : ◌≡◌ {A = ℕ} 0 1 = cc in absurd (omega arith)

-- a move's answer from its core's
pub move-from : (image query nodes cells trail arrays workers : List ℕ) (worker slot passed : ℕ) (a w : List ℕ)
    → (Ok tt) ≡ move_refusal image query (memory nodes cells trail arrays workers) worker slot
    → moved passed (memory nodes cells trail a w) ≡ move (memory nodes cells trail arrays workers) worker slot
    → move_called (Ok passed) (memory nodes cells trail a w) ≡ move_call image query (memory nodes cells trail arrays workers) worker slot
unfolding move_call move_if
move-from image query nodes cells trail arrays workers worker slot passed a w legal did =
    ap (λ (v : Moved). move_called (Ok v.passed) v.after) did
    ∙ ap (λ (v : Verdict). move_if v (memory nodes cells trail arrays workers) worker slot) legal

pub read-legal : (image query : List ℕ) (m : Memory) (worker room : ℕ) → (Ok tt) ≡ read_refusal image query m worker room
    → ((Ok tt) ≡ call_refusal image query m worker) × (variables (get_or query 0 0) ≤ room)
unfolding read_refusal
read-legal image query m worker room e =
    go (call_refusal image query m worker) refl (eqb (has_goal m.nodes (get_or m.workers worker 0)) 1) (leb (variables (get_or query 0 0)) room) refl e
  where
    go : (v : Verdict) → call_refusal image query m worker ≡ v → (g r : Bool) → leb (variables (get_or query 0 0)) room ≡ r
        → (Ok tt) ≡ if_legal v (cond g (refused_at NoAnswer 0) (cond r (Ok tt) (refused_at Room 0))) → ((Ok tt) ≡ call_refusal image query m worker) × (variables (get_or query 0 0) ≤ room)
    go (Ok u) q false true p s = (sym q, leb-true (variables (get_or query 0 0)) room p)
    go (Ok u) q false false p s = let z : ◌≡◌ {A = ℕ} 0 1 = cc in absurd (omega arith)
    go (Ok u) q true r p s = let z : ◌≡◌ {A = ℕ} 0 1 = cc in absurd (omega arith)
    go (Err stop) q g r p s = let z : ◌≡◌ {A = ℕ} 0 1 = cc in absurd (omega arith)

-- reading's answer from its core's
pub read-from : (image query : List ℕ) (m : Memory) (worker count : ℕ) (room after : List ℕ) → (Ok tt) ≡ read_refusal image query m worker (length room)
    → (after ≡ answer query m worker ++ drop count room) × (count ≡ length (answer query m worker))
    → read_called (Ok count) after ≡ read_call image query m worker room
unfolding read_call read_if
read-from image query m worker count room after legal did =
    ap₂ (λ (n : ℕ) (l : List ℕ). read_called (Ok n) l) did.1 (did.0 ∙ ap (λ (n : ℕ). answer query m worker ++ drop n room) did.1)
    ∙ ap (λ (v : Verdict). read_if v query m worker room) legal
