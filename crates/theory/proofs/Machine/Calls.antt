-- After any calls since the load the machine is good: steps, runs and moves, refused ones too.
-- Serves demand 2 and "Refused calls" of document 01. Assumes nothing.
use Rattle.std.specs.Prelude.{Bool, ◌&&◌, ◌⊎◌, ◌≡◌, ◌<◌, ℕ, ltb}
use Rattle.std.proofs.Math.Bool.{false, not, true}
use mathlib.Core.List.{List, [], ◌∷◌}
use Rattle.std.proofs.Common.{inl, inr, sym, arith, ltb-true}
use Rattle.std.proofs.Math.Option.{Option, none, some}
use Rattle.std.proofs.Math.Path.{refl}
use Rattle.model.specs.Machine.{Call, Machine, Size, UsedSlot, after, goes, is_free, load, make_call, move_call, move_to, root_slot, run_by, run_call, step_by, step_call}
use Rattle.model.specs.Search.{Search}
use Rattle.theory.proofs.Kit.Maps.{Met, Passed, put-cases, put_same, some-none, true-false}
use Rattle.theory.specs.Machine.Invariants.{Good}
use Rattle.theory.proofs.Machine.Runs.{run-keeps}
use Rattle.theory.proofs.Machine.Steps.{step-good}
use Rattle.theory.proofs.Machine.Tests.{goes-good}
use Rattle.theory.specs.Tree.Laws.{Laws}
use Rattle.theory.proofs.Tree.Reports.{books-load}
use Rattle.theory.proofs.Tree.Shapes.{shape-load}

module _ (T : Search) (Z : Size) where
  pub load-good : Laws T → 0 < Z.slots → Good T Z (load T)
  unfolding load
  load-good L z =
      record {
        shape = shape-load T;
        books = books-load T L;
        low = λ s e u. lows s e (put-cases (λ _. none) 0 (some (root_slot T)) s (some e) u);
        stands = λ w l. (root_slot T, put_same (λ _. none) 0 (some (root_slot T)));
      }
    where
      lows : (t : ℕ) (f : UsedSlot T) → Met (λ _. none) 0 (some (root_slot T)) t (some f) ⊎ Passed (λ _. none) 0 t (some f) → t < Z.slots
      lows t f (inl m) = omega (arith, m.at)
      lows t f (inr m) = absurd (some-none refl (sym m.was))

  step_call-good : Laws T → (b : Bool) (M : Machine T) (w : ℕ) → ltb w Z.workers ≡ b → Good T Z M → Good T Z (step_call T Z b M w).machine
  unfolding step_call
  step_call-good L true M w q g = step-good T Z L M w (ltb-true w Z.workers q) g
  step_call-good L false M w q g = g

  run_call-good : Laws T → (b : Bool) (n : ℕ) (M : Machine T) (w : ℕ) → ltb w Z.workers ≡ b → Good T Z M → Good T Z (run_call T Z b n M w).machine
  unfolding run_call
  run_call-good L true n M w q g = run-keeps T Z (Good T Z) w (λ K k. step-good T Z L K w (ltb-true w Z.workers q) k) n M g
  run_call-good L false n M w q g = g

  move_call-good : (b : Bool) (M : Machine T) (w s : ℕ) → ltb w Z.workers && (ltb s Z.slots && not (is_free T (M.slots s))) ≡ b → Good T Z M
      → Good T Z (move_call T Z b M w s).machine
  unfolding move_call is_free
  move_call-good true M w s q g = to (M.slots s) refl
    where
      no_slot : (a b : Bool) → a && (b && false) ≡ true → ⊥
      no_slot true true e = true-false false e refl
      no_slot true false e = true-false false e refl
      no_slot false b e = true-false false e refl

      to : (o : Option (UsedSlot T)) → M.slots s ≡ o → Good T Z (goes T M w s)
      to none u = absurd (no_slot (ltb w Z.workers) (ltb s Z.slots) (rw u at q))
      to (some e) u = goes-good T Z M w s g (e, u)
  move_call-good false M w s q g = g

  make_call-good : Laws T → (M : Machine T) (c : Call) → Good T Z M → Good T Z (make_call T Z M c).machine
  unfolding make_call
  make_call-good L M (step_by w) g = step_call-good L (ltb w Z.workers) M w refl g
  make_call-good L M (run_by w n) g = run_call-good L (ltb w Z.workers) n M w refl g
  make_call-good L M (move_to w s) g = move_call-good (ltb w Z.workers && (ltb s Z.slots && not (is_free T (M.slots s)))) M w s refl g

  pub after-good : Laws T → 0 < Z.slots → (cs : List Call) → Good T Z (after T Z cs)
  unfolding after
  after-good L z [] = load-good L z
  after-good L z (c ∷ cs) = make_call-good L (after T Z cs) c (after-good L z cs)
