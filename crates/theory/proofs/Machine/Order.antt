-- One worker alone from the load, by steps and runs: its reports come depth first in clause order.
-- Serves demand 2, its second half. Assumes nothing.
use Rattle.std.specs.Prelude.{Bool, List, [], ◌++◌, ◌⊎◌, ◌≡◌, ◌<◌, ℕ, ltb}
use Rattle.std.proofs.Math.Bool.{false, true}
use mathlib.Core.List.Memᴰ
use Rattle.std.proofs.Common.{append-nil, inl, inr, ◌∙◌, ltb-true}
use Rattle.std.proofs.Math.Option.{none, some}
use Rattle.std.proofs.Math.Path.{ap, refl, sym}
use Rattle.model.specs.Demands.{Alone, ClauseOrder, alone-load, alone-run, alone-step, order-nothing}
use Rattle.model.specs.Machine.{Call, Machine, Size, UsedSlot, after, load, make_call, root_slot, run_call, step_call}
use Rattle.model.specs.Search.{ClausePath, Search}
use Rattle.theory.proofs.Kit.Maps.{Met, Passed, put-cases, put_same, some-none}
use Rattle.theory.proofs.Machine.Calls.{load-good}
use Rattle.theory.specs.Machine.Invariants.{Lone}
use Rattle.theory.proofs.Machine.LoneSteps.{step-lone}
use Rattle.theory.proofs.Machine.Runs.{run-keeps}
use Rattle.theory.specs.Tree.Laws.{Laws}

module _ (T : Search) (Z : Size) (L : Laws T) where
  load-lone : 0 < Z.slots → (w : ℕ) → Lone T Z (load T) w
  unfolding load
  load-lone z w =
      record {
        good = load-good T Z L z;
        ent = root_slot T;
        here = put_same (λ _. none) 0 (some (root_slot T));
        prefix = λ s e u. pre s e (put-cases (λ _. none) 0 (some (root_slot T)) s (some e) u);
        before = λ d p h y. absurd (Memᴰ.not-nil h);
        ordered = order-nothing;
        idle = λ v h. refl;
      }
    where
      pre : (t : ℕ) (f : UsedSlot T) → Met (λ _. none) 0 (some (root_slot T)) t (some f) ⊎ Passed (λ _. none) 0 t (some f) → (r : ClausePath) × ([] ≡ f.path ++ r)
      pre t f (inl m) = let h : f ≡ root_slot T = cc m.is in ([], ap (λ (x : UsedSlot T). x.path) (sym h) ∙ sym (append-nil f.path))
      pre t f (inr m) = absurd (some-none refl (sym m.was))

  step_call-lone : (b : Bool) (M : Machine T) (w : ℕ) → ltb w Z.workers ≡ b → Lone T Z M w → Lone T Z (step_call T Z b M w).machine w
  unfolding step_call
  step_call-lone true M w q l = step-lone T Z L M w (ltb-true w Z.workers q) l
  step_call-lone false M w q l = l

  run_call-lone : (b : Bool) (n : ℕ) (M : Machine T) (w : ℕ) → ltb w Z.workers ≡ b → Lone T Z M w → Lone T Z (run_call T Z b n M w).machine w
  unfolding run_call
  run_call-lone true n M w q l = run-keeps T Z (λ K. Lone T Z K w) w (λ K k. step-lone T Z L K w (ltb-true w Z.workers q) k) n M l
  run_call-lone false n M w q l = l

  alone-lone : 0 < Z.slots → (w : ℕ) {cs : List Call} → Alone w cs → Lone T Z (after T Z cs) w
  unfolding after make_call
  alone-lone z w alone-load = load-lone z w
  alone-lone z w (alone-step {cs} a) = step_call-lone (ltb w Z.workers) (after T Z cs) w refl (alone-lone z w a)
  alone-lone z w (alone-run {n} {cs} a) = run_call-lone (ltb w Z.workers) n (after T Z cs) w refl (alone-lone z w a)

  -- what one worker alone has reported is in clause order
  pub alone-order : 0 < Z.slots → (w : ℕ) (cs : List Call) → Alone w cs → ClauseOrder (after T Z cs).reported
  alone-order z w cs a = (alone-lone z w a).ordered
