-- Once a call says Finished, the reports since the load are exactly the derivations.
-- Serves demand 2, its first half, and rule 1 of document 01's steps. Assumes nothing.
use Rattle.std.specs.Prelude.{Bool, ◌&&◌, List, ◌∷◌, ◌<◌, ℕ, ltb}
use Rattle.std.proofs.Math.Bool.{false, not, true}
use Rattle.std.proofs.Math.Option.{Option, none, some}
use Rattle.std.proofs.Common.{◌∙◌, arith}
use Rattle.std.proofs.Math.Path.{◌≡◌, refl, sym}
use Rattle.std.proofs.Math.Dec.{eqb}
use borrow.Author.Tests.{eqb-true, ltb-false, ltb-true}
use Rattle.model.specs.Demands.{Exactly}
use Rattle.model.specs.Machine.{Call, Machine, Size, UsedSlot, after, another_there, dead_rule, has_child, is_free, live, live_rule, lowest_free, make_call, move_call, move_to, node_rule, run_by, run_call, slot_rule, step, step_by, step_call}
use Rattle.model.specs.Search.{Search}
use Rattle.model.specs.declared.Outcome.TheVariants.{Answer, Extended, Finished}
use Rattle.theory.proofs.Kit.Maps.{some-none}
use Rattle.theory.proofs.Machine.Calls.{after-good}
use Rattle.theory.specs.Machine.Invariants.{Good}
use Rattle.theory.proofs.Machine.Runs.{run-last_step}
use Rattle.theory.proofs.Machine.Steps.{step-good}
use Rattle.theory.proofs.Machine.Tests.{has_child-false}
use Rattle.theory.specs.Tree.Laws.{Laws}
use Rattle.theory.proofs.Tree.Reports.{finished}
use Rattle.theory.specs.Tree.Slots.{Over}

module _ (T : Search) (Z : Size) where
  -- Finished is said by rule 1 only, and changes nothing
  pub step-over : (M : Machine T) (w : ℕ) → Good T Z M → (step T Z M w).outcome ≡ Finished → Over T M.slots × ((step T Z M w).machine ≡ M)
  unfolding step slot_rule node_rule live_rule dead_rule live
  step-over M w g q = slot (M.slots (M.at w)) refl q
    where
      dead : (e : UsedSlot T) (s : ℕ) → M.slots s ≡ some e → live T e ≡ false → (c r o : Bool) → has_child T Z M s ≡ c → eqb s 0 ≡ r
          → (dead_rule T Z c r o M w s e).outcome ≡ Finished → Over T M.slots × ((dead_rule T Z c r o M w s e).machine ≡ M)
      dead e s u d true r o hc hr f = let z : ◌≡◌ {A = ℕ} 0 1 = cc in absurd (omega arith)
      dead e s u d false true o hc hr f =
          let z = eqb-true s 0 hr in
          (record { top = e; used = rw z at u; dead = ltb-false e.tried (T.clause_count e.node) d; childless = λ t h v k x. has_child-false T Z M s hc t h v (g.low t h v) k (x ∙ sym z) }, refl)
      dead e s u d false false true hc hr f = let z : ◌≡◌ {A = ℕ} 0 1 = cc in absurd (omega arith)
      dead e s u d false false false hc hr f = let z : ◌≡◌ {A = ℕ} 0 1 = cc in absurd (omega arith)

      leafy : (m : T.Node) (c : ℕ) (e : UsedSlot T) (b : Bool) → T.without_goals m ≡ b → (live_rule T Z false (some c) (some m) M w (M.at w) e).outcome ≡ Finished → ⊥
      leafy m c e true h f = let k : Answer ≡ Finished = rw (h, live_rule) at f in let z : ◌≡◌ {A = ℕ} 0 1 = cc in omega arith
      leafy m c e false h f = let k : Extended ≡ Finished = rw (h, live_rule) at f in let z : ◌≡◌ {A = ℕ} 0 1 = cc in omega arith

      kid : (o : Option T.Node) (c : ℕ) (e : UsedSlot T) → (live_rule T Z false (some c) o M w (M.at w) e).outcome ≡ Finished → ⊥
      kid none c e f = let z : ◌≡◌ {A = ℕ} 0 1 = cc in omega arith
      kid (some m) c e f = leafy m c e (T.without_goals m) refl f

      rooms : (o : Option ℕ) (e : UsedSlot T) → (live_rule T Z false o (T.child e.node e.tried) M w (M.at w) e).outcome ≡ Finished → ⊥
      rooms none e f = let z : ◌≡◌ {A = ℕ} 0 1 = cc in omega arith
      rooms (some c) e f = kid (T.child e.node e.tried) c e f

      lives : (b : Bool) (e : UsedSlot T) → (live_rule T Z b (lowest_free T Z M) (T.child e.node e.tried) M w (M.at w) e).outcome ≡ Finished → ⊥
      lives true e f = let z : ◌≡◌ {A = ℕ} 0 1 = cc in omega arith
      lives false e f = rooms (lowest_free T Z M) e f

      either : (e : UsedSlot T) → M.slots (M.at w) ≡ some e → (b : Bool) → live T e ≡ b → (node_rule T Z b M w (M.at w) e).outcome ≡ Finished
          → Over T M.slots × ((node_rule T Z b M w (M.at w) e).machine ≡ M)
      either e u true l f = absurd (lives (T.sequential e.node && has_child T Z M (M.at w)) e f)
      either e u false l f = dead e (M.at w) u l (has_child T Z M (M.at w)) (eqb (M.at w) 0) (another_there T Z M w (M.at w)) refl refl f

      slot : (o : Option (UsedSlot T)) → M.slots (M.at w) ≡ o → (slot_rule T Z o M w (M.at w)).outcome ≡ Finished
          → Over T M.slots × ((slot_rule T Z o M w (M.at w)).machine ≡ M)
      slot none u f = let z : ◌≡◌ {A = ℕ} 0 1 = cc in absurd (omega arith)
      slot (some e) u f = either e u (live T e) refl f

  step-exactly : Laws T → (M : Machine T) (w : ℕ) → Good T Z M → (step T Z M w).outcome ≡ Finished → Exactly T (step T Z M w).machine.reported
  step-exactly L M w g q =
      let o = step-over M w g q in
      rw o.1 (record {
        sound = g.books.sound;
        complete = finished T L M.slots M.reported g.shape g.books o.0;
        none_twice = g.books.none_twice;
      })

  step_call-exactly : Laws T → (b : Bool) (M : Machine T) (w : ℕ) → Good T Z M → (step_call T Z b M w).outcome ≡ some Finished
      → Exactly T (step_call T Z b M w).machine.reported
  unfolding step_call
  step_call-exactly L true M w g e = step-exactly L M w g cc
  step_call-exactly L false M w g e = absurd (some-none e refl)

  run_call-exactly : Laws T → (b : Bool) (n : ℕ) (M : Machine T) (w : ℕ) → ltb w Z.workers ≡ b → Good T Z M → (run_call T Z b n M w).outcome ≡ some Finished
      → Exactly T (run_call T Z b n M w).machine.reported
  unfolding run_call
  run_call-exactly L true n M w q g e =
      let l = run-last_step T Z (Good T Z) w (λ K k. step-good T Z L K w (ltb-true w Z.workers q) k) n M g cc in
      rw l.same (step-exactly L l.before w l.kept l.says)
  run_call-exactly L false n M w q g e = absurd (some-none e refl)

  move_call-silent : (b : Bool) (M : Machine T) (w s : ℕ) → (move_call T Z b M w s).outcome ≡ none
  unfolding move_call
  move_call-silent true M w s = refl
  move_call-silent false M w s = refl

  make_call-exactly : Laws T → (M : Machine T) (c : Call) → Good T Z M → (make_call T Z M c).outcome ≡ some Finished → Exactly T (make_call T Z M c).machine.reported
  unfolding make_call
  make_call-exactly L M (step_by w) g e = step_call-exactly L (ltb w Z.workers) M w g e
  make_call-exactly L M (run_by w n) g e = run_call-exactly L (ltb w Z.workers) n M w refl g e
  make_call-exactly L M (move_to w s) g e = absurd (some-none e (move_call-silent (ltb w Z.workers && (ltb s Z.slots && not (is_free T (M.slots s)))) M w s))

  -- whatever was called since the load: once a call says Finished, the reports are the derivations, each once
  pub finished-exactly : Laws T → 0 < Z.slots → (cs : List Call) (c : Call) → (make_call T Z (after T Z cs) c).outcome ≡ some Finished
      → Exactly T (after T Z (c ∷ cs)).reported
  unfolding after
  finished-exactly L z cs c e = make_call-exactly L (after T Z cs) c (after-good T Z L z cs) e
