-- What a step was that says Tried: rule 7 at a live node, with a free slot for the child, whose head failed. No other rule says Tried.
-- Document 01, "The steps", rules 1 to 7. Assumes nothing.
use Rattle.std.proofs.Math.Path.{◌≡◌, refl, ap}
use Rattle.std.proofs.Common.{◌∙◌}
use Rattle.std.specs.Prelude.{Bool, ◌&&◌, List, ℕ, zero, suc, ◌+◌, ◌<◌, eqb, leb, get_or, Some, None, Ok, Err}
use Rattle.std.proofs.Math.Bool.{true, false}
use native.Mathlib.Omega.{arith}
use borrow.Author.Tests.{eqb-false, leb-false}
use Rattle.model.specs.declared.Outcome.TheVariants.{Tried}
use Rattle.model.specs.Fields.{sequential, goal_count}
use Rattle.model.specs.Image.{predicate_word}
use Rattle.model.specs.Memory.{used, frame, goal_index}
use Rattle.model.specs.Goals.{child_goal, FirstGoal}
use Rattle.model.specs.Terms.{Store, Unified, clash}
use Rattle.model.specs.Steps.{View, Stepped, predicate_of, live, has_child, another_there, free_from, lowest_free, dead_rule, arrival, failed, succeeded, taken, with_store, head_store, take_clause, live_rule, node_rule, step}
use Rattle.undoing.specs.Failing.{clause_taken}

-- the lowest free slot is free, where there is one
free-from : (nodes : List ℕ) (left slot : ℕ) → free_from left nodes slot < slot + left → used nodes (free_from left nodes slot) ≡ 1 → ⊥
unfolding free_from
free-from nodes zero slot l = λ u. omega arith
free-from nodes (suc left) slot l = go (eqb (used nodes slot) 1) refl l (free-from nodes left (slot + 1))
  where
    go : (b : Bool) → eqb (used nodes slot) 1 ≡ b → elim b [ true ↦ free_from left nodes (slot + 1) | false ↦ slot ] < slot + suc left
        → (free_from left nodes (slot + 1) < slot + 1 + left → used nodes (free_from left nodes (slot + 1)) ≡ 1 → ⊥)
        → used nodes (elim b [ true ↦ free_from left nodes (slot + 1) | false ↦ slot ]) ≡ 1 → ⊥
    go true q l rest = rest (omega arith)
    go false q l rest = eqb-false (used nodes slot) 1 q

pub lowest-free : (nodes : List ℕ) → lowest_free nodes < 64 → used nodes (lowest_free nodes) ≡ 1 → ⊥
lowest-free nodes l = free-from nodes 64 0 l

module _ (image query : List ℕ) (v : View) (worker : ℕ) where
  abbrev pub stands_at : ℕ
  stands_at = get_or v.workers worker 0

  abbrev pub head_tried : Store
  head_tried =
      head_store image query v.nodes v.array v.cells v.trail stands_at (lowest_free v.nodes) (predicate_of image query v.nodes stands_at) (clause_taken image query v.nodes stands_at)

  -- a clause was taken and its head failed
  pub record Failing : Type 0 where
    pub lively : live image query v.nodes stands_at ≡ true
    pub room : lowest_free v.nodes < 64
    pub count : ℕ
    pub fails : head_tried.unified ≡ Err (clash count)
    pub leaves : (step image query v worker).after ≡ failed image (with_store v head_tried) stands_at (lowest_free v.nodes) (clause_taken image query v.nodes stands_at) count

  -- rules 1 to 4
  dead-says : (child root another : Bool) → (dead_rule child root another v worker stands_at).outcome ≡ Tried → ⊥
  unfolding dead_rule
  dead-says false true another e = let z : ◌≡◌ {A = ℕ} 0 1 = cc in omega arith
  dead-says true root another e = let z : ◌≡◌ {A = ℕ} 0 1 = cc in omega arith
  dead-says false false true e = let z : ◌≡◌ {A = ℕ} 0 1 = cc in omega arith
  dead-says false false false e = let z : ◌≡◌ {A = ℕ} 0 1 = cc in omega arith

  arrival-says : (first : FirstGoal) → arrival first ≡ Tried → ⊥
  unfolding arrival
  arrival-says None e = let z : ◌≡◌ {A = ℕ} 0 1 = cc in omega arith
  arrival-says (Some (slot, index)) e = let z : ◌≡◌ {A = ℕ} 0 1 = cc in omega arith

  -- the end of rule 7
  taken-says : (unified : Unified) (w : View) (node child position : ℕ) → (taken unified image query w worker node child position).outcome ≡ Tried
      → (count : ℕ) × (unified ≡ Err (clash count)) × ((taken unified image query w worker node child position).after ≡ failed image w node child position count)
  unfolding taken succeeded
  taken-says (Err clash) w node child position e = (clash.0, refl, refl)
  taken-says (Ok count) w node child position e =
      absurd (arrival-says (child_goal image query w.nodes child (goal_count (get_or image position 0)) (frame w.nodes node) (goal_index w.nodes node)) e)

  -- rules 5 to 7
  live-says : (waits full : Bool) → (live_rule waits full image query v worker stands_at).outcome ≡ Tried
      → (full ≡ false) × ((count : ℕ) × (head_tried.unified ≡ Err (clash count))
      × ((live_rule waits full image query v worker stands_at).after ≡ failed image (with_store v head_tried) stands_at (lowest_free v.nodes) (clause_taken image query v.nodes stands_at) count))
  unfolding live_rule take_clause
  live-says true full e = let z : ◌≡◌ {A = ℕ} 0 1 = cc in absurd (omega arith)
  live-says false true e = let z : ◌≡◌ {A = ℕ} 0 1 = cc in absurd (omega arith)
  live-says false false e =
      (refl, taken-says head_tried.unified (with_store v head_tried) stands_at (lowest_free v.nodes) (clause_taken image query v.nodes stands_at) e)

  pub tried-failing : (step image query v worker).outcome ≡ Tried → Failing
  unfolding step node_rule
  tried-failing e = go (live image query v.nodes stands_at) refl e refl
    where
      go : (b : Bool) → live image query v.nodes stands_at ≡ b → (node_rule b image query v worker stands_at).outcome ≡ Tried
          → step image query v worker ≡ node_rule b image query v worker stands_at → Failing
      go false q e s = absurd (dead-says (has_child v.nodes stands_at) (eqb stands_at 0) (another_there v.workers worker stands_at) e)
      go true q e s =
          let rule = live-says (eqb (sequential (predicate_word image (predicate_of image query v.nodes stands_at))) 1 && has_child v.nodes stands_at) (leb 64 (lowest_free v.nodes)) e in
          record { lively = q; room = omega (arith, leb-false 64 (lowest_free v.nodes) rule.0); count = rule.1.0; fails = rule.1.1; leaves = ap (λ (t : Stepped). t.after) s ∙ rule.1.2 }
