-- A step from the rule that its node takes. Document 01, "A step by worker w at node N, first rule that fits". Assumes nothing.
use Rattle.std.proofs.Common.{◌≡◌, ◌∙◌, sym, ap, subst, refl, Bool, true, false, cond, ◌&&◌, List, ℕ, ◌<◌, Option, Some, None, eqb, ltb, leb, get_or, arith, eq-eqb, lt-ltb, eqb-true, ltb-true}
use Rattle.model.specs.Fields.{sequential, clause_count}
use Rattle.model.specs.Memory.{has_goal, tried}
use Rattle.model.specs.Image.{predicate_word}
use Rattle.model.specs.Steps.{View, goal_of, predicate_of, live, has_child, another_there, lowest_free, dead_rule, live_rule, node_rule, step}
use Rattle.goals.specs.declared.Call.{Call}
use Rattle.goals.specs.Calls.{IsCall}
use Rattle.turns.specs.Live.{call_at, live_goal}

module _ (image query nodes : List ℕ) (node : ℕ) where
  pub live-untried : has_goal nodes node ≡ 1 → tried nodes node < clause_count (predicate_word image (predicate_of image query nodes node)) → live image query nodes node ≡ true
  unfolding live
  live-untried goal h = simp (eq-eqb (has_goal nodes node) 1 goal, lt-ltb (tried nodes node) (clause_count (predicate_word image (predicate_of image query nodes node))) h)

  -- a live node has a goal with clauses untried
  pub live-holds : live image query nodes node ≡ true → (has_goal nodes node ≡ 1) × (tried nodes node < clause_count (predicate_word image (predicate_of image query nodes node)))
  unfolding live
  live-holds e = go (eqb (has_goal nodes node) 1) refl e
    where
      left : Bool
      left = ltb (tried nodes node) (clause_count (predicate_word image (predicate_of image query nodes node)))

      go : (b : Bool) → eqb (has_goal nodes node) 1 ≡ b → cond b left false ≡ true → (has_goal nodes node ≡ 1) × (tried nodes node < clause_count (predicate_word image (predicate_of image query nodes node)))
      go true q r = (eqb-true (has_goal nodes node) 1 q, ltb-true (tried nodes node) (clause_count (predicate_word image (predicate_of image query nodes node))) r)
      go false q r = let z : ◌≡◌ {A = ℕ} 0 1 = cc in absurd (omega arith)

  pub live_goal-dead : live_goal image query nodes node ≡ None → live image query nodes node ≡ false
  unfolding live_goal
  live_goal-dead e = go (live image query nodes node) refl e
    where
      go : (b : Bool) → live image query nodes node ≡ b → cond {A = Option Call} b (Some (call_at image query nodes node)) None ≡ None → live image query nodes node ≡ false
      go true q r = cc
      go false q r = q

  pub live_goal-live : (call : Call) → live_goal image query nodes node ≡ Some call → (call.node ≡ node) × (live image query nodes call.node ≡ true) × IsCall image query nodes call
  unfolding live_goal
  live_goal-live call e = go (live image query nodes node) refl e
    where
      go : (b : Bool) → live image query nodes node ≡ b → cond {A = Option Call} b (Some (call_at image query nodes node)) None ≡ Some call
          → (call.node ≡ node) × (live image query nodes call.node ≡ true) × IsCall image query nodes call
      go true q r =
          let is : call_at image query nodes node ≡ call = cc in
          subst (λ (k : Call). (k.node ≡ node) × (live image query nodes k.node ≡ true) × IsCall image query nodes k) is (refl, q, (refl, refl))
      go false q r = let z : ◌≡◌ {A = ℕ} 0 1 = cc in absurd (omega arith)

module _ (image query : List ℕ) (v : View) (worker node : ℕ) (is : node ≡ get_or v.workers worker 0) where
  pub step-dead : live image query v.nodes node ≡ false
      → dead_rule (has_child v.nodes node) (eqb node 0) (another_there v.workers worker node) v worker node ≡ step image query v worker
  unfolding step node_rule
  step-dead dead =
      ap (λ (b : Bool). node_rule b image query v worker node) (sym dead) ∙ ap (λ (n : ℕ). node_rule (live image query v.nodes n) image query v worker n) is

  pub step-live : live image query v.nodes node ≡ true
      → live_rule (eqb (sequential (predicate_word image (predicate_of image query v.nodes node))) 1 && has_child v.nodes node) (leb 64 (lowest_free v.nodes)) image query v worker node
      ≡ step image query v worker
  unfolding step node_rule
  step-live alive =
      ap (λ (b : Bool). node_rule b image query v worker node) (sym alive) ∙ ap (λ (n : ℕ). node_rule (live image query v.nodes n) image query v worker n) is
