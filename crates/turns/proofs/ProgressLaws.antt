-- What is found of a live node, and what one turn of a run then does there: clauses passed over, Wait or Full. Document 01, rules 5 to 7. Assumes nothing.
use Rattle.std.proofs.Common.{◌≡◌, refl, sym, ap, subst, ◌∙◌, Bool, true, false, cond, ◌&&◌, List, ℕ, ◌+◌, ◌-◌, ◌*◌, ◌≤◌, ◌<◌, min, arith, zero-add, eqb, leb, length, get_or, eqb-true, leb-true, le-leb}
use Rattle.model.specs.declared.Outcome.TheVariants.{Wait, Full}
use Rattle.model.specs.Fields.{arity, sequential, clause_count}
use Rattle.model.specs.Image.{predicate_word}
use Rattle.model.specs.Decoding.{clause_at}
use Rattle.model.specs.Memory.{base, own_variables, frame, tried, first_of}
use Rattle.model.specs.Goals.{clause_words}
use Rattle.model.specs.Damage.{zeros}
use Rattle.model.specs.Steps.{View, view, stepped, goal_of, predicate_of, has_child, live, lowest_free, step}
use Rattle.passing.specs.Clash.{fails_plainly}
use Rattle.passing.specs.Passing.{Passing, passing, pass_over, blank, skipped}
use Rattle.goals.proofs.PlaceLaws.{clause_at-lt, goal_of-lt}
use Rattle.memory.proofs.FieldBounds.{tried-lt}
use Rattle.memory.proofs.LoopLaws.{each_holds}
use Rattle.turns.specs.Progress.{Tries}
use Rattle.turns.proofs.RuleLaws.{live_rule-wait, live_rule-full}
use Rattle.turns.proofs.StepLaws.{live-holds, step-live}
use Rattle.turns.proofs.PassingLaws.{Aim, passes}

-- words that are blank stand in their list, and are 0
blank-empty : (count : ℕ) (words : List ℕ) (at : ℕ) → blank count words at ≡ true → (at + count ≤ length words) × ((k : ℕ) → k < count → get_or words (at + k) 0 ≡ 0)
unfolding blank zeros
blank-empty count words at e = go (leb (at + count) (length words)) refl e
  where
    go : (b : Bool) → leb (at + count) (length words) ≡ b → cond b (zeros count words at) false ≡ true → (at + count ≤ length words) × ((k : ℕ) → k < count → get_or words (at + k) 0 ≡ 0)
    go true q e = (leb-true (at + count) (length words) q, λ k h. eqb-true (get_or words (at + k) 0) 0 (each_holds (λ j. eqb (get_or words j 0) 0) count at e k h))
    go false q e = let z : ◌≡◌ {A = ℕ} 0 1 = cc in absurd (omega arith)

module _ (image query nodes cells trail array workers : List ℕ) (worker node child predicate place position most : ℕ)
    (aim : Aim image query nodes workers (clause_words image query nodes (frame nodes node)) worker node child (frame nodes node) (base nodes node + own_variables nodes node) place
    (arity (predicate_word image predicate)) predicate)
    (untried : tried nodes node ≤ clause_count (predicate_word image predicate)) (at : position ≡ clause_at image predicate (tried nodes node)) where
  abbrev Reach : Passing → Type 0
  Reach passed = (passed.count ≤ most) × Tries passed.count image query worker (view nodes cells trail array workers) (view passed.nodes cells trail array workers)

  skip-reaches : Reach (skipped image query nodes cells trail array node child predicate place position most)
  unfolding skipped
  skip-reaches = go (fails_plainly count image words array cells (frame nodes node) child_base position place) (blank (2 * count) trail (first_of child)) refl
    where
      count : ℕ
      count = arity (predicate_word image predicate)

      words : List ℕ
      words = clause_words image query nodes (frame nodes node)

      child_base : ℕ
      child_base = base nodes node + own_variables nodes node

      least : ℕ
      least = min most (clause_count (predicate_word image predicate) - tried nodes node)

      over : Passing
      over = pass_over count node image words array cells (frame nodes node) child_base place least 0 nodes position

      go : (fails empty : Bool) → blank (2 * count) trail (first_of child) ≡ empty → Reach (cond fails (cond empty over (passing nodes 0)) (passing nodes 0))
      go false empty q = (omega arith, refl)
      go true false q = (omega arith, refl)
      go true true q =
          let free = blank-empty (2 * count) trail (first_of child) q in
          let r = passes image query workers words worker node child (frame nodes node) child_base place count predicate cells trail array free.0 free.1 least 0 nodes position aim (omega arith) at in
          subst Reach (sym r.2) (
            omega (arith, r.3),
            subst (λ (k : ℕ). Tries k image query worker (view nodes cells trail array workers) (view r.1 cells trail array workers)) (sym (zero-add r.0)) r.4,
          )

  pub skip-tries : (after : List ℕ) (k : ℕ) → passing after k ≡ skipped image query nodes cells trail array node child predicate place position most
      → (k ≤ most) × Tries k image query worker (view nodes cells trail array workers) (view after cells trail array workers)
  skip-tries after k e = subst Reach (sym e) skip-reaches

  -- where none is passed over nothing has changed
  pub skip-none : (after : List ℕ) (k : ℕ) → k ≤ 0 → passing after k ≡ skipped image query nodes cells trail array node child predicate place position most → nodes ≡ after
  skip-none after k h e =
      let z : k ≡ 0 = omega arith in
      ap (λ (v : View). v.nodes)
      (subst (λ (n : ℕ). Tries n image query worker (view nodes cells trail array workers) (view after cells trail array workers)) z (skip-tries after k e).1)

-- what is found of a live node that takes clauses
module _ (image query nodes workers : List ℕ) (worker node child predicate place : ℕ) (stands : node ≡ get_or workers worker 0) (alive : live image query nodes node ≡ true)
    (calls : predicate ≡ predicate_of image query nodes node) (placed : place ≡ goal_of image query nodes node) where
  pub untried : tried nodes node < clause_count (predicate_word image predicate)
  untried = subst (λ (p : ℕ). tried nodes node < clause_count (predicate_word image p)) (sym calls) (live-holds image query nodes node alive).1

  pub place-lt : place < 1048576
  place-lt = omega (arith, placed, goal_of-lt image query nodes node)

  pub position-lt : (position : ℕ) → position ≡ clause_at image predicate (tried nodes node) → position < 134217728
  position-lt position at = omega (arith, at, clause_at-lt image predicate (tried nodes node) (tried-lt nodes node))

  pub aimed : (eqb (sequential (predicate_word image predicate)) 1 && has_child nodes node) ≡ false → child ≡ lowest_free nodes → child < 64
      → Aim image query nodes workers (clause_words image query nodes (frame nodes node)) worker node child (frame nodes node) (base nodes node + own_variables nodes node) place
      (arity (predicate_word image predicate)) predicate
  aimed goes free fits = record {
    stands = stands;
    goal = (live-holds image query nodes node alive).0;
    calls = calls;
    goes = goes;
    free = free;
    fits = fits;
    placed = placed;
    frames = refl;
    holds = refl;
    based = refl;
    counts = refl;
  }

  -- a live node that waits, or for whose child there is no slot
  module _ (cells trail array : List ℕ) where
    v : View
    v = view nodes cells trail array workers

    pub wait-step : (eqb (sequential (predicate_word image predicate)) 1 && has_child nodes node) ≡ true
        → stepped Wait (view nodes cells trail array workers) ≡ step image query (view nodes cells trail array workers) worker
    unfolding v
    wait-step waits =
        live_rule-wait (eqb (sequential (predicate_word image (predicate_of image query nodes node))) 1 && has_child nodes node) (leb 64 (lowest_free nodes)) image query v worker node
        (ap (λ (p : ℕ). eqb (sequential (predicate_word image p)) 1 && has_child nodes node) (sym calls) ∙ waits)
        ∙ step-live image query v worker node stands alive

    pub full-step : (eqb (sequential (predicate_word image predicate)) 1 && has_child nodes node) ≡ false → 64 ≤ lowest_free nodes
        → stepped Full (view nodes cells trail array workers) ≡ step image query (view nodes cells trail array workers) worker
    unfolding v
    full-step goes none =
        live_rule-full (eqb (sequential (predicate_word image (predicate_of image query nodes node))) 1 && has_child nodes node) (leb 64 (lowest_free nodes)) image query v worker node
        (ap (λ (p : ℕ). eqb (sequential (predicate_word image p)) 1 && has_child nodes node) (sym calls) ∙ goes) (le-leb 64 (lowest_free nodes) none)
        ∙ step-live image query v worker node stands alive
