-- Each clause that is passed over is a step that says Tried and changes the tried count alone; so many of them are so many steps of a run. Document 01, rule 7. Assumes nothing.
use Rattle.std.proofs.Common.{◌≡◌, refl, sym, ap, ap₂, subst, ◌∙◌, Bool, true, false, cond, ◌&&◌, List, ℕ, zero, suc, ◌+◌, ◌*◌, ◌≤◌, ◌<◌, arith, add-zero, eqb, leb, length, get_or, eqb-true, Err}
use borrow.Author.Tests.{lt-leb}
use Rattle.model.specs.declared.Outcome.TheVariants.{Tried}
use Rattle.model.specs.Fields.{arity, sequential, clause_count, first_clause, variables, clause_length}
use Rattle.model.specs.Image.{predicate_word}
use Rattle.model.specs.Decoding.{clause_at}
use Rattle.model.specs.Memory.{base, own_variables, has_goal, frame, tried, first_of, cleared}
use Rattle.model.specs.Goals.{clause_words}
use Rattle.model.specs.Terms.{unify_head, clash}
use Rattle.model.specs.Steps.{view, stepped, goal_of, predicate_of, has_child, lowest_free, laid, raised, take_clause, step}
use Rattle.passing.specs.Clash.{clashes, fails_plainly}
use Rattle.passing.specs.Passing.{Passing, passing, pass_over}
use Rattle.passing.proofs.ClashLaws.{clash-undone}
use Rattle.extension.proofs.TakeLaws.{head-from, failure-from, take-failed}
use Rattle.memory.proofs.FieldBounds.{clause_count-lt}
use Rattle.goals.proofs.PlaceLaws.{clause_from-next}
use Rattle.turns.specs.Progress.{Tries}
use Rattle.turns.proofs.RuleLaws.{live_rule-take}
use Rattle.turns.proofs.StepLaws.{live-untried, step-live}
use Rattle.turns.proofs.RaiseLaws.{raised-own_variables, raised-base, raised-clause_words, raised-has_child, raised-lowest_free, raised-has_goal, raised-frame, raised-tried, raised-goal_of, raised-predicate_of}

-- the clause after one of a predicate's
clause_at-next : (image : List ℕ) (predicate clause : ℕ)
    → clause_at image predicate (clause + 1) ≡ clause_at image predicate clause + clause_length (get_or image (clause_at image predicate clause) 0)
unfolding clause_at
clause_at-next image predicate clause = clause_from-next image clause (first_clause (predicate_word image predicate))

-- a live node that takes clauses, and what is found of it
pub record Aim (image query nodes workers words : List ℕ) (worker node child slot child_base place count predicate : ℕ) : Type 0 where
  pub stands : node ≡ get_or workers worker 0
  pub goal : has_goal nodes node ≡ 1
  pub calls : predicate ≡ predicate_of image query nodes node
  pub goes : (eqb (sequential (predicate_word image predicate)) 1 && has_child nodes node) ≡ false
  pub free : child ≡ lowest_free nodes
  pub fits : child < 64
  pub placed : place ≡ goal_of image query nodes node
  pub frames : slot ≡ frame nodes node
  pub holds : words ≡ clause_words image query nodes slot
  pub based : child_base ≡ base nodes node + own_variables nodes node
  pub counts : count ≡ arity (predicate_word image predicate)

-- a clause that is sure to fail has no variables, and its head clashes
fails-clashes : (count : ℕ) (image words array cells : List ℕ) (slot child_base position place : ℕ) → fails_plainly count image words array cells slot child_base position place ≡ true
    → (0 ≡ variables (get_or image position 0)) × (clashes count image words array cells slot child_base (position + 1) (place + 1) ≡ true)
unfolding fails_plainly
fails-clashes count image words array cells slot child_base position place e = go (eqb (variables (get_or image position 0)) 0) refl e
  where
    clash : Bool
    clash = clashes count image words array cells slot child_base (position + 1) (place + 1)

    go : (b : Bool) → eqb (variables (get_or image position 0)) 0 ≡ b → cond b clash false ≡ true → (0 ≡ variables (get_or image position 0)) × (clash ≡ true)
    go true q r = (sym (eqb-true (variables (get_or image position 0)) 0 q), r)
    go false q r = let z : ◌≡◌ {A = ℕ} 0 1 = cc in absurd (omega arith)

module _ (image query workers words : List ℕ) (worker node child slot child_base place count predicate : ℕ) where
  abbrev pub Aims : List ℕ → Type 0
  Aims nodes = Aim image query nodes workers words worker node child slot child_base place count predicate

  -- a raised count leaves the aim
  aim-raised : (nodes : List ℕ) → Aims nodes → Aims (raised nodes node)
  aim-raised nodes aim = record {
    stands = aim.stands;
    goal = raised-has_goal nodes node aim.goal;
    calls = aim.calls ∙ sym (raised-predicate_of nodes node aim.goal image query);
    goes = ap (λ (b : Bool). eqb (sequential (predicate_word image predicate)) 1 && b) (raised-has_child nodes node) ∙ aim.goes;
    free = aim.free ∙ sym (raised-lowest_free nodes node);
    fits = aim.fits;
    placed = aim.placed ∙ sym (raised-goal_of nodes node aim.goal image query);
    frames = aim.frames ∙ sym (raised-frame nodes node aim.goal);
    holds = aim.holds ∙ sym (raised-clause_words nodes node image query slot);
    based = aim.based ∙ sym (ap₂ (λ (a b : ℕ). a + b) (raised-base nodes node node) (raised-own_variables nodes node node));
    counts = aim.counts;
  }

  -- taking a clause is the step
  pub take_step : (cells trail array nodes : List ℕ) → Aims nodes → tried nodes node < clause_count (predicate_word image predicate)
      → take_clause image query (view nodes cells trail array workers) worker node child ≡ step image query (view nodes cells trail array workers) worker
  take_step cells trail array nodes aim untried =
      let waits = ap (λ (p : ℕ). eqb (sequential (predicate_word image p)) 1 && has_child nodes node) (sym aim.calls) ∙ aim.goes in
      let alive = live-untried image query nodes node aim.goal (subst (λ (p : ℕ). tried nodes node < clause_count (predicate_word image p)) aim.calls untried) in
      let v = view nodes cells trail array workers in
      ap (take_clause image query v worker node) aim.free
      ∙ live_rule-take (eqb (sequential (predicate_word image (predicate_of image query nodes node))) 1 && has_child nodes node) (leb 64 (lowest_free nodes)) image query v worker node waits
      (lt-leb 64 (lowest_free nodes) (subst (λ (n : ℕ). n < 64) aim.free aim.fits))
      ∙ step-live image query v worker node aim.stands alive

  module _ (cells trail array : List ℕ) (room : first_of child + 2 * count ≤ length trail) (empty : (k : ℕ) → k < 2 * count → get_or trail (first_of child + k) 0 ≡ 0) where
    -- a clause that is sure to fail
    plain_step : (nodes : List ℕ) (position : ℕ) → Aims nodes → tried nodes node < clause_count (predicate_word image predicate) → position ≡ clause_at image predicate (tried nodes node)
        → fails_plainly count image words array cells slot child_base position place ≡ true
        → stepped Tried (view (raised nodes node) cells trail array workers) ≡ step image query (view nodes cells trail array workers) worker
    unfolding laid cleared
    plain_step nodes position aim untried at fails =
        let ground = fails-clashes count image words array cells slot child_base position place fails in
        let undo = clash-undone count image words child child_base slot (position + 1) (place + 1) array cells trail ground.1 room empty in
        let headed =
        sym undo.3 ∙ ap (λ (b : ℕ). unify_head count image words child b slot (position + 1) (place + 1) array cells trail 0) aim.based
        ∙ head-from image query nodes array cells trail node child predicate position slot place (base nodes node) (own_variables nodes node) count 0 words cells
        aim.frames aim.holds aim.placed refl refl ground.0 aim.counts refl in
        let failure =
        failure-from image nodes cells undo.2 undo.1 workers node child position undo.0 0 (raised nodes node) cells trail array ground.0 refl refl (sym undo.5) (sym undo.4) in
        let taken = take-failed image query nodes cells trail array workers worker node child predicate position aim.calls at nodes cells undo.2 undo.1 workers (Err (clash undo.0)) headed refl refl undo.0
        (view (raised nodes node) cells trail array workers) refl failure in
        taken ∙ take_step cells trail array nodes aim untried

    -- from node words, by at most so many steps that each say Tried, to those after passing over
    abbrev pub Reached : ℕ → ℕ → List ℕ → Passing → Type 0
    Reached most done nodes passed =
        (k : ℕ) × (after : List ℕ) × (passed ≡ passing after (done + k)) × (k ≤ most)
        × Tries k image query worker (view nodes cells trail array workers) (view after cells trail array workers)

    pub passes : (most done : ℕ) (nodes : List ℕ) (position : ℕ) → Aims nodes → tried nodes node + most ≤ clause_count (predicate_word image predicate) → position ≡ clause_at image predicate (tried nodes node)
        → Reached most done nodes (pass_over count node image words array cells slot child_base place most done nodes position)
    unfolding pass_over
    passes zero done nodes position aim untried at = (0, nodes, ap (passing nodes) (sym (add-zero done)), omega arith, refl)
    passes (suc most) done nodes position aim untried at =
        go (fails_plainly count image words array cells slot child_base position place) refl
        (passes most (done + 1) (raised nodes node) next (aim-raised nodes aim) (omega (arith, rises))
        (ap (λ (p : ℕ). p + clause_length (get_or image p 0)) at ∙ sym (ap (clause_at image predicate) rises ∙ clause_at-next image predicate (tried nodes node))))
      where
        next : ℕ
        next = position + clause_length (get_or image position 0)

        over : Passing
        over = pass_over count node image words array cells slot child_base place most (done + 1) (raised nodes node) next

        turn : Bool → Passing
        turn fails = elim fails [ true ↦ over | false ↦ passing nodes done ]

        rises : tried (raised nodes node) node ≡ tried nodes node + 1
        rises = raised-tried nodes node aim.goal (omega (arith, clause_count-lt (predicate_word image predicate)))

        go : (fails : Bool) → fails_plainly count image words array cells slot child_base position place ≡ fails → Reached most (done + 1) (raised nodes node) over
            → Reached (suc most) done nodes (turn (fails_plainly count image words array cells slot child_base position place))
        go false q rest = (0, nodes, ap turn q ∙ ap (passing nodes) (sym (add-zero done)), omega arith, refl)
        go true q rest = (
          suc rest.0,
          rest.1,
          ap turn q ∙ rest.2 ∙ ap (passing rest.1) (let e : done + 1 + rest.0 ≡ done + suc rest.0 = omega arith in e),
          omega (arith, rest.3),
          (view (raised nodes node) cells trail array workers, (plain_step nodes position aim (omega arith) at q, rest.4)),
        )
