-- Where a search finds a clause's goals in a legal image or query: behind the head arguments, none of which is a GOAL word, so that the first GOAL word met is
-- the first goal's. Document 01, "Rule image", "A clause is its CLAUSE word, its head arguments, then each GOAL word with its arguments". Assumes nothing.
use Rattle.std.specs.Prelude.{◌≡◌, refl, Bool, true, false, List, [], ◌∷◌, ℕ, zero, suc, ◌+◌, ◌≤◌, ◌<◌, length}
use Rattle.std.proofs.Common.{sym, ◌∙◌, arith, add-zero, eq-eqb, ne_eqb}
use Rattle.std.proofs.Math.Path.{ap, subst}
use Rattle.std.proofs.Math.Bool.{cond}
use Rattle.std.proofs.Math.Option.{some}
use Rattle.std.proofs.Math.ListN.{get_or, get_elem?}
use Rattle.model.specs.Fields.{widths_of, total, below, field, join, op, arity, goal_count, variable_number, constant, goal_predicate}
use Rattle.model.specs.Image.{predicate_word}
use Rattle.model.specs.Rules.{Argument, con, var, Goal, call, Clause}
use Rattle.model.specs.Encoding.{encode_arg, encode_goal, goal_args}
use Rattle.model.specs.Decoding.{decode_arg, goal_from, goal_at, decode}
use Rattle.model.specs.Goals.{past_head, goal_place}
use Rattle.meaning.specs.Reading.{ArgBelow}
use Rattle.meaning.proofs.Goals.{goal-fields}
use Rattle.meaning.proofs.Headers.{declares-decoded}
use Rattle.meaning.specs.ClausePlaces.{ArgPlace, GoalPlace, ClausePlace}

-- an element of a list by its index
at-index : {A : Type 0} (all : List A) (k : ℕ) → k < length all → (one : A) × (get_elem? all k ≡ some one)
at-index [] k h = absurd (omega arith)
at-index (one ∷ all) zero h = (one, refl)
at-index (one ∷ all) (suc k) h = at-index all k (omega arith)

-- a constant's word has op 2
constant-no-goal : (word : ℕ) → op word ≡ 9 → word ≡ encode_arg (con (constant word)) → ⊥
unfolding encode_arg widths_of field below total join
constant-no-goal word e w = omega (arith, e, w)

module _ {words : List ℕ} {count place : ℕ} {arg : Argument} (p : ArgPlace words count place arg) where
  -- a VAR word's number is below the count
  pub argument-below : op (get_or words place 0) ≡ 1 → variable_number (get_or words place 0) < count
  unfolding decode_arg
  argument-below e =
      let word = get_or words place 0 in
      let named : decode_arg word ≡ var (variable_number word) =
      ap (λ (t : Bool). cond t (var (variable_number word)) (con (constant word))) (eq-eqb (op word) 1 e) in
      subst (ArgBelow count) (sym p.decoded ∙ named) p.below

  -- no argument is a GOAL word: one whose op is not 1 decodes to a constant
  argument-no-goal : op (get_or words place 0) ≡ 9 → ⊥
  unfolding decode_arg
  argument-no-goal e =
      let word = get_or words place 0 in
      let plain : decode_arg word ≡ con (constant word) =
      ap (λ (t : Bool). cond t (var (variable_number word)) (con (constant word))) (ne_eqb (op word) 1 (λ one. omega (arith, e, one))) in
      constant-no-goal word e (p.word ∙ ap encode_arg (sym p.decoded ∙ plain))

-- the first GOAL word from a place on, behind so many words that are none
past-head : (most count : ℕ) (words : List ℕ) (at : ℕ) → count ≤ most → ((k : ℕ) → k < count → op (get_or words (at + k) 0) ≡ 9 → ⊥) → op (get_or words (at + count) 0) ≡ 9
    → past_head most words at ≡ at + count
unfolding past_head
past-head zero count words at l none goal = omega arith
past-head (suc most) zero words at l none goal =
    let here : op (get_or words at 0) ≡ 9 = subst (λ (i : ℕ). op (get_or words i 0) ≡ 9) (add-zero at) goal in
    ap (λ (t : Bool). elim t [ true ↦ at | false ↦ past_head most words (at + 1) ]) (eq-eqb (op (get_or words at 0)) 9 here) ∙ sym (add-zero at)
past-head (suc most) (suc count) words at l none goal =
    let first : op (get_or words at 0) ≡ 9 → ⊥ = subst (λ (i : ℕ). op (get_or words i 0) ≡ 9 → ⊥) (add-zero at) (none 0 (omega arith)) in
    let shift : (k : ℕ) → at + suc k ≡ at + 1 + k = λ k. omega arith in
    let rest = past-head most count words (at + 1) (omega arith)
    (λ k h. subst (λ (i : ℕ). op (get_or words i 0) ≡ 9 → ⊥) (shift k) (none (suc k) (omega arith))) (subst (λ (i : ℕ). op (get_or words i 0) ≡ 9) (shift count) goal) in
    ap (λ (t : Bool). elim t [ true ↦ at | false ↦ past_head most words (at + 1) ]) (ne_eqb (op (get_or words at 0)) 9 first) ∙ rest ∙ sym (shift count)

module _ {image words : List ℕ} where
  goal-op : {count place : ℕ} (goal : Goal) → GoalPlace image words (decode image) count place goal → op (get_or words place 0) ≡ 9
  unfolding encode_goal
  goal-op (call predicate args) g =
      ap (λ (word : ℕ). op word) g.stands.1 ∙ (goal-fields predicate (omega (arith, g.good.0, (declares-decoded image).few))).is_op

  -- the arguments of a goal, by their index
  pub goal-below : {count place : ℕ} {goal : Goal} → GoalPlace image words (decode image) count place goal
      → (k : ℕ) → k < arity (predicate_word image (goal_predicate (get_or words place 0))) → op (get_or words (place + 1 + k) 0) ≡ 1
      → variable_number (get_or words (place + 1 + k) 0) < count
  goal-below {goal = goal} g k h =
      let a = at-index (goal_args goal) k (omega (arith, h, g.arity)) in
      argument-below (g.args k a.0 a.1)

  module _ {head_arity position : ℕ} {clause : Clause} (c : ClausePlace image words (decode image) head_arity position clause) where
    -- the arguments of a clause's head, by their index
    pub head-below : (k : ℕ) → k < head_arity → op (get_or words (position + 1 + k) 0) ≡ 1 → variable_number (get_or words (position + 1 + k) 0) < clause.variables
    head-below k h =
        let a = at-index clause.head k (omega (arith, h, c.good.heads)) in
        argument-below (c.heads k a.0 a.1)

    -- the search's place of a goal is the goal's
    pub goal-found : head_arity ≤ 15 → (index : ℕ) → index < goal_count (get_or words position 0)
        → (goal : Goal) × GoalPlace image words (decode image) clause.variables (goal_place image words position index) goal
    unfolding goal_place goal_at goal_from
    goal-found narrow index h =
        let first = at-index clause.goals 0 (omega (arith, h, c.fields.is_count)) in
        let this = at-index clause.goals index (omega (arith, h, c.fields.is_count)) in
        let past : past_head 15 words (position + 1) ≡ position + 1 + head_arity =
        past-head 15 head_arity words (position + 1) narrow
        (λ k l. let a = at-index clause.head k (omega (arith, l, c.good.heads)) in argument-no-goal (c.heads k a.0 a.1))
        (goal-op first.0 (c.goals 0 first.0 first.1)) in (
          this.0,
          subst (λ (at : ℕ). GoalPlace image words (decode image) clause.variables (goal_from image words at index) this.0) (sym past) (c.goals index this.0 this.1),
        )
