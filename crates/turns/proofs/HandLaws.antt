-- What one turn of a run leaves of the first node words: all of them while clauses are passed over, else all but one slot's. So a table of children can follow. Assumes nothing.
use Rattle.std.proofs.Common.{◌≡◌, refl, sym, ap, subst, ◌∙◌, Bool, true, false, cond, List, [], ◌∷◌, ℕ, zero, suc, ◌+◌, ◌-◌, ◌*◌, ◌≤◌, ◌<◌, min, arith, get_or, set, get_or-set_other, Ok, Err}
use Rattle.model.specs.declared.Kind.TheVariants.{Node2, Goal}
use Rattle.model.specs.declared.Outcome.{Outcome}
use Rattle.model.specs.Terms.{Unified}
use Rattle.model.specs.Fields.{widths_of, clause_length, arity, clause_count, first_clause}
use Rattle.model.specs.Image.{predicate_word}
use Rattle.model.specs.Decoding.{clause_next, clause_from, clause_at}
use Rattle.model.specs.Memory.{base, own_variables, has_goal, frame, goal_index, tried, first_of, word_of, cleared}
use Rattle.model.specs.Goals.{clause_words}
use Rattle.model.specs.Steps.{View, Stepped, stepped, left_for, freed, dead_rule, raised, grown, failed, succeeded, taken, with_store, head_store, take_clause, goal_of, predicate_of}
use Rattle.passing.specs.Clash.{fails_plainly}
use Rattle.passing.specs.Passing.{Passing, passing, pass_over, blank, skipped}
use Rattle.words.proofs.FieldLaws.{field_lt}
use Rattle.recall.specs.Places.{GoalTold, ClauseTold}
use Rattle.recall.proofs.RecallLaws.{nothing-kept}
use Rattle.turns.specs.Hand.{AtHand, Begun}
use Rattle.children.specs.Children.{Agree, Counted, followed}
use Rattle.children.proofs.ChildLaws.{follow-counted}

-- word 0 of every slot is the same
abbrev pub Same : List ℕ → List ℕ → Type 0
Same old new = (slot : ℕ) → get_or old (4 * slot) 0 ≡ get_or new (4 * slot) 0

raised-same : (nodes : List ℕ) (node : ℕ) → Same nodes (raised nodes node)
unfolding raised
raised-same nodes node slot =
    sym (get_or-set_other nodes (4 * node + 2) (4 * slot) (word_of Node2 (has_goal nodes node ∷ frame nodes node ∷ goal_index nodes node ∷ (tried nodes node + 1) ∷ 0 ∷ [])) 0 (λ e. omega arith))

-- clauses passed over
module _ (count node : ℕ) (image words array cells : List ℕ) (slot child_base place : ℕ) where
  over-same : (most done : ℕ) (nodes : List ℕ) (position : ℕ) → Same nodes (pass_over count node image words array cells slot child_base place most done nodes position).nodes
  unfolding pass_over
  over-same zero done nodes position other = refl
  over-same (suc most) done nodes position other =
      go (fails_plainly count image words array cells slot child_base position place) (over-same most (done + 1) (raised nodes node) (position + clause_length (get_or image position 0)) other)
    where
      next : Passing
      next = pass_over count node image words array cells slot child_base place most (done + 1) (raised nodes node) (position + clause_length (get_or image position 0))

      turn : Bool → Passing
      turn fails = elim fails [ true ↦ next | false ↦ passing nodes done ]

      go : (fails : Bool) → get_or (raised nodes node) (4 * other) 0 ≡ get_or next.nodes (4 * other) 0 → get_or nodes (4 * other) 0 ≡ get_or (turn fails).nodes (4 * other) 0
      go true rest = raised-same nodes node other ∙ rest
      go false rest = refl

  over-most : (most done : ℕ) (nodes : List ℕ) (position : ℕ) → (pass_over count node image words array cells slot child_base place most done nodes position).count ≤ done + most
  unfolding pass_over
  over-most zero done nodes position = omega arith
  over-most (suc most) done nodes position =
      go (fails_plainly count image words array cells slot child_base position place) (over-most most (done + 1) (raised nodes node) (position + clause_length (get_or image position 0)))
    where
      next : Passing
      next = pass_over count node image words array cells slot child_base place most (done + 1) (raised nodes node) (position + clause_length (get_or image position 0))

      turn : Bool → Passing
      turn fails = elim fails [ true ↦ next | false ↦ passing nodes done ]

      go : (fails : Bool) → next.count ≤ done + 1 + most → (turn fails).count ≤ done + suc most
      go true rest = omega arith
      go false rest = omega arith

module _ (image query nodes cells trail array : List ℕ) (node child predicate place position most : ℕ) where
  abbrev Kept : Passing → Type 0
  Kept passed = Same nodes passed.nodes × (passed.count ≤ clause_count (predicate_word image predicate) - tried nodes node)

  skipped-keeps : Kept (skipped image query nodes cells trail array node child predicate place position most)
  unfolding skipped
  skipped-keeps =
      go (fails_plainly count image words array cells (frame nodes node) child_base position place) (blank (2 * count) trail (first_of child))
    where
      count : ℕ
      count = arity (predicate_word image predicate)

      words : List ℕ
      words = clause_words image query nodes (frame nodes node)

      child_base : ℕ
      child_base = base nodes node + own_variables nodes node

      least : ℕ
      least = min most (clause_count (predicate_word image predicate) - tried nodes node)

      over : Passing
      over = pass_over count node image words array cells (frame nodes node) child_base place least 0 nodes position

      go : (fails empty : Bool) → Kept (cond fails (cond empty over (passing nodes 0)) (passing nodes 0))
      go false empty = (λ slot. refl, omega arith)
      go true false = (λ slot. refl, omega arith)
      go true true = (
        over-same count node image words array cells (frame nodes node) child_base place least 0 nodes position,
        omega (arith, over-most count node image words array cells (frame nodes node) child_base place least 0 nodes position),
      )

  -- nothing in the first words changes, and no more clauses are passed over than there are
  pub skip-keeps : (after : List ℕ) (k : ℕ) → passing after k ≡ skipped image query nodes cells trail array node child predicate place position most
      → Same nodes after × (k ≤ clause_count (predicate_word image predicate) - tried nodes node)
  skip-keeps after k e = subst Kept (sym e) skipped-keeps

-- a child's four words
module _ (nodes : List ℕ) (child slot a b c d : ℕ) (other : slot ≡ child → ⊥) where
  four-other : get_or nodes (4 * slot) 0 ≡ get_or (set (set (set (set nodes (4 * child) a) (4 * child + 1) b) (4 * child + 2) c) (4 * child + 3) d) (4 * slot) 0
  four-other =
      sym (get_or-set_other (set (set (set nodes (4 * child) a) (4 * child + 1) b) (4 * child + 2) c) (4 * child + 3) (4 * slot) d 0 (λ e. omega arith)
      ∙ get_or-set_other (set (set nodes (4 * child) a) (4 * child + 1) b) (4 * child + 2) (4 * slot) c 0 (λ e. omega arith)
      ∙ get_or-set_other (set nodes (4 * child) a) (4 * child + 1) (4 * slot) b 0 (λ e. omega arith)
      ∙ get_or-set_other nodes (4 * child) (4 * slot) a 0 (λ e. other (omega arith)))

-- a clause is taken: only the child's word is another
module _ (image query : List ℕ) (worker node child position : ℕ) where
  taken-agrees : (unified : Unified) (v : View) → Agree child v.nodes (taken unified image query v worker node child position).after.nodes
  unfolding taken failed succeeded grown
  taken-agrees (Err clash) v slot other = raised-same v.nodes node slot
  taken-agrees (Ok count) v slot other = raised-same v.nodes node slot ∙ four-other (raised v.nodes node) child slot _ _ _ _ other

pub take-agrees : (image query : List ℕ) (v : View) (worker node child : ℕ) → Agree child v.nodes (take_clause image query v worker node child).after.nodes
unfolding take_clause
take-agrees image query v worker node child =
    let predicate = predicate_of image query v.nodes node in
    let position = clause_at image predicate (tried v.nodes node) in
    let s = head_store image query v.nodes v.array v.cells v.trail node child predicate position in
    taken-agrees image query worker node child position s.unified (with_store v s)

cleared-other : (count at : ℕ) (words : List ℕ) (i : ℕ) → ((k : ℕ) → k < count → i ≡ at + k → ⊥) → get_or words i 0 ≡ get_or (cleared count at words) i 0
unfolding cleared
cleared-other zero at words i other = refl
cleared-other (suc count) at words i other =
    sym (get_or-set_other words at i 0 0 (λ e. other 0 (omega arith) (omega arith))) ∙ cleared-other count (at + 1) (set words at 0) i (λ k h e. other (suc k) (omega arith) (omega arith))

-- a dead node: only its own word is another
pub dead-agrees : (child root another : Bool) (v : View) (worker node : ℕ) → Agree node v.nodes (dead_rule child root another v worker node).after.nodes
unfolding dead_rule left_for freed
dead-agrees false true another v worker node slot other = refl
dead-agrees true root another v worker node slot other = refl
dead-agrees false false true v worker node slot other = refl
dead-agrees false false false v worker node slot other = cleared-other 4 (4 * node) v.nodes (4 * slot) (λ k h e. other (omega arith))

-- so many clauses on from a clause
clause_from-add : (image : List ℕ) (clauses more at : ℕ) → clause_from image (clause_from image at clauses) more ≡ clause_from image at (clauses + more)
unfolding clause_from
clause_from-add image zero more at = ap (clause_from image at) (let e : more ≡ 0 + more = omega arith in e)
clause_from-add image (suc clauses) more at = clause_from-add image clauses more (clause_next image at) ∙ ap (clause_from image at) (let e : suc (clauses + more) ≡ suc clauses + more = omega arith in e)

pub clause_at-add : (image : List ℕ) (predicate clause more : ℕ) → clause_from image (clause_at image predicate clause) more ≡ clause_at image predicate (clause + more)
unfolding clause_at
clause_at-add image predicate clause more = clause_from-add image clause more (first_clause (predicate_word image predicate))

pub clause_at-on : (image : List ℕ) (predicate clause position word length : ℕ) → position ≡ clause_at image predicate clause → word ≡ get_or image position 0 → length ≡ clause_length word
    → position + length ≡ clause_at image predicate (clause + 1)
unfolding clause_from clause_next
clause_at-on image predicate clause position word length at is long =
    ap (λ (n : ℕ). position + n) (long ∙ ap clause_length is) ∙ ap (λ (q : ℕ). q + clause_length (get_or image q 0)) at ∙ clause_at-add image predicate clause 1

pub predicate_of-lt : (image query nodes : List ℕ) (node : ℕ) → predicate_of image query nodes node < 1024
unfolding widths_of
predicate_of-lt image query nodes node = field_lt (widths_of Goal) (get_or (clause_words image query nodes (frame nodes node)) (goal_of image query nodes node) 0) 1

-- what a step says of its node words is true of the words that it leaves
pub step-agrees : (slot : ℕ) (old : List ℕ) (outcome : Outcome) (after : View) (did : Stepped) → stepped outcome after ≡ did → Agree slot old did.after.nodes → Agree slot old after.nodes
step-agrees slot old outcome after did is agrees other ne = agrees other ne ∙ ap (λ (d : Stepped). get_or d.after.nodes (4 * other) 0) (sym is)

-- the table of children follows the one slot that a step changes
pub follows : (old new children next : List ℕ) (slot before : ℕ) → before ≡ get_or old (4 * slot) 0 → next ≡ followed children slot before (get_or new (4 * slot) 0)
    → Agree slot old new → Counted old children → Counted new next
follows old new children next slot before was is agrees counted =
    subst (Counted new) (sym (is ∙ ap (λ (word : ℕ). followed children slot word (get_or new (4 * slot) 0)) was)) (follow-counted old new children slot agrees counted)

-- tables that were begun are true
pub begun-at-hand : (image query nodes places clauses children : List ℕ) → Begun nodes places clauses children → AtHand image query nodes places clauses children
begun-at-hand image query nodes places clauses children begun =
    (nothing-kept (GoalTold image query) places begun.0, nothing-kept (ClauseTold image) clauses begun.1, begun.2)
