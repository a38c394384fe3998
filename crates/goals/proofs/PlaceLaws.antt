-- One turn of each walk over goals and clauses, and of the climb; and how far a walk can come. Assumes nothing.
use Rattle.std.proofs.Common.{◌≡◌, refl, Bool, true, false, cond, List, Some, None, ℕ, zero, suc, ◌+◌, ◌-◌, ◌*◌, ◌≤◌, ◌<◌, arith, add-one, eqb, ltb, get_or, eq-eqb, ne_eqb}
use borrow.Author.Tests.{lt-ltb, le-ltb}
use Rattle.model.specs.Fields.{op, clause_length, first_clause, goal_predicate}
use Rattle.model.specs.Memory.{parent, clause_position, frame, goal_index}
use Rattle.model.specs.Image.{predicate_word}
use Rattle.model.specs.Decoding.{goal_next, goal_from, clause_next, clause_from, clause_at}
use Rattle.model.specs.Goals.{FirstGoal, clause_words, past_head, goal_place, goals_of, next_goal}
use Rattle.model.specs.Steps.{goal_of}
use Rattle.words.proofs.Ranges.{left-after, none-left}
use Rattle.memory.proofs.FieldBounds.{arity-lt, first_clause-lt, clause_length-lt, clause_position-lt, frame-lt, goal_index-lt}

pub past_head-end : (words : List ℕ) (at end : ℕ) → end ≤ at → at ≡ past_head (end - at) words at
unfolding past_head
past_head-end words at end h = rw (none-left at end h) refl

pub past_head-hit : (words : List ℕ) (at end : ℕ) → at < end → op (get_or words at 0) ≡ 9 → at ≡ past_head (end - at) words at
unfolding past_head
past_head-hit words at end h e = rw (left-after at end h, eq-eqb (op (get_or words at 0)) 9 e, past_head) refl

pub past_head-miss : (words : List ℕ) (at end : ℕ) → at < end → (op (get_or words at 0) ≡ 9 → ⊥) → past_head (end - (at + 1)) words (at + 1) ≡ past_head (end - at) words at
unfolding past_head
past_head-miss words at end h e = rw (left-after at end h, ne_eqb (op (get_or words at 0)) 9 e, past_head) refl

-- past at most so many words
pub past_head-le : (most : ℕ) (words : List ℕ) (at : ℕ) → past_head most words at ≤ at + most
unfolding past_head
past_head-le zero words at = omega arith
past_head-le (suc most) words at = go (eqb (op (get_or words at 0)) 9) (past_head-le most words (at + 1))
  where
    go : (b : Bool) → past_head most words (at + 1) ≤ at + 1 + most → elim b [ true ↦ at | false ↦ past_head most words (at + 1) ] ≤ at + suc most
    go true h = omega arith
    go false h = omega arith

pub goal_from-end : (image words : List ℕ) (i n at : ℕ) → n ≤ i → at ≡ goal_from image words at (n - i)
unfolding goal_from
goal_from-end image words i n at h = rw (none-left i n h) refl

pub goal_from-turn : (image words : List ℕ) (i n at : ℕ) → i < n → goal_from image words (goal_next image words at) (n - (i + 1)) ≡ goal_from image words at (n - i)
unfolding goal_from
goal_from-turn image words i n at h = rw (left-after i n h) refl

pub goal_next-le : (image words : List ℕ) (at : ℕ) → goal_next image words at ≤ at + 16
unfolding goal_next
goal_next-le image words at = omega (arith, arity-lt (get_or image (1 + goal_predicate (get_or words at 0)) 0))

pub clause_from-end : (image : List ℕ) (left at : ℕ) → left ≤ 0 → at ≡ clause_from image at left
unfolding clause_from
clause_from-end image zero at h = refl
clause_from-end image (suc left) at h = absurd (omega arith)

pub clause_from-turn : (image : List ℕ) (i n at : ℕ) → i < n → clause_from image (at + clause_length (get_or image at 0)) (n - (i + 1)) ≡ clause_from image at (n - i)
unfolding clause_from clause_next
clause_from-turn image i n at h = rw (left-after i n h) refl

pub clause_next-le : (image : List ℕ) (at : ℕ) → at + clause_length (get_or image at 0) ≤ at + 65535
clause_next-le image at = omega (arith, clause_length-lt (get_or image at 0))

-- a turn of the climb: a goal remains here, it may climb no further, this is the root, or it goes on at the parent's frame
module _ (image query nodes : List ℕ) (slot index : ℕ) where
  pub next_goal-here : (depth : ℕ) → index + 1 < goals_of image query nodes slot → Some (slot, index + 1) ≡ next_goal depth image query nodes slot index
  unfolding next_goal
  next_goal-here zero h = simp (lt-ltb (index + 1) (goals_of image query nodes slot) h)
  next_goal-here (suc depth) h = rw (lt-ltb (index + 1) (goals_of image query nodes slot) h, next_goal) refl

  pub next_goal-top : (depth : ℕ) → depth ≡ 0 → goals_of image query nodes slot ≤ index + 1 → None ≡ next_goal depth image query nodes slot index
  unfolding next_goal
  next_goal-top zero z h = simp (le-ltb (index + 1) (goals_of image query nodes slot) h)
  next_goal-top (suc depth) z h = absurd (omega arith)

  pub next_goal-root : (depth : ℕ) → goals_of image query nodes slot ≤ index + 1 → slot ≡ 0 → None ≡ next_goal depth image query nodes slot index
  unfolding next_goal
  next_goal-root zero h r = simp (le-ltb (index + 1) (goals_of image query nodes slot) h)
  next_goal-root (suc depth) h r = rw (le-ltb (index + 1) (goals_of image query nodes slot) h, eq-eqb slot 0 r, next_goal) refl

  pub next_goal-up : (depth : ℕ) → 0 < depth → goals_of image query nodes slot ≤ index + 1 → (slot ≡ 0 → ⊥)
      → next_goal (depth - 1) image query nodes (frame nodes (parent nodes slot)) (goal_index nodes (parent nodes slot)) ≡ next_goal depth image query nodes slot index
  unfolding next_goal
  next_goal-up zero z h n = absurd (omega arith)
  next_goal-up (suc depth) z h n = let e : suc depth - 1 ≡ depth = omega arith in rw (e, le-ltb (index + 1) (goals_of image query nodes slot) h, ne_eqb slot 0 n, next_goal) refl

clause_from-le : (image : List ℕ) (clauses at : ℕ) → clause_from image at clauses ≤ at + 65535 * clauses
unfolding clause_from clause_next
clause_from-le image zero at = omega arith
clause_from-le image (suc clauses) at = omega (arith, clause_from-le image clauses (at + clause_length (get_or image at 0)), clause_next-le image at)

-- a clause's place, and a goal's, by the fields that name it
pub clause_at-lt : (image : List ℕ) (predicate clause : ℕ) → clause < 1024 → clause_at image predicate clause < 134217728
unfolding clause_at
clause_at-lt image predicate clause h =
    omega (arith, clause_from-le image clause (first_clause (predicate_word image predicate)), first_clause-lt (predicate_word image predicate))

goal_from-le : (image words : List ℕ) (goals at : ℕ) → goal_from image words at goals ≤ at + 16 * goals
unfolding goal_from
goal_from-le image words zero at = omega arith
goal_from-le image words (suc goals) at = omega (arith, goal_from-le image words goals (goal_next image words at), goal_next-le image words at)

goal_place-le : (image words : List ℕ) (position index : ℕ) → goal_place image words position index ≤ position + 16 + 16 * index
unfolding goal_place
goal_place-le image words position index =
    omega (arith, goal_from-le image words index (past_head 15 words (position + 1)), past_head-le 15 words (position + 1))

pub goal_of-lt : (image query nodes : List ℕ) (node : ℕ) → goal_of image query nodes node < 1048576
goal_of-lt image query nodes node =
    let slot = frame nodes node in
    omega (arith, goal_place-le image (clause_words image query nodes slot) (clause_position nodes slot) (goal_index nodes node), clause_position-lt nodes slot, goal_index-lt nodes node)

-- the clause after the last of so many
pub clause_from-next : (image : List ℕ) (clauses at : ℕ) → clause_from image at (clauses + 1) ≡ clause_from image at clauses + clause_length (get_or image (clause_from image at clauses) 0)
unfolding clause_from clause_next
clause_from-next image zero at = refl
clause_from-next image (suc clauses) at = rw add-one (simp add-one at (clause_from-next image clauses (at + clause_length (get_or image at 0))))

-- a goal found by the climb has a slot and an index in their bounds
pub data Small : FirstGoal → Type 0 where
  none : Small None
  some : {slot index : ℕ} → slot < 4294967296 → index < 32 → Small (Some (slot, index))

pub next_goal-small : (depth : ℕ) (image query nodes : List ℕ) (slot index : ℕ) → slot < 4294967296 → index < 16 → Small (next_goal depth image query nodes slot index)
unfolding next_goal
next_goal-small zero image query nodes slot index s i = go (ltb (index + 1) (goals_of image query nodes slot))
  where
    j : index + 1 < 32
    j = omega arith

    go : (t : Bool) → Small (cond {A = FirstGoal} t (Some (slot, index + 1)) None)
    go true = some s j
    go false = none
next_goal-small (suc depth) image query nodes slot index s i =
    go (ltb (index + 1) (goals_of image query nodes slot)) (eqb slot 0) (next_goal-small depth image query nodes (frame nodes above) (goal_index nodes above) (omega (arith, frame-lt nodes above)) (goal_index-lt nodes above))
  where
    j : index + 1 < 32
    j = omega arith

    above : ℕ
    above = parent nodes slot

    go : (t u : Bool) → Small (next_goal depth image query nodes (frame nodes above) (goal_index nodes above))
        → Small (elim t [ true ↦ Some (slot, index + 1) | false ↦ elim u [ true ↦ None | false ↦ next_goal depth image query nodes (frame nodes above) (goal_index nodes above) ] ])
    go true u h = some s j
    go false true h = none
    go false false h = h
