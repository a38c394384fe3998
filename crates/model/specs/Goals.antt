-- Where goals and clauses stand: document 01, "The steps", first paragraph, and "Frame and goal index name the node whose clause holds the first goal and its place there".
-- Assumes nothing.
use Rattle.std.specs.Prelude.{true, false, cond, List, ℕ, zero, suc, ◌+◌, eqb, ltb, get_or, Option, Some, None}
use Rattle.model.specs.Fields.{op, goal_count}
use Rattle.model.specs.Decoding.{goal_from}
use Rattle.model.specs.Memory.{parent, clause_position, frame, goal_index, depth}

-- where a node's first goal stands, if it has one: the slot whose clause holds it, and its index there
abbrev pub FirstGoal : Type 0
FirstGoal = Option (ℕ × ℕ)

-- the words that hold a slot's clause: the query's for the root, whose clause position is 0
abbrev pub clause_words : List ℕ → List ℕ → List ℕ → ℕ → List ℕ
clause_words image query nodes slot = cond (eqb (clause_position nodes slot) 0) query image

-- the first GOAL word from a place on, past at most so many head arguments
unfoldable pub past_head : ℕ → List ℕ → ℕ → ℕ
past_head zero words at = at
past_head (suc most) words at = elim (eqb (op (get_or words at 0)) 9) [ true ↦ at | false ↦ past_head most words (at + 1) ]

-- the place of a slot's goal by its index: "a clause is its CLAUSE word, its head arguments, then each GOAL word with its arguments"
unfoldable pub goal_place : List ℕ → List ℕ → ℕ → ℕ → ℕ
goal_place image words position index = goal_from image words (past_head 15 words (position + 1)) index

-- how many goals a slot's clause has
abbrev pub goals_of : List ℕ → List ℕ → List ℕ → ℕ → ℕ
goals_of image query nodes slot = goal_count (get_or (clause_words image query nodes slot) (clause_position nodes slot) 0)

-- "its goals are the clause's goals, then the parent's goals without the first. So the next goal is found by climbing from frame to parent frame":
-- the goal behind the one at an index of a slot's clause, depth falling; behind the query's last goal there is none, however far the climb came at once
unfoldable pub next_goal : ℕ → List ℕ → List ℕ → List ℕ → ℕ → ℕ → FirstGoal
next_goal zero image query nodes slot index =
    cond (ltb (index + 1) (goals_of image query nodes slot)) (Some (slot, index + 1)) None
next_goal (suc above) image query nodes slot index =
    elim (ltb (index + 1) (goals_of image query nodes slot)) [
      | true ↦ Some (slot, index + 1)
      | false ↦
          elim (eqb slot 0) [
            | true ↦ None
            | false ↦ next_goal above image query nodes (frame nodes (parent nodes slot)) (goal_index nodes (parent nodes slot))
          ]
    ]

-- the first goal of a child that a clause with so many goals makes, in a slot, of a node whose first goal stands at an index of a frame
unfoldable pub child_goal : List ℕ → List ℕ → List ℕ → ℕ → ℕ → ℕ → ℕ → FirstGoal
child_goal image query nodes child goals slot index =
    cond (eqb goals 0) (next_goal (depth nodes slot) image query nodes slot index) (Some (child, 0))
