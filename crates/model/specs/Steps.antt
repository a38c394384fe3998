-- A step of a worker and a run of steps, on words: document 01, "The steps", from "A node is live" on. A clause for each rule, in the page's order.
-- Refusals stand in `Calls`. Assumes nothing.
use Rattle.std.specs.Prelude.{Bool, true, false, cond, not, ◌&&◌, List, [], ◌∷◌, ℕ, zero, suc, ◌+◌, ◌*◌, eqb, ltb, leb, get_or, set, Some, None, Ok, Err}
use Rattle.model.specs.declared.Kind.TheVariants.{Node0, Node1, Node2}
use Rattle.model.specs.declared.Outcome.{Outcome}
use Rattle.model.specs.declared.Outcome.TheVariants.{Tried, Extended, Answer, Back, Left, Wait, Finished, Spent, Full}
use Rattle.model.specs.Fields.{goal_predicate, arity, sequential, clause_count, variables, goal_count}
use Rattle.model.specs.Image.{predicate_word}
use Rattle.model.specs.Decoding.{clause_at}
use Rattle.model.specs.Memory.{Memory, memory, used, parent, depth, entries, own_variables, base, clause_position, has_goal, frame, goal_index, tried, word_of, vno_word, first_of, array_of, with_array, cleared}
use Rattle.model.specs.Goals.{clause_words, goal_place, child_goal, FirstGoal}
use Rattle.model.specs.Terms.{Store, unify_head, Unified}

-- the memory as a worker has it: "its own array" in the place of all arrays
pub record View : Type 0 where
  pub nodes : List ℕ
  pub cells : List ℕ
  pub trail : List ℕ
  pub array : List ℕ
  pub workers : List ℕ

abbrev pub view : List ℕ → List ℕ → List ℕ → List ℕ → List ℕ → View
view nodes cells trail array workers = record { nodes = nodes; cells = cells; trail = trail; array = array; workers = workers }

abbrev pub view_of : Memory → ℕ → View
view_of m worker = view m.nodes m.cells m.trail (array_of m.arrays worker) m.workers

abbrev pub with_view : Memory → ℕ → View → Memory
with_view m worker v = memory v.nodes v.cells v.trail (with_array m.arrays worker v.array) v.workers

-- what a step did, and the view after it
pub record Stepped : Type 0 where
  pub outcome : Outcome
  pub after : View

abbrev pub stepped : Outcome → View → Stepped
stepped outcome after = record { outcome = outcome; after = after }

-- the place of a node's first goal, and the predicate that it calls
abbrev pub goal_of : List ℕ → List ℕ → List ℕ → ℕ → ℕ
goal_of image query nodes node =
    goal_place image (clause_words image query nodes (frame nodes node)) (clause_position nodes (frame nodes node)) (goal_index nodes node)

abbrev pub predicate_of : List ℕ → List ℕ → List ℕ → ℕ → ℕ
predicate_of image query nodes node = goal_predicate (get_or (clause_words image query nodes (frame nodes node)) (goal_of image query nodes node) 0)

-- "a node is live if it has a first goal with clauses untried"
unfoldable pub live : List ℕ → List ℕ → List ℕ → ℕ → Bool
live image query nodes node =
    cond (eqb (has_goal nodes node) 1) (ltb (tried nodes node) (clause_count (predicate_word image (predicate_of image query nodes node)))) false

-- a used slot from a number on, among so many, whose parent is the node; the root is nobody's child
unfoldable pub child_from : ℕ → List ℕ → ℕ → ℕ → Bool
child_from zero nodes node slot = false
child_from (suc left) nodes node slot =
    elim (eqb (used nodes slot) 1 && eqb (parent nodes slot) node) [ true ↦ true | false ↦ child_from left nodes node (slot + 1) ]

abbrev pub has_child : List ℕ → ℕ → Bool
has_child nodes node = child_from 63 nodes node 1

-- another worker from a number on, among so many, at the node
unfoldable pub another_from : ℕ → List ℕ → ℕ → ℕ → ℕ → Bool
another_from zero workers worker node other = false
another_from (suc left) workers worker node other =
    elim (not (eqb other worker) && eqb (get_or workers other 0) node) [ true ↦ true | false ↦ another_from left workers worker node (other + 1) ]

abbrev pub another_there : List ℕ → ℕ → ℕ → Bool
another_there workers worker node = another_from 4 workers worker node 0

-- the lowest free slot, 64 where all are used
unfoldable pub free_from : ℕ → List ℕ → ℕ → ℕ
free_from zero nodes slot = slot
free_from (suc left) nodes slot = elim (eqb (used nodes slot) 1) [ true ↦ free_from left nodes (slot + 1) | false ↦ slot ]

abbrev pub lowest_free : List ℕ → ℕ
lowest_free nodes = free_from 64 nodes 0

-- so many trail entries, from a trail word on, taken out of an array
unfoldable pub undone : ℕ → List ℕ → ℕ → List ℕ → List ℕ
undone zero trail at array = array
undone (suc count) trail at array = undone count trail (at + 2) (set array (get_or trail at 0) 0)

-- "going to the parent takes N's trailed words out of w's array"
unfoldable pub left_for : View → ℕ → ℕ → View
left_for v worker node =
    view v.nodes v.cells v.trail (undone (entries v.nodes node) v.trail (first_of node) v.array)
    (set v.workers worker (parent v.nodes node))

-- "free slots are zero throughout"
unfoldable pub freed : View → ℕ → View
freed v slot =
    view (cleared 4 (4 * slot) v.nodes) (cleared 32 (first_of slot) v.cells) (cleared 32 (first_of slot) v.trail) v.array v.workers

-- Rules 1 to 4, N dead. Has N a child; is it the root; is another worker there.
unfoldable pub dead_rule : Bool → Bool → Bool → View → ℕ → ℕ → Stepped
dead_rule false true another v worker node = stepped Finished v
dead_rule true root another v worker node = stepped Wait v
dead_rule false false true v worker node = stepped Left (left_for v worker node)
dead_rule false false false v worker node = stepped Back (freed (left_for v worker node) node)

-- "N's tried count rises"
unfoldable pub raised : List ℕ → ℕ → List ℕ
raised nodes node = set nodes (4 * node + 2) (word_of Node2 (has_goal nodes node ∷ frame nodes node ∷ goal_index nodes node ∷ (tried nodes node + 1) ∷ 0 ∷ []))

-- "a node made by a clause numbers that clause's variables from its base on": its cells, each its own VNO
unfoldable pub laid : ℕ → ℕ → ℕ → List ℕ → List ℕ
laid zero at number cells = cells
laid (suc count) at number cells = laid count (at + 1) (number + 1) (set cells at (vno_word number))

-- node word 2 of a new node: "both are 0 without a goal"
unfoldable pub goal_fields : FirstGoal → ℕ
goal_fields None = word_of Node2 (0 ∷ 0 ∷ 0 ∷ 0 ∷ 0 ∷ [])
goal_fields (Some (slot, index)) = word_of Node2 (1 ∷ slot ∷ index ∷ 0 ∷ 0 ∷ [])

-- "Answer if it has no goal, else Extended"
unfoldable pub arrival : FirstGoal → Outcome
arrival None = Answer
arrival (Some (slot, index)) = Extended

-- a child's four node words
unfoldable pub grown : List ℕ → ℕ → ℕ → ℕ → ℕ → ℕ → FirstGoal → List ℕ
grown nodes node child count own position first =
    set
    (set
    (set (set nodes (4 * child) (word_of Node0 (1 ∷ node ∷ (depth nodes node + 1) ∷ count ∷ own ∷ 0 ∷ [])))
    (4 * child + 1) (word_of Node1 ((base nodes node + own_variables nodes node) ∷ 0 ∷ position ∷ [])))
    (4 * child + 2) (goal_fields first))
    (4 * child + 3) 0

-- "Failure: Tried; only that count has changed": what was bound and laid is taken out again
unfoldable pub failed : List ℕ → View → ℕ → ℕ → ℕ → ℕ → View
failed image v node child position count =
    view (raised v.nodes node) (cleared (variables (get_or image position 0)) (first_of child) v.cells) (cleared (2 * count) (first_of child) v.trail)
    (undone count v.trail (first_of child) v.array) v.workers

-- "Success: a child in the lowest free slot, w goes there; Answer if it has no goal, else Extended"
unfoldable pub succeeded : List ℕ → View → ℕ → ℕ → ℕ → ℕ → ℕ → FirstGoal → Stepped
succeeded image v worker node child position count first =
    stepped (arrival first)
    (view (grown (raised v.nodes node) node child count (variables (get_or image position 0)) position first) v.cells v.trail v.array (set v.workers worker child))

-- the end of rule 7, by how the head was unified
unfoldable pub taken : Unified → List ℕ → List ℕ → View → ℕ → ℕ → ℕ → ℕ → Stepped
taken (Err clash) image query v worker node child position = stepped Tried (failed image v node child position clash.0)
taken (Ok count) image query v worker node child position =
    succeeded image v worker node child position count
    (child_goal image query v.nodes child (goal_count (get_or image position 0)) (frame v.nodes node) (goal_index v.nodes node))

-- the view with what unifying changed
abbrev pub with_store : View → Store → View
with_store v s = view v.nodes s.cells s.trail s.array v.workers

-- Rule 7, the head: its arguments are unified with the first goal's, over the child's cells
unfoldable pub head_store : List ℕ → List ℕ → List ℕ → List ℕ → List ℕ → List ℕ → ℕ → ℕ → ℕ → ℕ → Store
head_store image query nodes array cells trail node child predicate position =
    unify_head (arity (predicate_word image predicate)) image (clause_words image query nodes (frame nodes node)) child (base nodes node + own_variables nodes node)
    (frame nodes node) (position + 1) (goal_of image query nodes node + 1) array
    (laid (variables (get_or image position 0)) (first_of child) (base nodes node + own_variables nodes node) cells) trail 0

-- Rule 7. "The next clause is taken"
unfoldable pub take_clause : List ℕ → List ℕ → View → ℕ → ℕ → ℕ → Stepped
take_clause image query v worker node child =
    let predicate = predicate_of image query v.nodes node in
    let position = clause_at image predicate (tried v.nodes node) in
    let s = head_store image query v.nodes v.array v.cells v.trail node child predicate position in
    taken s.unified image query (with_store v s) worker node child position

-- Rules 5 to 7, N live. Is N's predicate sequential and has N a child; are all slots used.
unfoldable pub live_rule : Bool → Bool → List ℕ → List ℕ → View → ℕ → ℕ → Stepped
live_rule true full image query v worker node = stepped Wait v
live_rule false true image query v worker node = stepped Full v
live_rule false false image query v worker node = take_clause image query v worker node (lowest_free v.nodes)

unfoldable pub node_rule : Bool → List ℕ → List ℕ → View → ℕ → ℕ → Stepped
node_rule false image query v worker node = dead_rule (has_child v.nodes node) (eqb node 0) (another_there v.workers worker node) v worker node
node_rule true image query v worker node =
    live_rule (eqb (sequential (predicate_word image (predicate_of image query v.nodes node))) 1 && has_child v.nodes node) (leb 64 (lowest_free v.nodes)) image query v worker node

-- a step by a worker at the node where it stands
unfoldable pub step : List ℕ → List ℕ → View → ℕ → Stepped
step image query v worker = node_rule (live image query v.nodes (get_or v.workers worker 0)) image query v worker (get_or v.workers worker 0)

-- what a run did, how many steps it counts, and the view after it
pub record Ran : Type 0 where
  pub outcome : Outcome
  pub count : ℕ
  pub after : View

abbrev pub ran : Outcome → ℕ → View → Ran
ran outcome count after = record { outcome = outcome; count = count; after = after }

-- "until Answer, Wait or Finished (counted), Full (not counted, steps before it stand)"; no step says Spent
abbrev pub go_on : (View → Ran) → ℕ → Outcome → View → Ran
go_on more count Tried v = more v
go_on more count Extended v = more v
go_on more count Answer v = ran Answer (count + 1) v
go_on more count Back v = more v
go_on more count Left v = more v
go_on more count Wait v = ran Wait (count + 1) v
go_on more count Finished v = ran Finished (count + 1) v
go_on more count Spent v = ran Spent (count + 1) v
go_on more count Full v = ran Full count v

-- so many steps left of the budget, so many taken: "or until its budget is used: Spent"
unfoldable pub run_from : ℕ → ℕ → List ℕ → List ℕ → ℕ → View → Ran
run_from zero count image query worker v = ran Spent count v
run_from (suc left) count image query worker v =
    let d = step image query v worker in
    go_on (run_from left (count + 1) image query worker) count d.outcome d.after

unfoldable pub run : List ℕ → List ℕ → View → ℕ → ℕ → Ran
run image query v worker budget = run_from budget 0 image query worker v
