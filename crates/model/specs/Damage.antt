-- Condition 21, clause by clause as its paragraph stands: document 01, "Refused calls". It is judged against the image and query of the call.
-- Where the page is silent: a REF is to a variable with a lower number than the variable that holds it; "on the path" is the path from the root to the slot that
-- holds the cell or entry, that slot included, and the cell named is one of that slot's variables; "different along a path" holds inside one slot too;
-- a worker's word of 64 or more is no slot. The lengths are right, image and query legal. Assumes nothing.
use Rattle.std.specs.Prelude.{Bool, true, false, cond, not, ◌&&◌, ◌||◌, List, ℕ, zero, suc, ◌+◌, ◌-◌, ◌*◌, ◌/◌, ◌%◌, eqb, ltb, leb, get_or, replicate, Some, None}
use Rattle.model.specs.declared.Kind.TheVariants.{Node0, Node1, Node2}
use Rattle.model.specs.Fields.{widths_of, field, clause_count, first_clause, variables, goal_count}
use Rattle.model.specs.Image.{predicate_word}
use Rattle.model.specs.Decoding.{clause_next}
use Rattle.model.specs.Memory.{Memory, node_word, used, parent, depth, entries, own_variables, base, clause_position, has_goal, frame, goal_index, tried, vno_word, tag, value, cell_of, number_at, value_at, array_of}
use Rattle.model.specs.Goals.{clause_words, child_goal, FirstGoal}
use Rattle.model.specs.Steps.{predicate_of}
use Rattle.model.specs.Moves.{installed, climbed}

-- a test of so many numbers from one on; it stops at the first that fails
unfoldable pub each : ℕ → (ℕ → Bool) → ℕ → Bool
each zero test k = true
each (suc left) test k = elim (test k) [ true ↦ each left test (k + 1) | false ↦ false ]

-- so many words from a place on are 0
unfoldable pub zeros : ℕ → List ℕ → ℕ → Bool
zeros count words at = each count (λ k. eqb (get_or words k 0) 0) at

-- "all zero fields 0"
unfoldable pub zero_fields : List ℕ → ℕ → Bool
zero_fields nodes slot =
    eqb (field (widths_of Node0) (node_word nodes slot 0) 5) 0 && eqb (field (widths_of Node1) (node_word nodes slot 1) 1) 0
    && eqb (field (widths_of Node2) (node_word nodes slot 2) 4) 0 && eqb (node_word nodes slot 3) 0

-- "free slots zero"
unfoldable pub free_zero : List ℕ → List ℕ → List ℕ → ℕ → Bool
free_zero nodes cells trail slot = zeros 4 nodes (4 * slot) && zeros 32 cells (cell_of slot 0) && zeros 32 trail (cell_of slot 0)

-- a position among so many clauses, from one on
unfoldable pub among_clauses : ℕ → List ℕ → ℕ → ℕ → Bool
among_clauses zero image at position = false
among_clauses (suc left) image at position = elim (eqb at position) [ true ↦ true | false ↦ among_clauses left image (clause_next image at) position ]

-- "root used as above": slot 0, parent 0, depth 0, clause position 0, base 0
unfoldable pub root_sound : List ℕ → Bool
root_sound nodes =
    eqb (used nodes 0) 1 && eqb (parent nodes 0) 0 && eqb (depth nodes 0) 0 && eqb (clause_position nodes 0) 0 && eqb (base nodes 0) 0

-- the predicate word of a node's first goal
abbrev pub called_word : List ℕ → List ℕ → List ℕ → ℕ → ℕ
called_word image query nodes node = predicate_word image (predicate_of image query nodes node)

-- "each other used slot has a used parent, depth one more, and a clause position among the tried clauses of the parent's first goal"
unfoldable pub linked : List ℕ → List ℕ → List ℕ → ℕ → Bool
linked image query nodes slot =
    eqb (used nodes (parent nodes slot)) 1 && eqb (depth nodes slot) (depth nodes (parent nodes slot) + 1) && eqb (has_goal nodes (parent nodes slot)) 1
    && among_clauses (tried nodes (parent nodes slot)) image (first_clause (called_word image query nodes (parent nodes slot))) (clause_position nodes slot)

-- a slot's CLAUSE word
abbrev pub clause_of : List ℕ → List ℕ → List ℕ → ℕ → ℕ
clause_of image query nodes slot = get_or (clause_words image query nodes slot) (clause_position nodes slot) 0

-- the first goal of a slot by the rules: the query's for the root, else its clause's, or the one behind the parent's
unfoldable pub rule_goal : List ℕ → List ℕ → List ℕ → ℕ → FirstGoal
rule_goal image query nodes slot =
    cond (eqb slot 0) (Some (0, 0))
    (child_goal image query nodes slot (goal_count (clause_of image query nodes slot)) (frame nodes (parent nodes slot)) (goal_index nodes (parent nodes slot)))

-- "has goal, frame and index follow the rules; tried is at most the clause count, 0 without a goal"
unfoldable pub without_goal : List ℕ → ℕ → Bool
without_goal nodes slot = eqb (has_goal nodes slot) 0 && eqb (frame nodes slot) 0 && eqb (goal_index nodes slot) 0 && eqb (tried nodes slot) 0

unfoldable pub with_goal : List ℕ → List ℕ → List ℕ → ℕ → ℕ → ℕ → Bool
with_goal image query nodes slot holder index =
    eqb (has_goal nodes slot) 1 && eqb (frame nodes slot) holder && eqb (goal_index nodes slot) index
    && leb (tried nodes slot) (clause_count (called_word image query nodes slot))

unfoldable pub goal_sound : List ℕ → List ℕ → List ℕ → ℕ → FirstGoal → Bool
goal_sound image query nodes slot None = without_goal nodes slot
goal_sound image query nodes slot (Some (holder, index)) = with_goal image query nodes slot holder index

-- "base is the parent's base plus the parent's variables"; the root's is judged above
unfoldable pub base_sound : List ℕ → ℕ → Bool
base_sound nodes slot = eqb slot 0 || eqb (base nodes slot) (base nodes (parent nodes slot) + own_variables nodes (parent nodes slot))

-- "variables, base .. follow the rules"
unfoldable pub node_sound : List ℕ → List ℕ → List ℕ → ℕ → Bool
node_sound image query nodes slot =
    eqb (own_variables nodes slot) (variables (clause_of image query nodes slot)) && base_sound nodes slot
    && goal_sound image query nodes slot (rule_goal image query nodes slot)

-- a slot on the path to a slot, climbing at most so often
unfoldable pub on_path : ℕ → List ℕ → ℕ → ℕ → Bool
on_path zero nodes slot other = eqb slot other
on_path (suc most) nodes slot other = elim (eqb slot other) [ true ↦ true | false ↦ on_path most nodes (parent nodes slot) other ]

-- the slot on the path to a slot that has the variable with a number
unfoldable pub owner_of : ℕ → List ℕ → ℕ → ℕ → ℕ
owner_of zero nodes slot number = slot
owner_of (suc most) nodes slot number = elim (leb (base nodes slot) number) [ true ↦ slot | false ↦ owner_of most nodes (parent nodes slot) number ]

-- an address is that of "a lower-numbered variable's cell on the path"
unfoldable pub ref_sound : List ℕ → ℕ → ℕ → ℕ → Bool
ref_sound nodes slot number address =
    ltb address 2048 && ltb (address % 32) (own_variables nodes (address / 32)) && ltb (base nodes (address / 32) + address % 32) number
    && on_path (depth nodes slot) nodes slot (address / 32)

-- "a CON below 2^28, or a REF to a lower-numbered variable's cell on the path"
unfoldable pub value_sound : List ℕ → ℕ → ℕ → ℕ → Bool
value_sound nodes slot number word =
    cond (eqb (tag word) 2) (ltb (value word) 268435456) (eqb (tag word) 1 && ref_sound nodes slot number (value word))

-- "a cell past the variables is 0, any other is its own VNO, a CON .., or a REF .."
unfoldable pub cell_sound : List ℕ → List ℕ → ℕ → ℕ → Bool
cell_sound nodes cells slot variable =
    cond (ltb variable (own_variables nodes slot))
    (eqb (get_or cells (cell_of slot variable) 0) (vno_word (base nodes slot + variable))
    || value_sound nodes slot (base nodes slot + variable) (get_or cells (cell_of slot variable) 0))
    (eqb (get_or cells (cell_of slot variable) 0) 0)

-- a number is none of a slot's first entries, so many from one on
unfoldable pub not_among : ℕ → List ℕ → ℕ → ℕ → ℕ → Bool
not_among count trail slot number entry = each count (λ k. not (eqb (get_or trail (number_at slot k) 0) number)) entry

-- a number is trailed at no slot above, climbing at most so often
unfoldable pub not_above : ℕ → List ℕ → List ℕ → ℕ → ℕ → Bool
not_above zero nodes trail slot number = true
not_above (suc most) nodes trail slot number =
    elim (not_among (entries nodes (parent nodes slot)) trail (parent nodes slot) number 0) [
      | true ↦ not_above most nodes trail (parent nodes slot) number
      | false ↦ false
    ]

-- a slot's cell for the variable with a number is its VNO
unfoldable pub vno_at : List ℕ → List ℕ → ℕ → ℕ → Bool
vno_at nodes cells owner number = eqb (get_or cells (cell_of owner (number - base nodes owner)) 0) (vno_word number)

-- "trail numbers are below base, different along a path, their cells VNO, their values such a CON or REF"
unfoldable pub entry_sound : List ℕ → List ℕ → List ℕ → ℕ → ℕ → Bool
entry_sound nodes cells trail slot entry =
    let number = get_or trail (number_at slot entry) 0 in
    ltb number (base nodes slot) && not_among entry trail slot number 0 && not_above (depth nodes slot) nodes trail slot number
    && vno_at nodes cells (owner_of (depth nodes slot) nodes slot number) number && value_sound nodes slot number (get_or trail (value_at slot entry) 0)

-- "words past them 0; at most 15 entries, none at the root"; four bits hold at most 15
unfoldable pub trail_sound : List ℕ → List ℕ → List ℕ → ℕ → Bool
trail_sound nodes cells trail slot =
    (not (eqb slot 0) || eqb (entries nodes slot) 0) && each (entries nodes slot) (entry_sound nodes cells trail slot) 0
    && zeros (32 - 2 * entries nodes slot) trail (number_at slot (entries nodes slot))

-- a used slot's links: judged for all slots before anything climbs
unfoldable pub slot_linked : List ℕ → List ℕ → List ℕ → List ℕ → List ℕ → ℕ → Bool
slot_linked image query nodes cells trail slot =
    zero_fields nodes slot && cond (eqb (used nodes slot) 1) (eqb slot 0 || linked image query nodes slot) (free_zero nodes cells trail slot)

-- a used slot's clause, cells and trail
unfoldable pub slot_sound : List ℕ → List ℕ → List ℕ → List ℕ → List ℕ → ℕ → Bool
slot_sound image query nodes cells trail slot =
    cond (eqb (used nodes slot) 1) (node_sound image query nodes slot && each 32 (cell_sound nodes cells slot) 0 && trail_sound nodes cells trail slot) true

-- the trail entries from a slot up to the root, put into an empty array: "read from the stored trails"
unfoldable pub path_array : List ℕ → List ℕ → ℕ → List ℕ
path_array nodes trail slot = (climbed installed (depth nodes slot) nodes trail 0 slot (replicate 2048 0) 0).array

-- two lists have the same words at so many places from one on
unfoldable pub same_words : ℕ → List ℕ → List ℕ → ℕ → Bool
same_words count these those at = each count (λ k. eqb (get_or these k 0) (get_or those k 0)) at

-- "each worker's slot used and its array as demand 3 says"
unfoldable pub worker_sound : List ℕ → List ℕ → List ℕ → List ℕ → ℕ → Bool
worker_sound nodes trail arrays workers worker =
    ltb (get_or workers worker 0) 64 && eqb (used nodes (get_or workers worker 0)) 1
    && same_words 2048 (array_of arrays worker) (path_array nodes trail (get_or workers worker 0)) 0

-- 21 is given exactly when this is false
unfoldable pub sound : List ℕ → List ℕ → Memory → Bool
sound image query m =
    root_sound m.nodes && each 64 (slot_linked image query m.nodes m.cells m.trail) 0
    && each 64 (slot_sound image query m.nodes m.cells m.trail) 0 && each 4 (worker_sound m.nodes m.trail m.arrays m.workers) 0
