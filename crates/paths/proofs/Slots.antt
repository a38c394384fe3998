-- What sound memory says of one slot: a free slot is blank; another used slot's parent is used, one less deep, and its variables' numbers end where the slot's begin.
-- Document 01, "Refused calls", condition 21. Assumes nothing.
use Rattle.std.specs.Prelude.{◌≡◌, cond, not, ◌&&◌, ◌||◌, List, ℕ, ◌+◌, ◌-◌, ◌*◌, ◌<◌, ltb}
use Rattle.std.proofs.Math.Path.{ap}
use Rattle.std.proofs.Common.{◌∙◌}
use Rattle.std.proofs.Math.Bool.{true}
use native.Mathlib.Omega.{arith}
use Rattle.std.proofs.Math.Dec.{eqb}
use Rattle.std.proofs.Math.ListN.{get_or}
use borrow.Author.Tests.{eqb-true, eq-eqb, ne_eqb, ltb-true}
use Rattle.model.specs.Fields.{variables, first_clause}
use Rattle.model.specs.Memory.{Memory, used, parent, depth, entries, own_variables, base, clause_position, has_goal, tried, cell_of, number_at, value_at, array_of}
use Rattle.model.specs.Damage.{each, zeros, zero_fields, free_zero, among_clauses, root_sound, called_word, linked, clause_of, rule_goal, goal_sound, base_sound, node_sound, owner_of, value_sound, cell_sound, not_among, not_above, vno_at, entry_sound, trail_sound, slot_linked, slot_sound, path_array, same_words, worker_sound, sound}
use Rattle.paths.proofs.Held.{and-held, three-held, four-held, or-second, cond-first, cond-second, all_held, zeros-held}
use Rattle.paths.specs.Slots.{Rises, Links}

module _ (image query : List ℕ) (m : Memory) (held : sound image query m ≡ true) where
  -- the root, the slots' links, the slots, the workers; the tests are written out, as no part of a joined test is found from the whole
  parts : (root_sound m.nodes ≡ true) × (each 64 (slot_linked image query m.nodes m.cells m.trail) 0 ≡ true)
      × (each 64 (slot_sound image query m.nodes m.cells m.trail) 0 ≡ true) × (each 4 (worker_sound m.nodes m.trail m.arrays m.workers) 0 ≡ true)
  unfolding sound
  parts =
      four-held (root_sound m.nodes) (each 64 (slot_linked image query m.nodes m.cells m.trail) 0)
      (each 64 (slot_sound image query m.nodes m.cells m.trail) 0) (each 4 (worker_sound m.nodes m.trail m.arrays m.workers) 0) held

  -- a worker stands at a used slot, with the array of its path
  pub worker-stands : (worker : ℕ) → worker < 4
      → (get_or m.workers worker 0 < 64) × (used m.nodes (get_or m.workers worker 0) ≡ 1)
      × (same_words 2048 (array_of m.arrays worker) (path_array m.nodes m.trail (get_or m.workers worker 0)) 0 ≡ true)
  unfolding worker_sound
  worker-stands worker h =
      let node = get_or m.workers worker 0 in
      let rule = three-held (ltb node 64) (eqb (used m.nodes node) 1) (same_words 2048 (array_of m.arrays worker) (path_array m.nodes m.trail node) 0)
      (all_held (worker_sound m.nodes m.trail m.arrays m.workers) 4 parts.3 worker h) in
      (ltb-true node 64 rule.0, eqb-true (used m.nodes node) 1 rule.1, rule.2)

  -- a slot's links, used or free
  links : (slot : ℕ) → slot < 64 → cond (eqb (used m.nodes slot) 1) (eqb slot 0 || linked image query m.nodes slot) (free_zero m.nodes m.cells m.trail slot) ≡ true
  unfolding slot_linked
  links slot h =
      (and-held (zero_fields m.nodes slot)
      (cond (eqb (used m.nodes slot) 1) (eqb slot 0 || linked image query m.nodes slot) (free_zero m.nodes m.cells m.trail slot))
      (all_held (slot_linked image query m.nodes m.cells m.trail) 64 parts.1 slot h)
      ).1

  -- "free slots zero"
  pub free-blank : (child : ℕ) → child < 64 → (used m.nodes child ≡ 1 → ⊥) → (k : ℕ) → k < 32
      → (get_or m.cells (32 * child + k) 0 ≡ 0) × (get_or m.trail (32 * child + k) 0 ≡ 0)
  unfolding free_zero
  free-blank child h free k l =
      let blank = cond-second (eqb (used m.nodes child) 1) (eqb child 0 || linked image query m.nodes child) (free_zero m.nodes m.cells m.trail child) (links child h)
      (ne_eqb (used m.nodes child) 1 free) in
      let three = three-held (zeros 4 m.nodes (4 * child)) (zeros 32 m.cells (cell_of child 0)) (zeros 32 m.trail (cell_of child 0)) blank in
      let e : 32 * child + k ≡ cell_of child 0 + k = omega arith in (
        ap (λ (i : ℕ). get_or m.cells i 0) e ∙ zeros-held 32 m.cells (cell_of child 0) three.1 k l,
        ap (λ (i : ℕ). get_or m.trail i 0) e ∙ zeros-held 32 m.trail (cell_of child 0) three.2 k l,
      )

  -- a used slot: its node words, its cells, its trail
  pub slot_held : (slot : ℕ) → slot < 64 → used m.nodes slot ≡ 1
      → (node_sound image query m.nodes slot ≡ true) × (each 32 (cell_sound m.nodes m.cells slot) 0 ≡ true) × (trail_sound m.nodes m.cells m.trail slot ≡ true)
  unfolding slot_sound
  slot_held slot h u =
      let node = node_sound image query m.nodes slot in
      let cells = each 32 (cell_sound m.nodes m.cells slot) 0 in
      let trail = trail_sound m.nodes m.cells m.trail slot in
      three-held node cells trail
      (cond-first (eqb (used m.nodes slot) 1) (node && cells && trail) true (all_held (slot_sound image query m.nodes m.cells m.trail) 64 parts.2 slot h)
      (eq-eqb (used m.nodes slot) 1 u))

  pub cell-held : (slot variable : ℕ) → slot < 64 → variable < 32 → used m.nodes slot ≡ 1 → cell_sound m.nodes m.cells slot variable ≡ true
  cell-held slot variable h l u = all_held (cell_sound m.nodes m.cells slot) 32 (slot_held slot h u).1 variable l

  -- an entry of a used slot: its number is below the slot's base, its value is sound
  pub entry-held : (slot : ℕ) → slot < 64 → used m.nodes slot ≡ 1 → (entry : ℕ) → entry < entries m.nodes slot
      → (get_or m.trail (number_at slot entry) 0 < base m.nodes slot)
      × (value_sound m.nodes slot (get_or m.trail (number_at slot entry) 0) (get_or m.trail (value_at slot entry) 0) ≡ true)
  unfolding trail_sound entry_sound
  entry-held slot h u entry l =
      let nodes = m.nodes in
      let trail = m.trail in
      let number = get_or m.trail (number_at slot entry) 0 in
      let whole = three-held (not (eqb slot 0) || eqb (entries nodes slot) 0) (each (entries nodes slot) (entry_sound nodes m.cells trail slot) 0)
      (zeros (32 - 2 * entries nodes slot) trail (number_at slot (entries nodes slot))) (slot_held slot h u).2 in
      let one = all_held (entry_sound nodes m.cells trail slot) (entries nodes slot) whole.1 entry l in
      let last = and-held
      (ltb number (base nodes slot) && not_among entry trail slot number 0 && not_above (depth nodes slot) nodes trail slot number
      && vno_at nodes m.cells (owner_of (depth nodes slot) nodes slot number) number)
      (value_sound nodes slot number (get_or trail (value_at slot entry) 0)) one in
      let rule = four-held (ltb number (base nodes slot)) (not_among entry trail slot number 0) (not_above (depth nodes slot) nodes trail slot number)
      (vno_at nodes m.cells (owner_of (depth nodes slot) nodes slot number) number) last.0 in
      (ltb-true number (base nodes slot) rule.0, last.1)

  based-parent : (slot : ℕ) → slot < 64 → used m.nodes slot ≡ 1 → (slot ≡ 0 → ⊥)
      → base m.nodes slot ≡ base m.nodes (parent m.nodes slot) + own_variables m.nodes (parent m.nodes slot)
  unfolding node_sound base_sound
  based-parent slot h u other =
      let over = base m.nodes (parent m.nodes slot) + own_variables m.nodes (parent m.nodes slot) in
      let rule = three-held (eqb (own_variables m.nodes slot) (variables (clause_of image query m.nodes slot))) (base_sound m.nodes slot)
      (goal_sound image query m.nodes slot (rule_goal image query m.nodes slot)) (slot_held slot h u).0 in
      eqb-true (base m.nodes slot) over (or-second (eqb slot 0) (eqb (base m.nodes slot) over) rule.1 (ne_eqb slot 0 other))

  pub linked-parent : (slot : ℕ) → slot < 64 → used m.nodes slot ≡ 1 → (slot ≡ 0 → ⊥) → linked image query m.nodes slot ≡ true
  linked-parent slot h u other =
      let either = cond-first (eqb (used m.nodes slot) 1) (eqb slot 0 || linked image query m.nodes slot) (free_zero m.nodes m.cells m.trail slot) (links slot h)
      (eq-eqb (used m.nodes slot) 1 u) in
      or-second (eqb slot 0) (linked image query m.nodes slot) either (ne_eqb slot 0 other)

  rises-held : (slot : ℕ) → slot < 64 → used m.nodes slot ≡ 1 → (slot ≡ 0 → ⊥) → Rises m.nodes slot
  unfolding linked
  rises-held slot h u other =
      let nodes = m.nodes in
      let up = parent m.nodes slot in
      let rule = four-held (eqb (used nodes up) 1) (eqb (depth nodes slot) (depth nodes up + 1)) (eqb (has_goal nodes up) 1)
      (among_clauses (tried nodes up) image (first_clause (called_word image query nodes up)) (clause_position nodes slot)) (linked-parent slot h u other) in
      record {
        taken = eqb-true (used nodes up) 1 rule.0;
        deeper = omega (arith, eqb-true (depth nodes slot) (depth nodes up + 1) rule.1);
        based = based-parent slot h u other;
      }

  -- "root used as above": its depth and its clause, which is the query
  root-held : (depth m.nodes 0 ≡ 0) × (clause_position m.nodes 0 ≡ 0)
  unfolding root_sound
  root-held =
      let nodes = m.nodes in
      let rest = and-held (eqb (used nodes 0) 1 && eqb (parent nodes 0) 0 && eqb (depth nodes 0) 0 && eqb (clause_position nodes 0) 0) (eqb (base nodes 0) 0) parts.0 in
      let rule = four-held (eqb (used nodes 0) 1) (eqb (parent nodes 0) 0) (eqb (depth nodes 0) 0) (eqb (clause_position nodes 0) 0) rest.0 in
      (eqb-true (depth nodes 0) 0 rule.2, eqb-true (clause_position nodes 0) 0 rule.3)

  pub links-held : Links m.nodes
  links-held = record { flat = root-held.0; rises = rises-held }

  pub root-clause : clause_position m.nodes 0 ≡ 0
  root-clause = root-held.1
