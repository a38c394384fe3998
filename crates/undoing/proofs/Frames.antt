-- The frame of a used slot is on the path to it: its first goal stands in its own clause or in that of a slot above, and without a goal the frame is 0, the root.
-- Document 01, "The steps", "the next goal is found by climbing from frame to parent frame", and "Refused calls", condition 21. Assumes nothing.
use Rattle.std.specs.Prelude.{◌≡◌, ◌⊎◌, Bool, cond, List, ltb, leb, Some, None}
use Rattle.std.proofs.Math.Path.{refl, subst}
use Rattle.std.proofs.Common.{sym, inr, ⊎_elim, eqb-true}
use Rattle.std.proofs.Math.Logic.{inl}
use Rattle.std.proofs.Math.Bool.{true, false}
use Prim.Native.Nat.{ℕ, zero, suc, ◌+◌, ◌<◌}
use native.Mathlib.Omega.{arith}
use Rattle.std.proofs.Math.Dec.{eqb}
use Rattle.std.proofs.lemmas.Bool.{eqb-false}
use Rattle.model.specs.Fields.{variables, clause_count, goal_count}
use Rattle.model.specs.Memory.{Memory, used, parent, depth, own_variables, has_goal, frame, goal_index, tried}
use Rattle.model.specs.Goals.{goals_of, next_goal, child_goal, FirstGoal}
use Rattle.model.specs.Damage.{called_word, clause_of, rule_goal, without_goal, with_goal, goal_sound, base_sound, node_sound, on_path, sound}
use Rattle.memory.proofs.FieldBounds.{parent-lt, depth-lt}
use Rattle.paths.proofs.Held.{three-held, four-held}
use Rattle.paths.specs.Slots.{Links}
use Rattle.paths.proofs.Slots.{slot_held, links-held}
use Rattle.paths.specs.Ancestors.{OnPath}
use Rattle.paths.proofs.Ancestors.{ancestor, path-self, path-up, path_parent}

-- every slot on the path to a slot has its frame on its own path
abbrev Framed : List ℕ → ℕ → Type 0
Framed nodes slot = (other : ℕ) → OnPath nodes slot other → OnPath nodes other (frame nodes other)

module _ (nodes : List ℕ) (links : Links nodes) where
  -- a slot on the path is the slot itself, or on the path to its parent
  pub path-either : (most slot other : ℕ) → depth nodes slot ≡ most → slot < 64 → used nodes slot ≡ 1 → on_path most nodes slot other ≡ true
      → (slot ≡ other) ⊎ ((slot ≡ 0 → ⊥) × OnPath nodes (parent nodes slot) other)
  unfolding on_path
  path-either zero slot other d h u e = inl (eqb-true slot other e)
  path-either (suc most) slot other d h u e = go (eqb slot other) refl e
    where
      -- only the root has depth 0
      below : slot ≡ 0 → ⊥
      below z = let flat : depth nodes slot ≡ 0 = subst (λ (s : ℕ). depth nodes s ≡ 0) (sym z) links.flat in omega arith

      go : (b : Bool) → eqb slot other ≡ b → elim b [ true ↦ true | false ↦ on_path most nodes (parent nodes slot) other ] ≡ true
          → (slot ≡ other) ⊎ ((slot ≡ 0 → ⊥) × OnPath nodes (parent nodes slot) other)
      go true q e = inl (eqb-true slot other q)
      go false q e =
          let one : most ≡ depth nodes (parent nodes slot) = omega (arith, (links.rises slot h u below).deeper) in
          inr (below, subst (λ (n : ℕ). on_path n nodes (parent nodes slot) other ≡ true) one e)

  -- the root is on every path
  path-root : (most slot : ℕ) → depth nodes slot < most → slot < 64 → used nodes slot ≡ 1 → OnPath nodes slot 0
  path-root zero slot l h u = absurd (omega arith)
  path-root (suc most) slot l h u = go (eqb slot 0) refl (path-root most (parent nodes slot))
    where
      go : (b : Bool) → eqb slot 0 ≡ b → (depth nodes (parent nodes slot) < most → parent nodes slot < 64 → used nodes (parent nodes slot) ≡ 1 → OnPath nodes (parent nodes slot) 0)
          → OnPath nodes slot 0
      go true q up = subst (OnPath nodes slot) (eqb-true slot 0 q) (path-self nodes (depth nodes slot) slot)
      go false q up =
          let r = links.rises slot h u (eqb-false slot 0 q) in
          path-up nodes links slot 0 h u (eqb-false slot 0 q) (up (omega (arith, r.deeper)) (parent-lt nodes slot) r.taken)

module _ (image query : List ℕ) (m : Memory) (held : sound image query m ≡ true) where
  abbrev links : Links m.nodes
  links = links-held image query m held

  -- a first goal whose frame is on the path to a slot; without a goal nothing is asked
  abbrev Aimed : ℕ → FirstGoal → Type 0
  Aimed slot None = Unit {0}
  Aimed slot (Some (holder, index)) = OnPath m.nodes slot holder

  module _ (slot : ℕ) (fits : slot < 64) (taken : used m.nodes slot ≡ 1) where
    -- the slot's fields name that goal's frame
    frame-aimed : (first : FirstGoal) → goal_sound image query m.nodes slot first ≡ true → Aimed slot first → OnPath m.nodes slot (frame m.nodes slot)
    unfolding goal_sound without_goal with_goal
    frame-aimed None e aimed =
        let nodes = m.nodes in
        let rule = four-held (eqb (has_goal nodes slot) 0) (eqb (frame nodes slot) 0) (eqb (goal_index nodes slot) 0) (eqb (tried nodes slot) 0) e in
        subst (OnPath nodes slot) (sym (eqb-true (frame nodes slot) 0 rule.1)) (path-root nodes links 64 slot (depth-lt nodes slot) fits taken)
    frame-aimed (Some (holder, index)) e aimed =
        let nodes = m.nodes in
        let rule = four-held (eqb (has_goal nodes slot) 1) (eqb (frame nodes slot) holder) (eqb (goal_index nodes slot) index)
        (leb (tried nodes slot) (clause_count (called_word image query nodes slot))) e in
        subst (OnPath nodes slot) (sym (eqb-true (frame nodes slot) holder rule.1)) aimed

    -- the climb from frame to parent frame stays on the path to the slot's parent
    module _ (other : slot ≡ 0 → ⊥) (framed : Framed m.nodes (parent m.nodes slot)) where
      next-aimed : (most holder index : ℕ) → OnPath m.nodes (parent m.nodes slot) holder → Aimed slot (next_goal most image query m.nodes holder index)
      unfolding next_goal
      next-aimed zero holder index on = go (ltb (index + 1) (goals_of image query m.nodes holder))
        where
          go : (more : Bool) → Aimed slot (cond more (Some (holder, index + 1)) None)
          go true = path-up m.nodes links slot holder fits taken other on
          go false = tt
      next-aimed (suc most) holder index on = go (ltb (index + 1) (goals_of image query m.nodes holder)) (eqb holder 0) refl (next-aimed most)
        where
          go : (more root : Bool) → eqb holder 0 ≡ root
              → ((h i : ℕ) → OnPath m.nodes (parent m.nodes slot) h → Aimed slot (next_goal most image query m.nodes h i))
              → Aimed slot (elim more [
                | true ↦ Some (holder, index + 1)
                | false ↦ elim root [
                  | true ↦ None
                  | false ↦ next_goal most image query m.nodes (frame m.nodes (parent m.nodes holder)) (goal_index m.nodes (parent m.nodes holder))
                ]
              ])
          go true root q rest = path-up m.nodes links slot holder fits taken other on
          go false true q rest = tt
          go false false q rest =
              let nodes = m.nodes in
              let r = links.rises slot fits taken other in
              let a = ancestor nodes links (parent nodes slot) holder (parent-lt nodes slot) r.taken on in
              let above = path_parent nodes links holder a.fits a.taken (eqb-false holder 0 q) in
              let on-up = a.path (parent nodes holder) above in
              let b = ancestor nodes links (parent nodes slot) (parent nodes holder) (parent-lt nodes slot) r.taken on-up in
              rest (frame nodes (parent nodes holder)) (goal_index nodes (parent nodes holder)) (b.path (frame nodes (parent nodes holder)) (framed (parent nodes holder) on-up))

    -- the first goal by the rules
    rule-aimed : ((slot ≡ 0 → ⊥) → Framed m.nodes (parent m.nodes slot)) → Aimed slot (rule_goal image query m.nodes slot)
    unfolding rule_goal child_goal
    rule-aimed framed = go (eqb slot 0) refl (eqb (goal_count (clause_of image query m.nodes slot)) 0)
      where
        go : (root : Bool) → eqb slot 0 ≡ root → (unit : Bool)
            → Aimed slot (cond root (Some (0, 0))
            (cond unit (next_goal (depth m.nodes (frame m.nodes (parent m.nodes slot))) image query m.nodes (frame m.nodes (parent m.nodes slot)) (goal_index m.nodes (parent m.nodes slot))) (Some (slot, 0))))
        go true q unit = path-root m.nodes links 64 slot (depth-lt m.nodes slot) fits taken
        go false q false = path-self m.nodes (depth m.nodes slot) slot
        go false q true =
            let nodes = m.nodes in
            let above = framed (eqb-false slot 0 q) in
            next-aimed (eqb-false slot 0 q) above (depth nodes (frame nodes (parent nodes slot))) (frame nodes (parent nodes slot)) (goal_index nodes (parent nodes slot))
            (above (parent nodes slot) (path-self nodes (depth nodes (parent nodes slot)) (parent nodes slot)))

    frame-own : ((slot ≡ 0 → ⊥) → Framed m.nodes (parent m.nodes slot)) → OnPath m.nodes slot (frame m.nodes slot)
    unfolding node_sound
    frame-own framed =
        let nodes = m.nodes in
        let rule = three-held (eqb (own_variables nodes slot) (variables (clause_of image query nodes slot))) (base_sound nodes slot)
        (goal_sound image query nodes slot (rule_goal image query nodes slot)) (slot_held image query m held slot fits taken).0 in
        frame-aimed (rule_goal image query nodes slot) rule.2 (rule-aimed framed)

  all-framed : (most slot : ℕ) → depth m.nodes slot < most → slot < 64 → used m.nodes slot ≡ 1 → Framed m.nodes slot
  all-framed zero slot l h u third on = absurd (omega arith)
  all-framed (suc most) slot l h u third on =
      let nodes = m.nodes in
      let up : (slot ≡ 0 → ⊥) → Framed nodes (parent nodes slot) = λ other.
      all-framed most (parent nodes slot) (omega (arith, (links.rises slot h u other).deeper)) (parent-lt nodes slot) (links.rises slot h u other).taken in
      ⊎_elim
      (λ (e : slot ≡ third). subst (λ (s : ℕ). OnPath nodes s (frame nodes s)) e (frame-own slot h u up))
      (λ (w : (slot ≡ 0 → ⊥) × OnPath nodes (parent nodes slot) third). up w.0 third w.1)
      (path-either nodes links (depth nodes slot) slot third refl h u on)

  -- "Frame and goal index name the node whose clause holds the first goal": it is on the path
  pub frame-on-path : (slot : ℕ) → slot < 64 → used m.nodes slot ≡ 1 → OnPath m.nodes slot (frame m.nodes slot)
  frame-on-path slot h u = all-framed 64 slot (depth-lt m.nodes slot) h u slot (path-self m.nodes (depth m.nodes slot) slot)
