-- A first goal's index is below the goals of the clause that holds it, and its count of tried clauses at most its predicate's: document 01, "Refused calls",
-- condition 21, "has goal, frame and index follow the rules; tried is at most the clause count". Of the check it needs that a legal query has a goal. Assumes nothing.
use Rattle.std.specs.Prelude.{◌≡◌, Bool, cond, List, leb, get_or, Some, None}
use Rattle.std.proofs.Math.Path.{refl, subst}
use Rattle.std.proofs.Common.{sym, Ok}
use Rattle.std.proofs.Math.Bool.{true, false}
use Prim.Native.Nat.{ℕ, zero, suc, ◌+◌, ◌<◌}
use native.Mathlib.Omega.{arith}
use Rattle.std.proofs.Math.Dec.{eqb, ltb}
use borrow.Author.Tests.{eqb-true, eqb-false, ltb-true, leb-true}
use Rattle.model.specs.Fields.{variables, clause_count, goal_count}
use Rattle.model.specs.Image.{check_query}
use Rattle.model.specs.Encoding.{Words}
use Rattle.model.specs.Memory.{Memory, used, parent, depth, own_variables, has_goal, frame, goal_index, tried}
use Rattle.model.specs.Goals.{goals_of, next_goal, child_goal, FirstGoal}
use Rattle.model.specs.Damage.{called_word, clause_of, rule_goal, without_goal, with_goal, goal_sound, base_sound, node_sound, sound}
use Rattle.meaning.proofs.Meaning.{legal-query-decodes, legal-query-places}
use Rattle.paths.proofs.Held.{three-held, four-held}
use Rattle.paths.proofs.Slots.{slot_held, root-clause}
use Rattle.undoing.specs.FirstGoals.{Indexed}

module _ (image query : List ℕ) (query_words : Words query) (legal : check_query image query ≡ Ok tt) (m : Memory) (held : sound image query m ≡ true) where
  -- the query has a goal
  root-goals : 0 < goals_of image query m.nodes 0
  root-goals =
      let nodes = m.nodes in
      let q = legal-query-places image query query_words legal in
      let some : 0 < goal_count (get_or query 0 0) = omega (arith, q.fields.is_count, (legal-query-decodes image query query_words legal).1.nonempty) in
      subst (λ (at : ℕ). 0 < goal_count (get_or (cond (eqb at 0) query image) at 0)) (sym (root-clause image query m held)) some

  -- a first goal whose index is below its clause's goals; without a goal nothing is asked
  abbrev Counted : FirstGoal → Type 0
  Counted None = Unit {0}
  Counted (Some (holder, index)) = index < goals_of image query m.nodes holder

  next-counted : (most holder index : ℕ) → Counted (next_goal most image query m.nodes holder index)
  unfolding next_goal
  next-counted zero holder index = go (ltb (index + 1) (goals_of image query m.nodes holder)) refl
    where
      go : (more : Bool) → ltb (index + 1) (goals_of image query m.nodes holder) ≡ more → Counted (cond more (Some (holder, index + 1)) None)
      go true q = ltb-true (index + 1) (goals_of image query m.nodes holder) q
      go false q = tt
  next-counted (suc most) holder index = go (ltb (index + 1) (goals_of image query m.nodes holder)) refl (eqb holder 0) (next-counted most)
    where
      go : (more : Bool) → ltb (index + 1) (goals_of image query m.nodes holder) ≡ more → (root : Bool)
          → ((h i : ℕ) → Counted (next_goal most image query m.nodes h i))
          → Counted (elim more [
            | true ↦ Some (holder, index + 1)
            | false ↦ elim root [
              | true ↦ None
              | false ↦ next_goal most image query m.nodes (frame m.nodes (parent m.nodes holder)) (goal_index m.nodes (parent m.nodes holder))
            ]
          ])
      go true q root rest = ltb-true (index + 1) (goals_of image query m.nodes holder) q
      go false q true rest = tt
      go false q false rest = rest (frame m.nodes (parent m.nodes holder)) (goal_index m.nodes (parent m.nodes holder))

  rule-counted : (slot : ℕ) → Counted (rule_goal image query m.nodes slot)
  unfolding rule_goal child_goal
  rule-counted slot = go (eqb slot 0) (eqb (goal_count (clause_of image query m.nodes slot)) 0) refl
    where
      go : (root unit : Bool) → eqb (goal_count (clause_of image query m.nodes slot)) 0 ≡ unit
          → Counted (cond root (Some (0, 0))
          (cond unit (next_goal (depth m.nodes (frame m.nodes (parent m.nodes slot))) image query m.nodes (frame m.nodes (parent m.nodes slot)) (goal_index m.nodes (parent m.nodes slot))) (Some (slot, 0))))
      go true unit q = root-goals
      go false false q = let some = eqb-false (goal_count (clause_of image query m.nodes slot)) 0 q in above (goals_of image query m.nodes slot) some
        where
          above : (count : ℕ) → (count ≡ 0 → ⊥) → 0 < count
          above zero some = absurd (some refl)
          above (suc count) some = omega arith
      go false true q =
          let nodes = m.nodes in
          next-counted (depth nodes (frame nodes (parent nodes slot))) (frame nodes (parent nodes slot)) (goal_index nodes (parent nodes slot))

  module _ (slot : ℕ) (fits : slot < 64) (taken : used m.nodes slot ≡ 1) where
    rules : (eqb (own_variables m.nodes slot) (variables (clause_of image query m.nodes slot)) ≡ true) × (base_sound m.nodes slot ≡ true)
        × (goal_sound image query m.nodes slot (rule_goal image query m.nodes slot) ≡ true)
    unfolding node_sound
    rules =
        three-held (eqb (own_variables m.nodes slot) (variables (clause_of image query m.nodes slot))) (base_sound m.nodes slot)
        (goal_sound image query m.nodes slot (rule_goal image query m.nodes slot)) (slot_held image query m held slot fits taken).0

    -- a slot has as many variables as its clause
    pub own-variables : own_variables m.nodes slot ≡ variables (clause_of image query m.nodes slot)
    own-variables = eqb-true (own_variables m.nodes slot) (variables (clause_of image query m.nodes slot)) rules.0

    goal-indexed : (first : FirstGoal) → goal_sound image query m.nodes slot first ≡ true → Counted first → has_goal m.nodes slot ≡ 1 → Indexed image query m.nodes slot
    unfolding goal_sound without_goal with_goal
    goal-indexed None e counted has =
        let nodes = m.nodes in
        let rule = four-held (eqb (has_goal nodes slot) 0) (eqb (frame nodes slot) 0) (eqb (goal_index nodes slot) 0) (eqb (tried nodes slot) 0) e in
        absurd (omega (arith, has, eqb-true (has_goal nodes slot) 0 rule.0))
    goal-indexed (Some (holder, index)) e counted has =
        let nodes = m.nodes in
        let rule = four-held (eqb (has_goal nodes slot) 1) (eqb (frame nodes slot) holder) (eqb (goal_index nodes slot) index)
        (leb (tried nodes slot) (clause_count (called_word image query nodes slot))) e in
        let same = eqb-true (goal_index nodes slot) index rule.2 in
        let less : goal_index nodes slot < goals_of image query nodes holder = omega (arith, same, counted) in
        record {
          index = subst (λ (h : ℕ). goal_index nodes slot < goals_of image query nodes h) (sym (eqb-true (frame nodes slot) holder rule.1)) less;
          most = leb-true (tried nodes slot) (clause_count (called_word image query nodes slot)) rule.3;
        }

    pub indexed : has_goal m.nodes slot ≡ 1 → Indexed image query m.nodes slot
    indexed = goal-indexed (rule_goal image query m.nodes slot) rules.2 (rule-counted slot)
