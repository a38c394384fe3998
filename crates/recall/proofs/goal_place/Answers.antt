-- `recall::goal_place` meets its contract. Assumes nothing.
use Rattle.std.proofs.Common.{sym, ap, ap₂, subst, ◌∙◌, ℕ, ◌+◌, ◌*◌, arith}
use Rattle.model.specs.Memory.{frame, clause_position, goal_index}
use Rattle.memory.proofs.FieldBounds.{clause_position-lt, goal_index-lt}
use Rattle.goals.proofs.PlaceLaws.{goal_of-lt}
use Rattle.recall.specs.Places.{GoalTold, GoalsKept}
use Rattle.recall.proofs.RecallLaws.{recall-true, keep-true}
use Rattle.recall.proofs.KeyLaws.{goal-told}
use Rattle.recall.proofs.goal_place.Goals as goal

pub overflow_mul-key : goal.overflow_mul-key
overflow_mul-key c = omega (arith, clause_position-lt)

pub overflow_add-key : goal.overflow_add-key
overflow_add-key c = omega (arith, clause_position-lt, goal_index-lt)

pub returns-in-Some : goal.returns-in-Some
returns-in-Some c = let a = c.args in
    let key = ap₂ (λ (p i : ℕ). 16 * p + i) (c.clause_position.ensures ∙ ap (clause_position a.nodes.now) c.frame-slot.ensures) c.goal_index.ensures in
    let told = recall-true (GoalTold a.search.image.now a.search.query.now) a.places.now a.node (16 * c.clause_position.result + c.goal_index.result) c.in-Some.place c.requires (sym c.recall.ensures ∙ c.in-Some.is) in
    (told (clause_position a.nodes.now (frame a.nodes.now a.node)) (goal_index a.nodes.now a.node) (goal_index-lt a.nodes.now a.node) key, c.requires)

pub overflow_cast-place : goal.overflow_cast-place
overflow_cast-place c = omega (arith, goal_of-lt)

pub returns : goal.returns
returns c = let a = c.args in
    let slot = frame a.nodes.now a.node in
    let key = ap₂ (λ (p i : ℕ). 16 * p + i) (c.clause_position.ensures ∙ ap (clause_position a.nodes.now) c.frame-slot.ensures) c.goal_index.ensures in
    let told = goal-told a.search.image.now a.search.query.now (clause_position a.nodes.now slot) (goal_index a.nodes.now a.node) c.goal_of-place.result (goal_index-lt a.nodes.now a.node) c.goal_of-place.ensures in (
      c.goal_of-place.ensures,
      subst (GoalsKept a.search.image.now a.search.query.now) (sym c.keep.ensures)
          (keep-true (GoalTold a.search.image.now a.search.query.now) a.places.now a.node _ c.goal_of-place.result c.requires (subst (λ (k : ℕ). GoalTold a.search.image.now a.search.query.now k c.goal_of-place.result) (sym key) told)),
    )
