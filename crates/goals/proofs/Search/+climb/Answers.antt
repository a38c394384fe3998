-- `goals::Search::climb` meets its contract. Assumes nothing.
use Rattle.std.proofs.Common.{◌-◌, ◌∙◌, ap, ap₂, arith}
use Rattle.model.specs.Memory.{frame, goal_index}
use Rattle.model.specs.Goals.{next_goal}
use Rattle.memory.proofs.FieldBounds.{goal_index-lt}
use Rattle.goals.proofs.PlaceLaws.{next_goal-here, next_goal-top, next_goal-root, next_goal-up}
use Rattle.goals.proofs.Search.+climb.Goals as goal

pub returns-then-index-goals_of : goal.returns-then-index-goals_of
returns-then-index-goals_of t c = let a = c.args in
    next_goal-here a.self.now.image.now a.self.now.query.now a.nodes.now a.slot a.index a.depth (omega (arith, c.goals_of.ensures))

pub returns-then-depth-eq0 : goal.returns-then-depth-eq0
returns-then-depth-eq0 t c = let a = c.args in
    next_goal-top a.self.now.image.now a.self.now.query.now a.nodes.now a.slot a.index a.depth c.if-depth-eq0.true (omega (arith, c.goals_of.ensures))

pub returns-then-slot-eq-ROOT : goal.returns-then-slot-eq-ROOT
returns-then-slot-eq-ROOT t c = let a = c.args in
    next_goal-root a.self.now.image.now a.self.now.query.now a.nodes.now a.slot a.index a.depth (omega (arith, c.goals_of.ensures)) c.if-slot-eq-ROOT.true

pub climb-requires : goal.climb-requires
climb-requires t c = (omega arith, omega (arith, c.goal_index-goal.ensures, goal_index-lt c.args.nodes.now c.parent-above.result))

pub returns : goal.returns
returns t c = let a = c.args in
    let up = c.parent-above.ensures in
    c.climb.ensures
    ∙ ap₂ (next_goal (a.depth - 1) a.self.now.image.now a.self.now.query.now a.nodes.now) (c.frame-frame.ensures ∙ ap (frame a.nodes.now) up) (c.goal_index-goal.ensures ∙ ap (goal_index a.nodes.now) up)
    ∙ next_goal-up a.self.now.image.now a.self.now.query.now a.nodes.now a.slot a.index a.depth (omega arith) (omega (arith, c.goals_of.ensures)) c.if-slot-eq-ROOT.false
