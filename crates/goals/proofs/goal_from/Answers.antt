-- `goals::goal_from` meets its contract. Assumes nothing.
use Rattle.std.proofs.Common.{ℕ, ◌+◌, ◌-◌, ◌∙◌, ap, arith}
use Rattle.model.specs.Decoding.{goal_from}
use Rattle.goals.proofs.PlaceLaws.{goal_from-end, goal_from-turn, goal_next-le}
use Rattle.goals.proofs.goal_from.Goals as goal

pub loop-preserved : goal.loop-preserved
loop-preserved c = let l = c.loop in
    let a = c.args in record {
      near = omega (arith, c.goal_next-at.ensures, goal_next-le a.image.now a.words.now l.at);
      rest = ap (λ (n : ℕ). goal_from a.image.now a.words.now n (a.goals - (l.counter + 1))) c.goal_next-at.ensures ∙ goal_from-turn a.image.now a.words.now l.counter a.goals l.at c.loop-test.true ∙ l.invariant.rest;
    }

pub returns : goal.returns
returns c = let l = c.loop in let a = c.args in goal_from-end a.image.now a.words.now l.counter a.goals l.at c.loop-test.false ∙ l.invariant.rest
