-- The loop's invariant of `goals::past_head`: what is left to do gives the whole. Assumes nothing.
use Rattle.std.proofs.Common.{◌≡◌, ◌+◌, ◌-◌}
use Rattle.model.specs.Goals.{past_head}
use Rattle.goals.proofs.past_head.Given as goal

abbrev pub invariant-loop-at : goal.invariant-loop-at
invariant-loop-at l = past_head (l.start + l.most - l.at) l.words l.at ≡ past_head l.most l.words l.start
