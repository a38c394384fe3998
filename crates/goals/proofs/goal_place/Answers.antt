-- `goals::goal_place` meets its contract. Assumes nothing.
use Rattle.std.proofs.Common.{arith}
use Rattle.goals.proofs.PlaceLaws.{past_head-le}
use Rattle.goals.proofs.goal_place.Goals as goal

pub goal_from-requires : goal.goal_from-requires
goal_from-requires c = omega (arith, past_head-le)
