-- The measure of `goals::Search::climb`: the depth that is left. Assumes nothing.
use Rattle.goals.proofs.Search.+climb.Given as goal

abbrev pub decreases-climb : goal.decreases-climb
decreases-climb l = l.depth
