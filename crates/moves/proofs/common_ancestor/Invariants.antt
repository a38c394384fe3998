-- `moves::common_ancestor` meets its contract. The loop's invariant: what is left to do gives the whole. Assumes nothing.
use Rattle.std.proofs.Common.{◌≡◌}
use Rattle.model.specs.Moves.{common_ancestor}
use Rattle.moves.proofs.MoveLaws.{meeting_after}
use Rattle.moves.proofs.common_ancestor.Given as goal

abbrev pub invariant-loop : goal.invariant-loop
invariant-loop l = meeting_after l.nodes l.most l.counter l.here l.there ≡ common_ancestor l.nodes l.slot l.other
