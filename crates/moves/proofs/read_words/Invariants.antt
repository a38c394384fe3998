-- `moves::read_words` meets its contract. The loop's invariant: what is left to do gives the whole. Assumes nothing.
use Rattle.std.proofs.Common.{◌≡◌, [], ◌-◌, ◌≤◌, take}
use Rattle.moves.proofs.ReadLaws.{answered}
use Rattle.moves.proofs.read_words.Given as goal

abbrev pub invariant-loop-variable : goal.invariant-loop-variable
invariant-loop-variable l = record {
  seen : l.seen.count ≤ l.variable;
  whole : answered l.array l.cells (l.variables - l.variable) l.variable (take l.seen.count l.seen.numbers) l.room ≡ answered l.array l.cells l.variables 0 [] l.initial.room;
}
