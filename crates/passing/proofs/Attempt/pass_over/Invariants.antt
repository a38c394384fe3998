-- `passing::Attempt::pass_over` meets its contract. The loop's invariant: what is left to do gives the whole, and the place is so many clauses on. Assumes nothing.
use Rattle.std.proofs.Common.{◌≡◌, ◌+◌, ◌*◌, ◌≤◌}
use Rattle.model.specs.Decoding.{clause_from}
use Rattle.passing.proofs.PassLaws.{passed_from, passed_all}
use Rattle.passing.proofs.Attempt.pass_over.Given as goal

abbrev pub invariant-loop-count : goal.invariant-loop-count
invariant-loop-count l = record {
  near : l.position ≤ l.start + 65535 * l.count;
  whole : passed_from l.self l.node l.most l.count l.nodes l.position ≡ passed_all l.self l.node l.most l.initial.nodes l.start;
  at : l.position ≡ clause_from l.self.image.now l.start l.count;
}
