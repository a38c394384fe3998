-- `goals::clause_from` meets its contract. Assumes nothing.
use Rattle.std.proofs.Common.{ℕ, ◌+◌, ◌-◌, ◌∙◌, ap, arith}
use Rattle.model.specs.Decoding.{clause_from}
use Rattle.model.specs.Fields.{clause_length}
use Rattle.goals.proofs.PlaceLaws.{clause_from-end, clause_from-turn, clause_next-le}
use Rattle.goals.proofs.clause_from.Goals as goal

pub loop-preserved : goal.loop-preserved
loop-preserved c = let l = c.loop in
    let xs = c.args.image.now in
    let e = c.clause_length.ensures ∙ ap clause_length c.word_at.ensures in record {
      near = omega (arith, e, clause_next-le xs l.at);
      rest = ap (λ (n : ℕ). clause_from xs (l.at + n) (c.args.clauses - (l.counter + 1))) e ∙ clause_from-turn xs l.counter c.args.clauses l.at c.loop-test.true ∙ l.invariant.rest;
    }

pub returns : goal.returns
returns c = let l = c.loop in clause_from-end c.args.image.now (c.args.clauses - l.counter) l.at (omega arith) ∙ l.invariant.rest
