-- `recall::keep_clause` meets its contract. Assumes nothing.
use Rattle.std.proofs.Common.{sym, subst}
use Rattle.recall.specs.Places.{clause_key, ClauseTold, ClausesKept}
use Rattle.recall.proofs.RecallLaws.{keep-true}
use Rattle.recall.proofs.KeyLaws.{clause-told}
use Rattle.recall.proofs.keep_clause.Goals as goal

pub returns : goal.returns
returns c = let a = c.args in
    let p = c.requires in
    subst (ClausesKept a.image.now) (sym c.keep.ensures)
    (keep-true (ClauseTold a.image.now) a.clauses.now a.node (clause_key a.predicate a.clause) a.place p.0 (clause-told a.image.now a.predicate a.clause a.place p.2 p.3))
