-- `recall::clause_place` meets its contract. Assumes nothing.
use Rattle.std.proofs.Common.{refl, sym, ◌∙◌, arith}
use Rattle.goals.proofs.PlaceLaws.{clause_at-lt}
use Rattle.recall.specs.Places.{clause_key, ClauseTold}
use Rattle.recall.proofs.RecallLaws.{recall-true}
use Rattle.recall.proofs.clause_place.Goals as goal

pub returns-in-Some : goal.returns-in-Some
returns-in-Some c = let a = c.args in
    let p = c.requires in
    recall-true (ClauseTold a.image.now) a.clauses.now a.node (clause_key a.predicate a.clause) c.in-Some.place p.0 (sym c.recall.ensures ∙ c.in-Some.is) a.predicate a.clause p.2 refl

pub overflow_cast-result : goal.overflow_cast-result
overflow_cast-result c = let a = c.args in omega (arith, c.clause_at.ensures, clause_at-lt a.image.now a.predicate a.clause c.requires.2)
