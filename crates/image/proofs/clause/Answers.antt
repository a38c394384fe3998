-- `image::clause` meets its contract. Assumes nothing.
use Rattle.std.proofs.Common.{sym, ◌∙◌}
use Rattle.image.proofs.ClauseLaws.{clause-forward}
use Rattle.image.proofs.clause.Goals as goal

pub clause_end-requires : goal.clause_end-requires
clause_end-requires c = let a = c.args in
    clause-forward a.image.now a.words.now a.fewest a.head_arity a.at c.in_ok-next.next c.in_ok-next.none c.word_at-word.result c.in_ok-end.end c.in_ok-end.seen
    (sym c.in_ok-next.was ∙ c.clause_word.ensures) (sym c.in_ok-end.was ∙ c.body.ensures)
