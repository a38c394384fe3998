-- `image::walk_image` meets its contract. Assumes nothing.
use Rattle.std.proofs.Common.{arith}
use Rattle.image.proofs.ClauseLaws.{predicate_count-lt}
use Rattle.image.proofs.walk_image.Goals as goal

pub predicates-requires : goal.predicates-requires
predicates-requires c = let e = c.predicate_count-count.ensures in
    omega (arith, e, predicate_count-lt c.word_at.result)
