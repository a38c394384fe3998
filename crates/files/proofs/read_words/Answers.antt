-- `files::read_words` meets its contract: a word's bytes follow those of the words before it. Assumes nothing.
use Rattle.std.proofs.Common.{◌++◌, take, length-append, length-take, arith}
use Rattle.std.proofs.KnownBytes.{Consumes-trans}
use Rattle.files.proofs.read_words.Goals as goal

pub loop-word-preserved : goal.loop-word-preserved
loop-word-preserved g c =
    let before = c.loop-word.invariant in
    let next = c.next_word.ensures in (
      before.0 ++ take next.1 next.0,
      omega (arith, before.1, next.2, length-append before.0 (take next.1 next.0), length-take next.1 next.0),
      Consumes-trans _ _ _ _ _ before.2 next.4,
    )
