-- `byte_words::lay_words` meets its contract. Assumes nothing.
use Rattle.std.proofs.Common.{◌≡◌, refl, arith, length-set}
use Rattle.model.specs.Bytes.{words_from}
use Rattle.byte_words.proofs.LaidWords.{words_from-store, drop-store, laid-words}
use Rattle.byte_words.proofs.lay_words.Goals as goal

pub loop-k-init : goal.loop-k-init
unfolding words_from
loop-k-init c = (refl, refl, refl)

pub loop-k-preserved : goal.loop-k-preserved
loop-k-preserved c = let l = c.loop-k in
    let a = c.args in
    let v = c.word_of_bytes in
    (simp length-set l.invariant.0, words_from-store a.bytes.now l.words l.k v.result (omega arith) v.ensures l.invariant.1, drop-store l.words a.words.now l.k v.result l.invariant.2)

pub returns-clause-words : goal.returns-clause-words
returns-clause-words c = let l = c.loop-k in
    let a = c.args in
    let e : l.k ≡ c.min-most.result = omega arith in
    laid-words a.bytes.now l.words a.words.now c.min-most.result (rw e at l.invariant.1) (rw e at l.invariant.2)
