-- The words laid out so far stand in front, and behind them what stood there. Assumes nothing.
use Rattle.std.proofs.Common.{◌≡◌, length, take, drop}
use Rattle.model.specs.Bytes.{words_from}
use Rattle.byte_words.proofs.lay_words.Given as goal

abbrev pub invariant-loop-k : goal.invariant-loop-k
invariant-loop-k l = (length l.words ≡ length l.initial.words) × (take l.k l.words ≡ words_from l.bytes l.k 0) × (drop l.k l.words ≡ drop l.k l.initial.words)
