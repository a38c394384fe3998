-- What is written so far, and then the words to come, gives the whole. Assumes nothing.
use Rattle.std.proofs.Common.{◌≡◌, ◌+◌, ◌*◌, ◌≤◌, length, drop}
use Rattle.desk_model.specs.Lines.{value_texts, written}
use Rattle.lines.proofs.value_texts.Given as goal

abbrev pub invariant-loop-word : goal.invariant-loop-word
invariant-loop-word l =
    (l.end ≤ 10 + 11 * l.word-index) × (length l.line ≡ length l.initial.line) × (written l.end (value_texts (drop l.word-index l.words)) l.line ≡ written l.initial.end (value_texts l.words) l.initial.line)
    × (l.end + length (value_texts (drop l.word-index l.words)) ≡ l.initial.end + length (value_texts l.words))
