-- The words so far are of bytes that the file had first. Assumes nothing.
use Rattle.std.proofs.Common.{◌*◌, ◌≤◌, List, ℕ, length}
use Rattle.std.specs.Io.KnownBytes.{Consumes}
use Rattle.files.proofs.read_words.Given as goal

abbrev pub invariant-loop-word : goal.invariant-loop-word
invariant-loop-word g l = (bytes : List ℕ) × (length bytes ≤ 4 * l.word-index) × Consumes (g.R.Read.remaining l.initial.file) (g.R.Read.remaining l.file) bytes
