-- What a reader finds at a position of an image: the word there, or the end. Document 01, "Rule image", "words end early".
-- Assumes nothing.
use Rattle.std.specs.Prelude.{cond, List, ℕ, ltb, length, get_or, Option, Some, None}

abbrev pub word_or_end : List ℕ → ℕ → Option ℕ
word_or_end words at = cond (ltb at (length words)) (Some (get_or words at 0)) None
