-- The byte form of an image and the exported call's answer: document 01, "Rule image", "The signing host is written in C". Assumes nothing.
use Rattle.std.specs.Prelude.{cond, List, [], ◌∷◌, ℕ, zero, suc, ◌+◌, ◌*◌, ◌/◌, ◌%◌, min, eqb, length, get_or}
use Rattle.model.specs.declared.Fault.TheVariants.{EndsEarly}
use Rattle.model.specs.declared.Refusal.TheVariants.{Image}
use Rattle.model.specs.Answers.{refused_at}
use Rattle.model.specs.Numbers.{verdict_number}
use Rattle.model.specs.Image.{check_image}

-- word k of a list of bytes, most significant first
unfoldable pub word_of_bytes : List ℕ → ℕ → ℕ
word_of_bytes bytes k =
    ((get_or bytes (4 * k) 0 * 256 + get_or bytes (4 * k + 1) 0) * 256 + get_or bytes (4 * k + 2) 0) * 256 + get_or bytes (4 * k + 3) 0

-- so many words, from word k on
unfoldable pub words_from : List ℕ → ℕ → ℕ → List ℕ
words_from bytes zero k = []
words_from bytes (suc count) k = word_of_bytes bytes k ∷ words_from bytes count (suc k)

unfoldable pub words_of_bytes : List ℕ → List ℕ
words_of_bytes bytes = words_from bytes (length bytes / 4) 0

-- "before any other test a byte length that isn't a multiple of four gives 6 at the count of whole words, or at 131,072 if that is less"
unfoldable pub check_bytes : List ℕ → ℕ
check_bytes bytes =
    cond (eqb (length bytes % 4) 0)
    (verdict_number (check_image (words_of_bytes bytes)))
    (verdict_number (refused_at (Image EndsEarly) (min (length bytes / 4) 131072)))
