-- Words that are all 0. Document 01, "free slots are zero throughout", of a whole slice. Assumes nothing.
use Rattle.std.specs.Prelude.{◌≡◌, List, ℕ, get_or}

abbrev pub Wiped : List ℕ → Type 0
Wiped words = (at : ℕ) → get_or words at 0 ≡ 0
