-- Definition: that words stand in a slice, read at a place, one behind the other. Everything about an encoding in an image goes by this. Assumes nothing.
use Rattle.std.specs.Prelude.{◌≡◌, List, [], ◌∷◌, ℕ, ◌+◌, ◌<◌, length, get_or}

-- the words of a slice from a place on begin with this code
abbrev pub Stands : List ℕ → ℕ → List ℕ → Type 0
Stands words at [] = Unit {0}
Stands words at (word ∷ code) = (at < length words) × (get_or words at 0 ≡ word) × Stands words (at + 1) code
