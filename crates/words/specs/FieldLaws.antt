-- What the laws of fields speak of, over any list of widths: document 01, "Rule image", "Fields are listed most significant first". Assumes nothing.
use Rattle.std.specs.Prelude.{List, [], ◌∷◌, ℕ, zero, suc, ◌^◌, ◌<◌}
use Rattle.model.specs.Fields.{field}

-- each value fits its width
abbrev pub Fit : List ℕ → List ℕ → Type 0
Fit [] [] = Unit {0}
Fit [] (value ∷ values) = ⊥
Fit (width ∷ widths) [] = ⊥
Fit (width ∷ widths) (value ∷ values) = (value < 2 ^ width) × Fit widths values

-- so many fields of a word, read by their numbers from i on
unfoldable pub fields_from : List ℕ → ℕ → ℕ → ℕ → List ℕ
fields_from widths word i zero = []
fields_from widths word i (suc count) = field widths word i ∷ fields_from widths word (suc i) count
