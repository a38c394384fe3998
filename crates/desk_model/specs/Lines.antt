-- The lines of the desk program's listing, as bytes: document 01, "The desk program", from "Each answer prints" on. A byte is the number of its ASCII character.
-- Where the page is silent: fields are parted by one space (32), every line ends with a newline (10), a number has no leading zero,
-- and an answer to a query without variables is the step count alone. Assumes nothing.
use Rattle.std.specs.Prelude.{Option, None, Some, Bool, true, false, cond, List, [], ◌∷◌, ◌++◌, ℕ, zero, suc, ◌+◌, ◌/◌, ◌%◌, eqb, ltb, leb, length, set, drop}
use Rattle.model.specs.Fields.{op, constant, variable_number}
use Rattle.desk_model.specs.declared.Ending.{Ending}
use Rattle.desk_model.specs.declared.Ending.TheVariants.{Finished, Full, Spent}

-- a number's digits, most significant first, at most so many before the last
unfoldable pub digits : ℕ → ℕ → List ℕ
digits zero n = (48 + n) ∷ []
digits (suc more) n = elim (ltb n 10) [ true ↦ (48 + n) ∷ [] | false ↦ digits more (n / 10) ++ ((48 + n % 10) ∷ []) ]

-- "numbers in decimal": no number has more digits than it counts, or one
unfoldable pub decimal : ℕ → List ℕ
decimal n = digits n n

abbrev pub newline : List ℕ
newline = 10 ∷ []

-- a space and a number
unfoldable pub spaced : ℕ → List ℕ
spaced n = 32 ∷ decimal n

-- "`cN` or `vN`", after its space: a CON word's constant, a VAR word's number
unfoldable pub value_text : ℕ → List ℕ
value_text word = cond (eqb (op word) 2) (32 ∷ 99 ∷ decimal (constant word)) (32 ∷ 118 ∷ decimal (variable_number word))

-- "for each query variable", and the line's end
unfoldable pub value_texts : List ℕ → List ℕ
value_texts [] = newline
value_texts (word ∷ words) = value_text word ++ value_texts words

-- "each answer prints the steps so far, then `cN` or `vN` for each query variable"
unfoldable pub answer_line : ℕ → List ℕ → List ℕ
answer_line steps words = decimal steps ++ value_texts words

-- finished, full, spent
unfoldable pub ending_name : Ending → List ℕ
ending_name Finished = 102 ∷ 105 ∷ 110 ∷ 105 ∷ 115 ∷ 104 ∷ 101 ∷ 100 ∷ []
ending_name Full = 102 ∷ 117 ∷ 108 ∷ 108 ∷ []
ending_name Spent = 115 ∷ 112 ∷ 101 ∷ 110 ∷ 116 ∷ []

-- "`finished N`, `full N`, `spent N`"
unfoldable pub ending_line : Ending → ℕ → List ℕ
ending_line ending steps = ending_name ending ++ (spaced steps ++ newline)

-- refused
unfoldable pub refused_name : List ℕ
refused_name = 114 ∷ 101 ∷ 102 ∷ 117 ∷ 115 ∷ 101 ∷ 100 ∷ []

-- "`refused R P`"
unfoldable pub refused_line : ℕ → ℕ → List ℕ
refused_line number position = refused_name ++ (spaced number ++ (spaced position ++ newline))

-- bytes stored one after another, from a place on; past the room's end nothing is stored
unfoldable pub written : ℕ → List ℕ → List ℕ → List ℕ
written at [] room = room
written at (byte ∷ bytes) room = written (at + 1) bytes (set room at byte)

-- how long a line is, or none where nothing is written; and the room with the line at its front
pub record Wrote : Type 0 where
  pub size : Option ℕ
  pub room : List ℕ

abbrev pub wrote : Option ℕ → List ℕ → Wrote
wrote size room = record { size = size; room = room }

-- Every line but that of an answer of more than 64 values is shorter than 1,024 bytes, and a query has at most 32 variables.
-- In less room, or for more values, nothing is written.
abbrev pub line_in : Bool → List ℕ → List ℕ → Wrote
line_in fits line room = cond fits (wrote (Some (length line)) (line ++ drop (length line) room)) (wrote None room)

abbrev pub roomy : List ℕ → Bool
roomy room = leb 1024 (length room)

abbrev pub few_values : List ℕ → Bool
few_values words = leb (length words) 64
