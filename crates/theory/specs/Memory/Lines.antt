-- Definitions: the frames along a path as a list, 32 cells to a slot; which cells are on it, and which number each has.
-- Renders "Slot s owns .. 32 cells from 32s" and "numbers that clause's variables from its base on" of document 01. Assumes nothing.
use mathlib.Core.List.{List, Memᴰ, [], ◌∷◌}
use Rattle.std.specs.Prelude.{◌≡◌, ◌%◌, ◌+◌, ◌/◌, ◌<◌, ◌≤◌, ℕ}
use Rattle.theory.specs.Memory.Represents.{Place}

pub record Frame : Type 0 where
  pub slot : ℕ
  pub base : ℕ
  pub variables : ℕ

-- each frame's numbers start where those of the one above end
unfoldable pub Chain : ℕ → List Frame → Type 0
Chain b [] = Unit {0}
Chain b (f ∷ l) = (f.base ≡ b) × (f.variables ≤ 32) × Chain (b + f.variables) l

-- where the numbers of a line end
unfoldable pub line_end : ℕ → List Frame → ℕ
line_end b [] = b
line_end b (f ∷ l) = line_end (b + f.variables) l

pub record OnLine (l : List Frame) (a : ℕ) : Type 0 where
  pub frame : Frame
  pub among : Memᴰ frame l
  pub slot : a / 32 ≡ frame.slot
  pub low : a % 32 < frame.variables

-- a numbering gives each cell of the line its frame's base plus its place
unfoldable pub Numbered : List Frame → (ℕ → ℕ) → Type 0
Numbered l number = (a : ℕ) (o : OnLine l a) → number a ≡ o.frame.base + a % 32

abbrev pub place_on : List Frame → (ℕ → ℕ) → Place
place_on l number = record { On = OnLine l; number = number }
