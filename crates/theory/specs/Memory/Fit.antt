-- Definitions: the memory of the slots, decoded; and what a used slot must hold for a node of the definition.
-- Renders "Shared memory" of document 01. `Fit` speaks of no worker: the walk of the trails stands in it, and that a worker's array is the walk to its
-- slot is said apart. Its `line` and `entries` are the frames and trail entries from the root to the slot. Assumes nothing.
use mathlib.Core.List.{List, Memᴰ}
use Rattle.std.proofs.Math.Option.{Option, none, some}
use Rattle.std.specs.Prelude.{◌≡◌, ◌%◌, ◌+◌, ◌/◌, ◌≤◌, ℕ}
use Rattle.model.specs.Definition.{Node, lookup}
use Rattle.model.specs.Rules.{Clause}
use Rattle.theory.specs.Definition.Sane.{Sane}
use Rattle.theory.specs.Memory.Lines.{Chain, Frame, line_end, place_on}
use Rattle.theory.specs.Memory.Represents.{Linked, Place, Represents}
use Rattle.theory.specs.Memory.Store.{Store, TrailEntry, Word, conditionals_shown, install_map, shown_entries, unbound_word}

pub record Spot : Type 0 where
  pub frame : ℕ
  pub index : ℕ

abbrev pub empty_array : ℕ → Word
empty_array n = unbound_word

-- what stays fixed of a slot while it is used
pub record SlotMemory : Type 0 where
  pub parent : ℕ
  pub base : ℕ
  pub variables : ℕ
  pub clause : Clause
  pub spot : Option Spot
  pub cells : ℕ → Word
  pub trail : List TrailEntry

abbrev pub Memory : Type 0
Memory = ℕ → Option SlotMemory

unfoldable pub cells_in : Option SlotMemory → ℕ → Word
cells_in none i = unbound_word
cells_in (some v) i = v.cells i

unfoldable pub cell_of : Memory → ℕ → Word
cell_of X a = cells_in (X (a / 32)) (a % 32)

unfoldable pub base_in : Option SlotMemory → ℕ
base_in none = 0
base_in (some v) = v.base

-- the variable number of a cell, by the memory alone
unfoldable pub number_of : Memory → ℕ → ℕ
number_of X a = base_in (X (a / 32)) + a % 32

-- ghosts of a used slot: its line of frames and the trail entries along it
pub record Ghost : Type 0 where
  pub line : List Frame
  pub entries : List TrailEntry

abbrev pub place_of : Memory → Ghost → Place
place_of X G = place_on G.line (number_of X)

abbrev pub store_of : Memory → List TrailEntry → Store
store_of X t = record { cell = cell_of X; array = install_map t empty_array }

pub record StoredFrame (X : Memory) (f : Frame) : Type 0 where
  pub slot : SlotMemory
  pub used : X f.slot ≡ some slot
  pub base : slot.base ≡ f.base

-- what slot s must hold for the node N
pub record Fit (X : Memory) (G : Ghost) (N : Node) : Type 0 where
  pub chain : Chain 0 G.line
  pub frames : (f : Frame) → Memᴰ f G.line → StoredFrame X f
  pub ending : line_end 0 G.line ≡ N.base + N.variables
  pub rep : Represents (place_of X G) N.bindings (store_of X G.entries)
  pub sane : Sane N.bindings
  pub low : (n : ℕ) → N.base + N.variables ≤ n → lookup N.bindings n ≡ none
  pub linked : Linked (place_of X G) G.entries
  pub entries : shown_entries (number_of X) G.entries ≡ conditionals_shown N.bindings

-- no array word is bound at or past the end of a line: trail numbers are below the base that the next child gets
unfoldable pub EndsShort : List TrailEntry → ℕ → Type 0
EndsShort t k = (n : ℕ) → k ≤ n → install_map t empty_array n ≡ unbound_word
