-- Definitions: a worker's move from slot s to slot t, by parents and depths, over the trails of the slots it passes.
-- Renders "A move takes w to any used slot and returns the entries passed on both legs" of document 01. Assumes nothing.
use Rattle.std.specs.Prelude.{List, [], ◌++◌, ◌∷◌, ◌+◌, ℕ, length}
use Rattle.theory.specs.Memory.Arrays.{WordEntry, Words, moved}
use Rattle.theory.specs.Memory.Meet.{Links, legs}

-- the trail entries along a list of slots, in order
unfoldable pub trails_along : (ℕ → List WordEntry) → List ℕ → List WordEntry
trails_along trail [] = []
trails_along trail (s ∷ p) = trail s ++ trails_along trail p

module _ (K : Links) (trail : ℕ → List WordEntry) (f s t : ℕ) where
  -- the entries of the slots strictly below the meeting point, on the way out and on the way in
  abbrev pub entries_out : List WordEntry
  entries_out = trails_along trail (legs K f s t).out

  abbrev pub entries_into : List WordEntry
  entries_into = trails_along trail (legs K f s t).into

  unfoldable pub move_words : Words → Words
  move_words a = moved entries_out entries_into a

  unfoldable pub move_passed : ℕ
  move_passed = length entries_out + length entries_into
