-- Definitions: what is known before a head is unified: the cells of the path lead only to each other, and the child's slot is blank.
-- Document 01, rule 7, "Failure: Tried; only that count has changed." Assumes nothing.
use Rattle.std.specs.Prelude.{◌≡◌, ◌⊎◌, List, ℕ, ◌+◌, ◌*◌, ◌≤◌, ◌<◌, length, get_or}
use Rattle.model.specs.Fields.{op, variable_number}
use Rattle.model.specs.Memory.{tag, value, first_of, cell_of}

-- a cell of the path: not the child's; a REF in it, or in the array word of its number, is to such a cell; its number is below the child's base
pub record PathCell (Reach : ℕ → Type 0) (child child_base own : ℕ) (array cells : List ℕ) (address : ℕ) : Type 0 where
  pub fits : address < 536870912
  pub aside : (address < first_of child) ⊎ (first_of child + own ≤ address)
  pub linked : tag (get_or cells address 0) ≡ 1 → Reach (value (get_or cells address 0))
  pub below : tag (get_or cells address 0) ≡ 0 → value (get_or cells address 0) < child_base
  pub bound : tag (get_or cells address 0) ≡ 0 → tag (get_or array (value (get_or cells address 0)) 0) ≡ 1 → Reach (value (get_or array (value (get_or cells address 0)) 0))

-- before a head is unified: the path's cells, the goal's and the head's variables, and the child's slot, which is free
pub record Ready (Reach : ℕ → Type 0) (image words : List ℕ) (child child_base slot own arity head goal : ℕ) (array cells trail : List ℕ) : Type 0 where
  pub closed : (address : ℕ) → Reach address → PathCell Reach child child_base own array cells address
  pub goals : (k : ℕ) → k < arity → op (get_or words (goal + k) 0) ≡ 1 → Reach (cell_of slot (variable_number (get_or words (goal + k) 0)))
  pub heads : (k : ℕ) → k < arity → op (get_or image (head + k) 0) ≡ 1 → variable_number (get_or image (head + k) 0) < own
  pub unbound : (k : ℕ) → k < own → get_or array (child_base + k) 0 ≡ 0
  pub bare : (k : ℕ) → k < own → get_or cells (first_of child + k) 0 ≡ 0
  pub blank : (k : ℕ) → k < 2 * arity → get_or trail (first_of child + k) 0 ≡ 0
  pub cells_reach : first_of child + own ≤ length cells
  pub trail_reaches : first_of child + 2 * arity ≤ length trail
  pub numbers_fit : child_base + own ≤ 536870912
  pub cells_fit : first_of child + own ≤ 536870912
