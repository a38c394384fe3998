-- Definitions: what climbing needs of node words: another used slot's parent is used, one less deep, and its variables' numbers end where the slot's begin.
-- Document 01, "Refused calls", condition 21. Assumes nothing.
use Rattle.std.specs.Prelude.{◌≡◌, List, ℕ, suc, ◌+◌, ◌<◌}
use Rattle.model.specs.Memory.{used, parent, depth, own_variables, base}

-- a used slot other than the root: "a used parent, depth one more", "base is the parent's base plus the parent's variables"
pub record Rises (nodes : List ℕ) (slot : ℕ) : Type 0 where
  pub taken : used nodes (parent nodes slot) ≡ 1
  pub deeper : depth nodes slot ≡ suc (depth nodes (parent nodes slot))
  pub based : base nodes slot ≡ base nodes (parent nodes slot) + own_variables nodes (parent nodes slot)

-- what climbing needs of node words
pub record Links (nodes : List ℕ) : Type 0 where
  pub flat : depth nodes 0 ≡ 0
  pub rises : (slot : ℕ) → slot < 64 → used nodes slot ≡ 1 → (slot ≡ 0 → ⊥) → Rises nodes slot
