-- Definition: what is known of a variable on the path to a worker's node: what its cell and the worker's array say stays on the path, at lower numbers.
-- Document 01, "Refused calls", condition 21. Assumes nothing.
use Rattle.std.specs.Prelude.{◌≡◌}
use Prim.Native.Nat.{ℕ, ◌+◌, ◌/◌, ◌<◌}
use Rattle.std.proofs.Math.ListN.{get_or}
use Rattle.model.specs.Memory.{Memory, used, own_variables, base, tag, value, array_of}
use Rattle.paths.specs.Values.{Reach, number_of}

-- what is known of a variable on the path to a worker's node, whose cell has the address
pub record Closed (m : Memory) (worker address : ℕ) : Type 0 where
  -- its slot is used, so no free slot
  pub taken : used m.nodes (address / 32) ≡ 1
  pub not_free : (child : ℕ) → (used m.nodes child ≡ 1 → ⊥) → address / 32 ≡ child → ⊥
  -- a VNO in the cell is the variable's own number, below the base of every child of the node
  pub own : tag (get_or m.cells address 0) ≡ 0 → value (get_or m.cells address 0) ≡ number_of m.nodes address
  pub below : tag (get_or m.cells address 0) ≡ 0
      → value (get_or m.cells address 0) < base m.nodes (get_or m.workers worker 0) + own_variables m.nodes (get_or m.workers worker 0)
  -- a REF in the array at that number, and a REF in the cell, lead to a variable on the path
  pub bound : tag (get_or m.cells address 0) ≡ 0 → tag (get_or (array_of m.arrays worker) (value (get_or m.cells address 0)) 0) ≡ 1
      → Reach m.nodes (get_or m.workers worker 0) (value (get_or (array_of m.arrays worker) (value (get_or m.cells address 0)) 0))
  pub refers : tag (get_or m.cells address 0) ≡ 1 → Reach m.nodes (get_or m.workers worker 0) (value (get_or m.cells address 0))
  -- and its number is lower
  pub bound_lower : tag (get_or m.cells address 0) ≡ 0 → tag (get_or (array_of m.arrays worker) (value (get_or m.cells address 0)) 0) ≡ 1
      → number_of m.nodes (value (get_or (array_of m.arrays worker) (value (get_or m.cells address 0)) 0)) < number_of m.nodes address
  pub refers_lower : tag (get_or m.cells address 0) ≡ 1 → number_of m.nodes (value (get_or m.cells address 0)) < number_of m.nodes address
