-- Definitions: the slots on the path to a used slot, and what is known of each.
-- Document 01, "Refused calls", condition 21, "on the path". Assumes nothing.
use Rattle.std.specs.Prelude.{◌≡◌, List}
use Rattle.std.proofs.Math.Bool.{true}
use Prim.Native.Nat.{ℕ, ◌+◌, ◌≤◌, ◌<◌}
use Rattle.model.specs.Memory.{used, depth, own_variables, base}
use Rattle.model.specs.Damage.{on_path}

-- a slot is on the path to a slot
abbrev pub OnPath : List ℕ → ℕ → ℕ → Type 0
OnPath nodes slot other = on_path (depth nodes slot) nodes slot other ≡ true

-- what is known of a slot on the path to a slot
pub record Ancestor (nodes : List ℕ) (slot other : ℕ) : Type 0 where
  pub fits : other < 64
  pub taken : used nodes other ≡ 1
  pub ends : base nodes other + own_variables nodes other ≤ base nodes slot + own_variables nodes slot
  pub path : (third : ℕ) → OnPath nodes other third → OnPath nodes slot third
