-- Definitions: what is true of a loaded machine at any time, and what is true of it while one worker steps alone: every used slot is on that worker's
-- path, every report comes before all that is pending, and the other workers stand at the root, so that rule 3 never fits.
-- Serves demand 2. Assumes nothing.
use mathlib.Core.List.{Memᴰ, ◌++◌}
use Rattle.std.specs.Prelude.{◌≢◌, ◌≡◌, ◌<◌, ℕ}
use Rattle.std.proofs.Math.Option.{some}
use Rattle.model.specs.Demands.{Before, ClauseOrder}
use Rattle.model.specs.Machine.{Machine, Size, Slots, UsedSlot}
use Rattle.model.specs.Search.{ClausePath, Search}
use Rattle.theory.specs.Tree.Slots.{Books, Pending, Shape}

module _ (T : Search) where
  abbrev pub InUse : Slots T → ℕ → Type 0
  InUse S s = (e : UsedSlot T) × (S s ≡ some e)

  module _ (Z : Size) where
    -- what is true at any time after a load
    pub record Good (M : Machine T) : Type 0 where
      pub shape : Shape T M.slots
      pub books : Books T M.slots M.reported
      pub low : (s : ℕ) (e : UsedSlot T) → M.slots s ≡ some e → s < Z.slots
      pub stands : (w : ℕ) → w < Z.workers → (e : UsedSlot T) × (M.slots (M.at w) ≡ some e)

    -- what is true while w steps alone
    pub record Lone (M : Machine T) (w : ℕ) : Type 0 where
      pub good : Good M
      pub ent : UsedSlot T
      pub here : M.slots (M.at w) ≡ some ent
      pub prefix : (s : ℕ) (e : UsedSlot T) → M.slots s ≡ some e → (r : ClausePath) × (ent.path ≡ e.path ++ r)
      pub before : (d p : ClausePath) → Memᴰ d M.reported → Pending T M.slots p → Before d p
      pub ordered : ClauseOrder M.reported
      pub idle : (v : ℕ) → v ≢ w → M.at v ≡ 0
