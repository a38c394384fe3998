-- Definitions: the cells of the variables on the path to a node, their numbers, and that a REF leads to a variable on the path with a lower number.
-- Document 01, "Shared memory" on values, and "Refused calls", condition 21, on cells and trail values. Assumes nothing.
use Rattle.std.specs.Prelude.{◌≡◌, true, List, ℕ, ◌+◌, ◌/◌, ◌%◌, ◌<◌}
use Rattle.model.specs.Memory.{depth, own_variables, base, tag, value}
use Rattle.model.specs.Damage.{on_path}

-- the addresses of the cells of the variables on the path to a node
abbrev pub Reach : List ℕ → ℕ → ℕ → Type 0
Reach nodes node address = (address < 2048) × (address % 32 < own_variables nodes (address / 32)) × (on_path (depth nodes node) nodes node (address / 32) ≡ true)

-- the number of the variable whose cell has an address
abbrev pub number_of : List ℕ → ℕ → ℕ
number_of nodes address = base nodes (address / 32) + address % 32

-- a REF that stands for a variable with a number leads to a variable on the path with a lower one
abbrev pub Leads : List ℕ → ℕ → ℕ → ℕ → Type 0
Leads nodes node number word = tag word ≡ 1 → Reach nodes node (value word) × (number_of nodes (value word) < number)
