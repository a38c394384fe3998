-- What is kept of each slot: a key, and what was found for it before. Nothing is kept where what was found is 0. Assumes nothing.
use Rattle.std.specs.Prelude.{◌≡◌, cond, List, Option, Some, None, ℕ, ◌+◌, ◌*◌, eqb, get_or, set}

abbrev pub key_at : List ℕ → ℕ → ℕ
key_at memo slot = get_or memo (2 * slot) 0

abbrev pub found_at : List ℕ → ℕ → ℕ
found_at memo slot = get_or memo (2 * slot + 1) 0

-- what was found for a key: nothing where another is kept, or where 0 is
unfoldable pub recalled : List ℕ → ℕ → ℕ → Option ℕ
recalled memo slot key = cond (eqb (key_at memo slot) key) (cond (eqb (found_at memo slot) 0) None (Some (found_at memo slot))) None

unfoldable pub kept : List ℕ → ℕ → ℕ → ℕ → List ℕ
kept memo slot key found = set (set memo (2 * slot) key) (2 * slot + 1) found

-- whatever is kept is true of its key: nothing that a step changes is asked, so it stays true
abbrev pub Recalls : (ℕ → ℕ → Type 0) → List ℕ → Type 0
Recalls tells memo = (slot : ℕ) → (found_at memo slot ≡ 0 → ⊥) → tells (key_at memo slot) (found_at memo slot)
