-- Definitions: cells and one worker's array, each word unbound, a constant, or a reference to a cell's address; dereferencing, binding and unifying
-- over them, by a numbering of the cells; a trail installed over an array and taken out again.
-- Renders "Values", "Unifying" and "Going to the parent" of document 01 on decoded words. Assumes nothing.
use Rattle.std.specs.Prelude.{Bool, false, true, List, [], ◌++◌, ◌∷◌, suc, zero, ℕ, eqb, ltb}
use Rattle.std.proofs.Math.Option.{Option, none, some}
use Rattle.model.specs.Definition.{Binding, Dereferenced, Value, const, constant, ref, unbound}
use Rattle.model.specs.Maps.{put}
use Rattle.model.specs.Rules.{Argument, con, var}

-- a value as a word spells it: unbound (its own VNO in a cell, 0 in an array), CON, REF to a cell's address
pub data Word : Type 0 where
  unbound_word : Word
  con_word : ℕ → Word
  ref_word : ℕ → Word

pub record Store : Type 0 where
  pub cell : ℕ → Word
  pub array : ℕ → Word

pub data Got : Type 0 where
  got_constant : ℕ → Got
  got_unbound : ℕ → Got

unfoldable pub cell_else_array : Word → Word → Word
cell_else_array unbound_word y = y
cell_else_array (con_word c) y = con_word c
cell_else_array (ref_word a) y = ref_word a

-- the trail: number and word, in order
pub record TrailEntry : Type 0 where
  pub number : ℕ
  pub word : Word

pub record Shown : Type 0 where
  pub number : ℕ
  pub value : Option Value

-- the conditional ones of some bindings
unfoldable pub conditionals_shown : List Binding → List Shown
conditionals_shown [] = []
conditionals_shown (b ∷ B) = elim b.conditional [ true ↦ record { number = b.number; value = some b.value } ∷ conditionals_shown B | false ↦ conditionals_shown B ]

pub record Work : Type 0 where
  pub store : Store
  pub trail : List TrailEntry

unfoldable pub with_entry : Bool → List TrailEntry → ℕ → Word → List TrailEntry
with_entry true t n v = t ++ (record { number = n; word = v } ∷ [])
with_entry false t n v = t

-- install a trail over an array
unfoldable pub install_map : List TrailEntry → (ℕ → Word) → ℕ → Word
install_map [] f = f
install_map (m ∷ t) f = install_map t (put f m.number m.word)

-- take a trail out, the last first
unfoldable pub undo_map : List TrailEntry → (ℕ → Word) → ℕ → Word
undo_map [] f = f
undo_map (m ∷ t) f = put (undo_map t f) m.number unbound_word

module _ (number : ℕ → ℕ) where
  unfoldable pub value : Word → Option Value
  value unbound_word = none
  value (con_word c) = some (const c)
  value (ref_word a) = some (ref (number a))

  unfoldable pub lookup_stored : Store → ℕ → Word
  unfolding cell_else_array
  lookup_stored S a = cell_else_array (S.cell a) (S.array (number a))

  unfoldable pub dereference_stored : ℕ → Store → ℕ → Got
  dereference_stored zero S a = got_unbound a
  dereference_stored (suc f) S a = elim (lookup_stored S a) [ unbound_word ↦ got_unbound a | con_word c ↦ got_constant c | ref_word b ↦ dereference_stored f S b ]

  unfoldable pub by_number : Got → Dereferenced
  by_number (got_constant c) = constant c
  by_number (got_unbound a) = unbound (number a)

  -- binding an unbound cell: below base into the array, else into the cell
  unfoldable pub bind_stored : ℕ → Store → ℕ → Word → Store
  bind_stored base S a v =
      elim (ltb (number a) base) [
        | true ↦ record { cell = S.cell; array = put S.array (number a) v }
        | false ↦ record { cell = put S.cell a v; array = S.array }
      ]

  unfoldable pub shown_entries : List TrailEntry → List Shown
  shown_entries [] = []
  shown_entries (m ∷ t) = record { number = m.number; value = value m.word } ∷ shown_entries t

  unfoldable pub bind_and_trail : ℕ → Work → ℕ → Word → Work
  bind_and_trail base W a v = record { store = bind_stored base W.store a v; trail = with_entry (ltb (number a) base) W.trail (number a) v }

  unfoldable pub unify_stored : ℕ → Work → Got → Got → Option Work
  unify_stored base W (got_constant a) (got_constant b) = elim (eqb a b) [ true ↦ some W | false ↦ none ]
  unify_stored base W (got_constant a) (got_unbound y) = some (bind_and_trail base W y (con_word a))
  unify_stored base W (got_unbound x) (got_constant b) = some (bind_and_trail base W x (con_word b))
  unify_stored base W (got_unbound x) (got_unbound y) =
      elim (eqb (number x) (number y)) [
        | true ↦ some W
        | false ↦ elim (ltb (number x) (number y)) [ true ↦ some (bind_and_trail base W y (ref_word x)) | false ↦ some (bind_and_trail base W x (ref_word y)) ]
      ]

  unfoldable pub dereference_argument_stored : Store → (ℕ → ℕ) → Argument → Got
  dereference_argument_stored S cell_at (con c) = got_constant c
  dereference_argument_stored S cell_at (var i) = dereference_stored (suc (number (cell_at i))) S (cell_at i)

  -- head_cell, goal_cell: the cell of variable i of the head's clause and of the goal's
  unfoldable pub unify_head_stored : ℕ → Work → (ℕ → ℕ) → List Argument → (ℕ → ℕ) → List Argument → Option Work
  unify_head_stored base W head_cell [] goal_cell [] = some W
  unify_head_stored base W head_cell [] goal_cell (g ∷ gs) = none
  unify_head_stored base W head_cell (h ∷ hs) goal_cell [] = none
  unify_head_stored base W head_cell (h ∷ hs) goal_cell (g ∷ gs) =
      elim (unify_stored base W (dereference_argument_stored W.store head_cell h) (dereference_argument_stored W.store goal_cell g)) [ none ↦ none | some W' ↦ unify_head_stored base W' head_cell hs goal_cell gs ]
