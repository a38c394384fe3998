-- Dereferencing, binding and unifying in words: document 01, "Shared memory" on values and "The steps", "Unifying". Assumes nothing.
use Rattle.std.specs.Prelude.{true, false, cond, List, ℕ, zero, suc, ◌+◌, eqb, ltb, get_or, set, Result, Ok, Err}
use Rattle.model.specs.declared.VarNo.{VarNo}
use Rattle.model.specs.declared.CellAddr.{CellAddr}
use Rattle.model.specs.declared.Found.{Found}
use Rattle.model.specs.declared.Found.TheVariants.{Unbound, Constant}
use Rattle.model.specs.declared.Clash.{Clash as ClashAfter}
use Rattle.model.specs.declared.Pairing.{Pairing}
use Rattle.model.specs.declared.Pairing.TheVariants.{Nothing, Clash, Binds}
use Rattle.model.specs.Fields.{op, variable_number, constant}
use Rattle.model.specs.Memory.{tag, value, ref_word, con_word, cell_of, number_at, value_at}

abbrev pub var_no : ℕ → VarNo
var_no number = record { 0 = number }

abbrev pub cell_addr : ℕ → CellAddr
cell_addr address = record { 0 = address }

-- what a cell says: "its own VNO", for which the array word at that number stands, "a CON, or a REF to a cell"
abbrev pub says : List ℕ → List ℕ → ℕ → ℕ
says array cells address = cond (eqb (tag (get_or cells address 0)) 0) (get_or array (value (get_or cells address 0)) 0) (get_or cells address 0)

-- "an array word 0 means unbound and nothing else"
unfoldable pub found_said : List ℕ → ℕ → ℕ → Found
found_said cells said address = cond (eqb said 0) (Unbound (var_no (value (get_or cells address 0))) (cell_addr address)) (Constant (value said))

-- A REF is to a lower number, so there are at most as many as numbers;
-- past them there would be no answer, and sound memory does not come there
unfoldable pub dereference : ℕ → List ℕ → List ℕ → ℕ → Found
dereference zero array cells address = Constant 0
dereference (suc most) array cells address =
    elim (eqb (tag (says array cells address)) 1) [
      | true ↦ dereference most array cells (value (says array cells address))
      | false ↦ found_said cells (says array cells address) address
    ]

-- an argument word of a slot's clause, dereferenced
unfoldable pub argument_of : List ℕ → List ℕ → ℕ → ℕ → Found
argument_of array cells slot word =
    cond (eqb (op word) 1) (dereference 2048 array cells (cell_of slot (variable_number word))) (Constant (constant word))

-- how unifying ends: with so many trail entries of the child, or in a clash after so many
abbrev pub Unified : Type 0
Unified = Result ℕ ClashAfter

abbrev pub clash : ℕ → ClashAfter
clash count = record { 0 = count }

-- what unifying changes: the worker's array, the cells, the trail, and the entries that the child has so far
pub record Store : Type 0 where
  pub array : List ℕ
  pub cells : List ℕ
  pub trail : List ℕ
  pub unified : Unified

abbrev pub store : List ℕ → List ℕ → List ℕ → Unified → Store
store array cells trail unified = record { array = array; cells = cells; trail = trail; unified = unified }

-- "A binding is conditional if its number is below the child's base: it goes into w's array and, in order, the child's trail.
-- Otherwise it is written into the cell."
unfoldable pub bind : ℕ → ℕ → List ℕ → List ℕ → List ℕ → ℕ → VarNo → CellAddr → ℕ → Store
bind child child_base array cells trail count number address word =
    cond (ltb number.0 child_base)
    (store (set array number.0 word) cells (set (set trail (number_at child count) number.0) (value_at child count) word) (Ok (count + 1)))
    (store array (set cells address.0 word) trail (Ok count))

-- "one unbound variable with itself binds nothing; constants must be equal; an unbound variable takes the constant;
-- of two, the one with the higher number takes a REF to the other"
unfoldable pub pairing : Found → Found → Pairing
pairing (Constant a) (Constant b) = cond (eqb a b) Nothing Clash
pairing (Constant a) (Unbound number address) = Binds number address (con_word a)
pairing (Unbound number address) (Constant b) = Binds number address (con_word b)
pairing (Unbound n a) (Unbound m b) = cond (eqb n.0 m.0) Nothing (cond (ltb n.0 m.0) (Binds m b (ref_word a.0)) (Binds n a (ref_word b.0)))

unfoldable pub unify_pair : ℕ → ℕ → List ℕ → List ℕ → List ℕ → ℕ → Pairing → Store
unify_pair child child_base array cells trail count Nothing = store array cells trail (Ok count)
unify_pair child child_base array cells trail count Clash = store array cells trail (Err (clash count))
unify_pair child child_base array cells trail count (Binds number address word) = bind child child_base array cells trail count number address word

-- a head argument with a goal's argument, both dereferenced
unfoldable pub unify_words : ℕ → ℕ → ℕ → ℕ → ℕ → List ℕ → List ℕ → List ℕ → ℕ → Store
unify_words child child_base slot head goal array cells trail count =
    unify_pair child child_base array cells trail count (pairing (argument_of array cells child head) (argument_of array cells slot goal))

-- the rest of a head is unified where the arguments before it were
abbrev pub onwards : (List ℕ → List ℕ → List ℕ → ℕ → Store) → List ℕ → List ℕ → List ℕ → Unified → Store
onwards next array cells trail (Ok count) = next array cells trail count
onwards next array cells trail (Err clash) = store array cells trail (Err clash)

-- "head arguments are unified with the first goal's, left to right": so many, the head's from a place of the image on, the goal's from a place of its words on
unfoldable pub unify_head : ℕ → List ℕ → List ℕ → ℕ → ℕ → ℕ → ℕ → ℕ → List ℕ → List ℕ → List ℕ → ℕ → Store
unify_head zero image words child child_base slot head goal array cells trail count = store array cells trail (Ok count)
unify_head (suc arity) image words child child_base slot head goal array cells trail count =
    let s = unify_words child child_base slot (get_or image head 0) (get_or words goal 0) array cells trail count in
    onwards (unify_head arity image words child child_base slot (head + 1) (goal + 1)) s.array s.cells s.trail s.unified
