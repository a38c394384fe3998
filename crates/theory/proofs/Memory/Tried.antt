-- Unifying in cells and array, and moves over slots, tried on small memories.
-- Serves P8, P10 and P11 of document 01's bench examples. Assumes nothing.
use Rattle.std.specs.Prelude.{Bool, ◌&&◌, false, true, List, [], ◌++◌, ◌∷◌, ◌*◌, ◌+◌, ◌-◌, ℕ, T, eqb, ltb}
use Rattle.std.proofs.Math.Option.{Option, none, some}
use Rattle.model.specs.Rules.{Argument, con, var}
use Rattle.theory.specs.Memory.Arrays.{WordEntry, install, moved, undo, walk_words}
use Rattle.theory.specs.Memory.Meet.{Links, legs, path, path_to}
use Rattle.theory.specs.Memory.Moves.{move_passed, move_words, trails_along}
use Rattle.theory.specs.Memory.Store.{TrailEntry, Word, Work, bind_and_trail, bind_stored, cell_else_array, con_word, dereference_argument_stored, dereference_stored, lookup_stored, ref_word, unbound_word, unify_head_stored, unify_stored, with_entry}

-- The goal's frame is a slot below 5 with base 0 and two variables; the child is slot 5, with base 2.
abbrev cell_number : ℕ → ℕ → ℕ
cell_number frame a = elim (ltb a 160) [ true ↦ a - 32 * frame | false ↦ 2 + (a - 160) ]

abbrev blank : Work
blank = record { store = record { cell = λ a. unbound_word; array = λ n. unbound_word }; trail = [] }

abbrev word_number : Word → ℕ
word_number unbound_word = 0
word_number (con_word c) = 0x40000000 + c
word_number (ref_word a) = 0x20000000 + a

abbrev trail_numbers : List TrailEntry → List ℕ
trail_numbers [] = []
trail_numbers (m ∷ t) = m.number ∷ word_number m.word ∷ trail_numbers t

-- the trail, then array words 0 and 1, then the child's cells 0 and 1
abbrev work_numbers : Option Work → List ℕ
work_numbers none = 99 ∷ []
work_numbers (some W) =
    trail_numbers W.trail ++ (word_number (W.store.array 0) ∷ word_number (W.store.array 1) ∷ word_number (W.store.cell 160) ∷ word_number (W.store.cell 161) ∷ [])

abbrev same : List ℕ → List ℕ → Bool
same [] [] = true
same [] (y ∷ ys) = false
same (x ∷ xs) [] = false
same (x ∷ xs) (y ∷ ys) = eqb x y && same xs ys

pub record Head : Type 0 where
  pub frame : ℕ
  pub head : List Argument
  pub goal : List Argument
  pub gives : List ℕ

abbrev pub heads : List Head
heads =
    -- P10, then P11
    record { frame = 0; head = var 0 ∷ var 0 ∷ []; goal = var 0 ∷ var 1 ∷ []; gives = 1 ∷ 0x20000000 ∷ 0 ∷ 0x20000000 ∷ 0x20000000 ∷ 0 ∷ [] }
    ∷ record { frame = 0; head = var 0 ∷ var 0 ∷ []; goal = var 0 ∷ var 0 ∷ []; gives = 0 ∷ 0 ∷ 0x20000000 ∷ 0 ∷ [] }
    -- an alias in another frame: numbers are no addresses
    ∷ record { frame = 3; head = var 0 ∷ var 0 ∷ []; goal = var 0 ∷ var 1 ∷ []; gives = 1 ∷ 0x20000060 ∷ 0 ∷ 0x20000060 ∷ 0x20000060 ∷ 0 ∷ [] }
    -- a constant for an ancestor's variable, and one for its own
    ∷ record { frame = 3; head = con 5 ∷ var 0 ∷ []; goal = var 0 ∷ con 7 ∷ []; gives = 0 ∷ 0x40000005 ∷ 0x40000005 ∷ 0 ∷ 0x40000007 ∷ 0 ∷ [] }
    -- constant 0 is no unbound word
    ∷ record { frame = 3; head = con 0 ∷ var 1 ∷ []; goal = var 1 ∷ var 1 ∷ []; gives = 1 ∷ 0x40000000 ∷ 0 ∷ 0x40000000 ∷ 0 ∷ 0x40000000 ∷ [] }
    -- a clash at the second argument
    ∷ record { frame = 3; head = con 1 ∷ con 2 ∷ []; goal = var 0 ∷ con 3 ∷ []; gives = 99 ∷ [] }
    ∷ []

-- slots 1 and 2 are children of the root, slot 3 is a child of slot 2
abbrev tree : Links
tree = record { parent = λ s. elim (eqb s 3) [ true ↦ 2 | false ↦ 0 ]; depth = λ s. elim (eqb s 3) [ true ↦ 2 | false ↦ elim (eqb s 0) [ true ↦ 0 | false ↦ 1 ] ] }

abbrev trails : ℕ → List WordEntry
trails s =
    elim (eqb s 1) [
      | true ↦ record { number = 0; value = 0x40000005 } ∷ []
      | false ↦
          elim (eqb s 2) [
            | true ↦ record { number = 0; value = 0x40000006 } ∷ []
            | false ↦ elim (eqb s 3) [ true ↦ record { number = 1; value = 0x40000007 } ∷ [] | false ↦ [] ]
          ]
    ]

-- from, to, the entries passed, and the two words after
pub record Move : Type 0 where
  pub from : ℕ
  pub to : ℕ
  pub passed : ℕ
  pub words : List ℕ

abbrev pub moves : List Move
moves =
    -- P8
    record { from = 1; to = 2; passed = 2; words = 0x40000006 ∷ 0 ∷ [] }
    ∷ record { from = 1; to = 3; passed = 3; words = 0x40000006 ∷ 0x40000007 ∷ [] }
    ∷ record { from = 3; to = 2; passed = 1; words = 0x40000006 ∷ 0 ∷ [] }
    ∷ record { from = 3; to = 0; passed = 2; words = 0 ∷ 0 ∷ [] }
    ∷ record { from = 2; to = 2; passed = 0; words = 0x40000006 ∷ 0 ∷ [] }
    ∷ []

abbrev all {ℓ} : {A : Type ℓ} → (A → Bool) → List A → Bool
all p [] = true
all p (x ∷ xs) = elim (p x) [ true ↦ all p xs | false ↦ false ]

unfoldable pub head_holds : Head → Bool
head_holds h = same (work_numbers (unify_head_stored (cell_number h.frame) 2 blank (λ i. 160 + i) h.head (λ i. 32 * h.frame + i) h.goal)) h.gives

unfoldable pub move_holds : Move → Bool
move_holds m =
    same (move_words tree trails 9 m.from m.to (walk_words 2 (trails_along trails (path_to tree m.from)))) m.words
    && eqb (move_passed tree trails 9 m.from m.to) m.passed

pub heads-hold : T (all head_holds heads)
unfolding head_holds unify_head_stored unify_stored dereference_argument_stored dereference_stored lookup_stored cell_else_array bind_and_trail bind_stored with_entry
heads-hold = tt

pub moves-hold : T (all move_holds moves)
unfolding move_holds move_words move_passed trails_along walk_words legs path moved install undo
moves-hold = tt
