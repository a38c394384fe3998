-- The shared memory as words: document 01, "Shared memory". Reading past the end gives 0 and storing past the end does nothing,
-- so that every definition holds for all words and lengths. Assumes nothing.
use Rattle.std.specs.Prelude.{List, [], ◌∷◌, ◌++◌, ℕ, suc, zero, ◌+◌, ◌*◌, ◌%◌, ◌^◌, get_or, set, take, drop}
use Rattle.model.specs.declared.Kind.{Kind}
use Rattle.model.specs.declared.Kind.TheVariants.{Node0, Node1, Node2, Value}
use Rattle.model.specs.Fields.{widths_of, field, join}

-- five lent slices of words
pub record Memory : Type 0 where
  pub nodes : List ℕ
  pub cells : List ℕ
  pub trail : List ℕ
  pub arrays : List ℕ
  pub workers : List ℕ

abbrev pub memory : List ℕ → List ℕ → List ℕ → List ℕ → List ℕ → Memory
memory nodes cells trail arrays workers = record { nodes = nodes; cells = cells; trail = trail; arrays = arrays; workers = workers }

-- "slot s owns 4 node words"
abbrev pub node_word : List ℕ → ℕ → ℕ → ℕ
node_word nodes slot part = get_or nodes (4 * slot + part) 0

-- node word 0
abbrev pub used : List ℕ → ℕ → ℕ
used nodes slot = field (widths_of Node0) (node_word nodes slot 0) 0

abbrev pub parent : List ℕ → ℕ → ℕ
parent nodes slot = field (widths_of Node0) (node_word nodes slot 0) 1

abbrev pub depth : List ℕ → ℕ → ℕ
depth nodes slot = field (widths_of Node0) (node_word nodes slot 0) 2

abbrev pub entries : List ℕ → ℕ → ℕ
entries nodes slot = field (widths_of Node0) (node_word nodes slot 0) 3

abbrev pub own_variables : List ℕ → ℕ → ℕ
own_variables nodes slot = field (widths_of Node0) (node_word nodes slot 0) 4

-- node word 1
abbrev pub base : List ℕ → ℕ → ℕ
base nodes slot = field (widths_of Node1) (node_word nodes slot 1) 0

abbrev pub clause_position : List ℕ → ℕ → ℕ
clause_position nodes slot = field (widths_of Node1) (node_word nodes slot 1) 2

-- node word 2
abbrev pub has_goal : List ℕ → ℕ → ℕ
has_goal nodes slot = field (widths_of Node2) (node_word nodes slot 2) 0

abbrev pub frame : List ℕ → ℕ → ℕ
frame nodes slot = field (widths_of Node2) (node_word nodes slot 2) 1

abbrev pub goal_index : List ℕ → ℕ → ℕ
goal_index nodes slot = field (widths_of Node2) (node_word nodes slot 2) 2

abbrev pub tried : List ℕ → ℕ → ℕ
tried nodes slot = field (widths_of Node2) (node_word nodes slot 2) 3

-- a word made of its fields, each cut to its width; in sound memory nothing is cut
unfoldable pub cut_to : List ℕ → List ℕ → List ℕ
cut_to [] values = []
cut_to (width ∷ widths) [] = []
cut_to (width ∷ widths) (value ∷ values) = value % 2 ^ width ∷ cut_to widths values

unfoldable pub word_of : Kind → List ℕ → ℕ
word_of kind values = join (widths_of kind) (cut_to (widths_of kind) values)

-- "Values: tag 3, value 29. Tags: VNO 0, REF 1, CON 2."
abbrev pub tag : ℕ → ℕ
tag word = field (widths_of Value) word 0

abbrev pub value : ℕ → ℕ
value word = field (widths_of Value) word 1

abbrev pub vno_word : ℕ → ℕ
vno_word number = word_of Value (0 ∷ number ∷ [])

abbrev pub ref_word : ℕ → ℕ
ref_word address = word_of Value (1 ∷ address ∷ [])

abbrev pub con_word : ℕ → ℕ
con_word constant = word_of Value (2 ∷ constant ∷ [])

-- "32 cells from 32s and 32 trail words from 32s"
abbrev pub first_of : ℕ → ℕ
first_of slot = 32 * slot

abbrev pub cell_of : ℕ → ℕ → ℕ
cell_of slot variable = 32 * slot + variable

abbrev pub number_at : ℕ → ℕ → ℕ
number_at slot entry = 32 * slot + 2 * entry

abbrev pub value_at : ℕ → ℕ → ℕ
value_at slot entry = 32 * slot + 2 * entry + 1

-- "worker w's array is the 2,048 words that start at 2,048 w"
abbrev pub array_of : List ℕ → ℕ → List ℕ
array_of arrays worker = take 2048 (drop (2048 * worker) arrays)

abbrev pub with_array : List ℕ → ℕ → List ℕ → List ℕ
with_array arrays worker array = take (2048 * worker) arrays ++ (array ++ drop 2048 (drop (2048 * worker) arrays))

-- so many words from a place on are 0
unfoldable pub cleared : ℕ → ℕ → List ℕ → List ℕ
cleared zero at words = words
cleared (suc count) at words = cleared count (at + 1) (set words at 0)
