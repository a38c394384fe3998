-- Load, moves and reading an answer, on words: document 01, "The steps", last paragraph, "Shared memory" on the root, and "Refused calls" on load. Assumes nothing.
use Rattle.std.specs.Prelude.{true, false, cond, List, [], ◌∷◌, ◌++◌, ℕ, zero, suc, ◌+◌, eqb, ltb, length, get_or, set, replicate}
use Rattle.model.specs.declared.Kind.TheVariants.{Node0, Node2, Con, Var}
use Rattle.model.specs.declared.Found.{Found}
use Rattle.model.specs.declared.Found.TheVariants.{Unbound, Constant}
use Rattle.model.specs.Fields.{variables}
use Rattle.model.specs.Memory.{Memory, memory, parent, depth, entries, word_of, cell_of, array_of, with_array}
use Rattle.model.specs.Terms.{dereference}
use Rattle.model.specs.Steps.{undone, laid}

-- "Load sets memory afresh, all workers at slot 0": "the root is slot 0, parent 0, depth 0, clause position 0, base 0", its first goal the query's
unfoldable pub loaded : List ℕ → Memory
loaded query =
    memory (set (set (replicate 256 0) 0 (word_of Node0 (1 ∷ 0 ∷ 0 ∷ 0 ∷ variables (get_or query 0 0) ∷ 0 ∷ []))) 2 (word_of Node2 (1 ∷ 0 ∷ 0 ∷ 0 ∷ 0 ∷ [])))
    (laid (variables (get_or query 0 0)) 0 0 (replicate 2048 0)) (replicate 2048 0) (replicate 8192 0) (replicate 4 0)

-- where two paths to the root meet: the deeper slot climbs, at most so often
unfoldable pub meeting : ℕ → List ℕ → ℕ → ℕ → ℕ
meeting zero nodes slot other = slot
meeting (suc most) nodes slot other =
    elim (eqb slot other) [
      | true ↦ slot
      | false ↦ elim (ltb (depth nodes slot) (depth nodes other)) [ true ↦ meeting most nodes slot (parent nodes other) | false ↦ meeting most nodes (parent nodes slot) other ]
    ]

abbrev pub common_ancestor : List ℕ → ℕ → ℕ → ℕ
common_ancestor nodes slot other = meeting (depth nodes slot + depth nodes other) nodes slot other

-- an array, and the trail entries passed
pub record Leg : Type 0 where
  pub array : List ℕ
  pub passed : ℕ

abbrev pub leg : List ℕ → ℕ → Leg
leg array passed = record { array = array; passed = passed }

-- so many trail entries, from a trail word on, put into an array
unfoldable pub installed : ℕ → List ℕ → ℕ → List ℕ → List ℕ
installed zero trail at array = array
installed (suc count) trail at array = installed count trail (at + 2) (set array (get_or trail at 0) (get_or trail (at + 1) 0))

-- a walk up from a slot to an ancestor, over at most so many slots, each of which changes the array by its trail entries
unfoldable pub climbed : (ℕ → List ℕ → ℕ → List ℕ → List ℕ) → ℕ → List ℕ → List ℕ → ℕ → ℕ → List ℕ → ℕ → Leg
climbed change zero nodes trail ancestor slot array passed = leg array passed
climbed change (suc most) nodes trail ancestor slot array passed =
    elim (eqb slot ancestor) [
      | true ↦ leg array passed
      | false ↦
          climbed change most nodes trail ancestor (parent nodes slot) (change (entries nodes slot) trail (cell_of slot 0) array) (passed + entries nodes slot)
    ]

pub record Moved : Type 0 where
  pub passed : ℕ
  pub after : Memory

abbrev pub moved : ℕ → Memory → Moved
moved passed after = record { passed = passed; after = after }

-- a move's two legs for one worker's array: up to the common ancestor, taking entries out, and down from it, putting entries in
unfoldable pub legs : List ℕ → List ℕ → ℕ → ℕ → List ℕ → Leg
legs nodes trail here target array =
    let ancestor = common_ancestor nodes here target in
    let up = climbed undone (depth nodes here) nodes trail ancestor here array 0 in
    climbed installed (depth nodes target) nodes trail ancestor target up.array up.passed

-- "a move takes w to any used slot and returns the entries passed on both legs"
unfoldable pub move : Memory → ℕ → ℕ → Moved
move m worker target =
    let both = legs m.nodes m.trail (get_or m.workers worker 0) target (array_of m.arrays worker) in
    moved both.passed (memory m.nodes m.cells m.trail (with_array m.arrays worker both.array) (set m.workers worker target))

-- the place of a number in a list, its length where it is not there
unfoldable pub place_of : List ℕ → ℕ → ℕ
place_of [] number = 0
place_of (first ∷ rest) number = elim (eqb first number) [ true ↦ 0 | false ↦ suc (place_of rest number) ]

unfoldable pub with_number : List ℕ → ℕ → List ℕ
with_number seen number = cond (eqb (place_of seen number) (length seen)) (seen ++ (number ∷ [])) seen

-- "CON, or VAR renumbered by first appearance"
unfoldable pub answer_word : List ℕ → Found → ℕ
answer_word seen (Constant constant) = word_of Con (2 ∷ constant ∷ [])
answer_word seen (Unbound number address) = word_of Var (1 ∷ 0 ∷ place_of seen number.0 ∷ [])

unfoldable pub seen_with_found : List ℕ → Found → List ℕ
seen_with_found seen (Constant constant) = seen
seen_with_found seen (Unbound number address) = with_number seen number.0

-- one word for each of so many query variables, from a number on
unfoldable pub answer_from : ℕ → List ℕ → List ℕ → ℕ → List ℕ → List ℕ
answer_from zero array cells variable seen = []
answer_from (suc left) array cells variable seen =
    let found = dereference 2048 array cells (cell_of 0 variable) in
    answer_word seen found ∷ answer_from left array cells (variable + 1) (seen_with_found seen found)

-- "reading an answer writes one image word for each query variable"
unfoldable pub answer : List ℕ → Memory → ℕ → List ℕ
answer query m worker = answer_from (variables (get_or query 0 0)) (array_of m.arrays worker) m.cells 0 []
