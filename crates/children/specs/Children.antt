-- How many children each node has, and what a change of one slot does to it. It serves document 01, "Has N a child" of rules 1 to 5 of the steps:
-- a table of these counts answers that question by one word. Assumes nothing.
use Rattle.std.specs.Prelude.{◌≡◌, cond, ◌&&◌, List, ℕ, zero, suc, ◌+◌, ◌-◌, ◌*◌, ◌<◌, eqb, ltb, leb, length, get_or, set}
use Rattle.model.specs.declared.Kind.TheVariants.{Node0}
use Rattle.model.specs.Fields.{widths_of, field}

-- a node's word 0: is the slot used, and whose child is it
abbrev pub used_of : ℕ → ℕ
used_of word = field (widths_of Node0) word 0

abbrev pub parent_of : ℕ → ℕ
parent_of word = field (widths_of Node0) word 1

-- 1 where a slot with this word 0 is a child of the node, else 0
unfoldable pub is_child : ℕ → ℕ → ℕ
is_child word node = cond (eqb (used_of word) 1 && eqb (parent_of word) node) 1 0

-- the node's children among so many slots from a number on
unfoldable pub children_from : ℕ → List ℕ → ℕ → ℕ → ℕ
children_from zero nodes node slot = 0
children_from (suc left) nodes node slot = is_child (get_or nodes (4 * slot) 0) node + children_from left nodes node (slot + 1)

-- each word of the table is its node's count of children; the root, slot 0, is nobody's child. A table may be of any length, an empty one too
abbrev pub Counted : List ℕ → List ℕ → Type 0
Counted nodes children = (node : ℕ) → node < length children → get_or children node 0 ≡ children_from 63 nodes node 1

-- word 0 of every slot but one is the same
abbrev pub Agree : ℕ → List ℕ → List ℕ → Type 0
Agree changed old new = (slot : ℕ) → (slot ≡ changed → ⊥) → get_or old (4 * slot) 0 ≡ get_or new (4 * slot) 0

-- one child less at the parent that word 0 names
unfoldable pub lost : List ℕ → ℕ → List ℕ
lost children word = cond (eqb (used_of word) 1) (set children (parent_of word) (get_or children (parent_of word) 0 - 1)) children

-- one child more; no node has more than 63, so a count that is right is never left as it was
unfoldable pub gained : List ℕ → ℕ → List ℕ
gained children word =
    cond (eqb (used_of word) 1 && ltb (get_or children (parent_of word) 0) 64) (set children (parent_of word) (get_or children (parent_of word) 0 + 1)) children

-- the table after a slot's word 0 has changed
unfoldable pub followed : List ℕ → ℕ → ℕ → ℕ → List ℕ
followed children slot before after = cond (eqb slot 0) children (cond (leb 64 slot) children (gained (lost children before) after))
