-- Laws of the counts of children: they answer whether a node has a child, and a change of one slot is followed by two words of the table.
-- They serve document 01, "Has N a child" of rules 1 to 5 of the steps. Assumes nothing.
use Rattle.std.proofs.Common.{◌≡◌, refl, sym, ap, ap₂, ◌∙◌, subst, ⊎_elim, Bool, true, false, cond, not, ◌&&◌, List, [], ◌∷◌, ℕ, zero, suc, ◌+◌, ◌-◌, ◌*◌, ◌≤◌, ◌<◌, arith, eq-or-lt_of_le, add-zero, pos_of_ne-zero, eqb, ltb, leb, length, get_or, set, length-set, get_or-set_same, get_or-set_other, ne_eqb, eqb-true, ltb-false, leb-true, leb-false}
use borrow.Author.Tests.{eqb-false}
use Rattle.words.proofs.Ranges.{left-after, none-left}
use Rattle.model.specs.Steps.{child_from}
use Rattle.children.specs.Children.{used_of, parent_of, is_child, children_from, Counted, Agree, lost, gained, followed}

is_child-bound : (word node : ℕ) → is_child word node ≤ 1
unfolding is_child
is_child-bound word node = go (eqb (used_of word) 1 && eqb (parent_of word) node)
  where
    go : (b : Bool) → cond b 1 0 ≤ 1
    go true = omega arith
    go false = omega arith

pub children_from-bound : (left : ℕ) (nodes : List ℕ) (node slot : ℕ) → children_from left nodes node slot ≤ left
unfolding children_from
children_from-bound zero nodes node slot = omega arith
children_from-bound (suc left) nodes node slot = omega (arith, is_child-bound (get_or nodes (4 * slot) 0) node, children_from-bound left nodes node (slot + 1))

-- the counts are the same where word 0 of each slot counted is
children_from-same : (old new : List ℕ) (node left from : ℕ) → ((slot : ℕ) → from ≤ slot → slot < from + left → get_or old (4 * slot) 0 ≡ get_or new (4 * slot) 0)
    → children_from left old node from ≡ children_from left new node from
unfolding children_from
children_from-same old new node zero from same = refl
children_from-same old new node (suc left) from same =
    ap₂ (λ (word rest : ℕ). is_child word node + rest) (same from (omega arith) (omega arith))
    (children_from-same old new node left (from + 1) (λ slot low high. same slot (omega arith) (omega arith)))

-- a slot that is counted is one of the children counted
children_from-has : (nodes : List ℕ) (node slot left from : ℕ) → from ≤ slot → slot < from + left
    → is_child (get_or nodes (4 * slot) 0) node ≤ children_from left nodes node from
unfolding children_from
children_from-has nodes node slot zero from low high = absurd (omega arith)
children_from-has nodes node slot (suc left) from low high =
    ⊎_elim
    (λ (e : from ≡ slot). subst (λ (k : ℕ). is_child (get_or nodes (4 * k) 0) node ≤ is_child (get_or nodes (4 * from) 0) node + children_from left nodes node (from + 1)) e (omega arith))
    (λ (less : from < slot). omega (arith, children_from-has nodes node slot left (from + 1) (omega arith) (omega arith)))
    (eq-or-lt_of_le low)

-- one slot changes: its child is exchanged
children_from-moved : (old new : List ℕ) (node slot left from : ℕ) → Agree slot old new → from ≤ slot → slot < from + left
    → children_from left new node from + is_child (get_or old (4 * slot) 0) node ≡ children_from left old node from + is_child (get_or new (4 * slot) 0) node
unfolding children_from
children_from-moved old new node slot zero from agree low high = absurd (omega arith)
children_from-moved old new node slot (suc left) from agree low high =
    ⊎_elim
    (λ (e : from ≡ slot).
    let rest = children_from-same old new node left (from + 1) (λ k lower higher. agree k (λ (same : k ≡ slot). omega arith)) in
    subst
    (λ (k : ℕ). is_child (get_or new (4 * from) 0) node + children_from left new node (from + 1) + is_child (get_or old (4 * k) 0) node
    ≡ is_child (get_or old (4 * from) 0) node + children_from left old node (from + 1) + is_child (get_or new (4 * k) 0) node)
    e (omega (arith, rest)))
    (λ (less : from < slot).
    let head : is_child (get_or old (4 * from) 0) node ≡ is_child (get_or new (4 * from) 0) node = ap (λ (word : ℕ). is_child word node) (agree from (λ (same : from ≡ slot). omega arith)) in
    omega (arith, head, children_from-moved old new node slot left (from + 1) agree (omega arith) (omega arith)))
    (eq-or-lt_of_le low)

-- is a node's count of children not 0: the question that rules 1 to 5 ask
pub child_from-counts : (left : ℕ) (nodes : List ℕ) (node slot : ℕ) → child_from left nodes node slot ≡ not (eqb (children_from left nodes node slot) 0)
unfolding child_from children_from is_child
child_from-counts zero nodes node slot = refl
child_from-counts (suc left) nodes node slot =
    ap (λ (at : ℕ). elim (eqb (used_of (get_or nodes at 0)) 1 && eqb (parent_of (get_or nodes at 0)) node) [ true ↦ true | false ↦ child_from left nodes node (slot + 1) ]) (add-zero (4 * slot))
    ∙ go (eqb (used_of (get_or nodes (4 * slot) 0)) 1 && eqb (parent_of (get_or nodes (4 * slot) 0)) node) (child_from-counts left nodes node (slot + 1))
  where
    go : (b : Bool) → child_from left nodes node (slot + 1) ≡ not (eqb (children_from left nodes node (slot + 1)) 0)
        → elim b [ true ↦ true | false ↦ child_from left nodes node (slot + 1) ] ≡ not (eqb (cond b 1 0 + children_from left nodes node (slot + 1)) 0)
    go true rest = sym (ap not (ne_eqb (1 + children_from left nodes node (slot + 1)) 0 (λ (e : 1 + children_from left nodes node (slot + 1) ≡ 0). omega arith)))
    go false rest = let same : children_from left nodes node (slot + 1) ≡ 0 + children_from left nodes node (slot + 1) = omega arith in rest ∙ ap (λ (count : ℕ). not (eqb count 0)) same

-- a table's length stays
pub lost-length : (children : List ℕ) (word : ℕ) → length (lost children word) ≡ length children
unfolding lost
lost-length children word = go (eqb (used_of word) 1)
  where
    go : (b : Bool) → length (cond b (set children (parent_of word) (get_or children (parent_of word) 0 - 1)) children) ≡ length children
    go true = length-set children (parent_of word) (get_or children (parent_of word) 0 - 1)
    go false = refl

pub gained-length : (children : List ℕ) (word : ℕ) → length (gained children word) ≡ length children
unfolding gained
gained-length children word = go (eqb (used_of word) 1 && ltb (get_or children (parent_of word) 0) 64)
  where
    go : (b : Bool) → length (cond b (set children (parent_of word) (get_or children (parent_of word) 0 + 1)) children) ≡ length children
    go true = length-set children (parent_of word) (get_or children (parent_of word) 0 + 1)
    go false = refl

-- a word that is stored where it stands changes nothing
set_own : (words : List ℕ) (at : ℕ) → set words at (get_or words at 0) ≡ words
set_own [] at = refl
set_own (word ∷ words) zero = refl
set_own (word ∷ words) (suc at) = ap (λ (rest : List ℕ). word ∷ rest) (set_own words at)

-- a node's own count, where the count of a parent is changed
at-parent : (children : List ℕ) (up node : ℕ) (change : ℕ → ℕ) → node < length children → (here : Bool) → eqb up node ≡ here
    → get_or (set children up (change (get_or children up 0))) node 0 ≡ cond here (change (get_or children node 0)) (get_or children node 0)
at-parent children up node change inside true e =
    subst (λ (k : ℕ). get_or (set children k (change (get_or children k 0))) node 0 ≡ change (get_or children node 0)) (sym (eqb-true up node e))
    (get_or-set_same children node (change (get_or children node 0)) 0 inside)
at-parent children up node change inside false e = get_or-set_other children up node (change (get_or children up 0)) 0 (λ (same : node ≡ up). eqb-false up node e (sym same))

lost-at : (children : List ℕ) (word node : ℕ) → node < length children → get_or (lost children word) node 0 ≡ get_or children node 0 - is_child word node
unfolding lost is_child
lost-at children word node inside = go (eqb (used_of word) 1) (eqb (parent_of word) node) refl
  where
    go : (held here : Bool) → eqb (parent_of word) node ≡ here
        → get_or (cond held (set children (parent_of word) (get_or children (parent_of word) 0 - 1)) children) node 0 ≡ get_or children node 0 - cond (held && here) 1 0
    go true true e = at-parent children (parent_of word) node (λ (count : ℕ). count - 1) inside true e
    go true false e = at-parent children (parent_of word) node (λ (count : ℕ). count - 1) inside false e ∙ omega arith
    go false here e = omega arith

gained-at : (children : List ℕ) (word node : ℕ) → node < length children → get_or children node 0 < 64
    → get_or (gained children word) node 0 ≡ get_or children node 0 + is_child word node
unfolding gained is_child
gained-at children word node inside room = go (eqb (used_of word) 1) (eqb (parent_of word) node) refl (ltb (get_or children (parent_of word) 0) 64) refl
  where
    go : (held here : Bool) → eqb (parent_of word) node ≡ here → (fits : Bool) → ltb (get_or children (parent_of word) 0) 64 ≡ fits
        → get_or (cond (held && fits) (set children (parent_of word) (get_or children (parent_of word) 0 + 1)) children) node 0 ≡ get_or children node 0 + cond (held && here) 1 0
    go true true e true f = at-parent children (parent_of word) node (λ (count : ℕ). count + 1) inside true e
    go true true e false f =
        let full : 64 ≤ get_or children node 0 = subst (λ (k : ℕ). 64 ≤ get_or children k 0) (eqb-true (parent_of word) node e) (ltb-false (get_or children (parent_of word) 0) 64 f) in
        absurd (omega arith)
    go true false e true f = at-parent children (parent_of word) node (λ (count : ℕ). count + 1) inside false e ∙ omega arith
    go true false e false f = omega arith
    go false here e fits f = omega arith

-- the table is right of any memory whose words 0 are the same
pub same-counted : (old new children : List ℕ) → ((slot : ℕ) → get_or old (4 * slot) 0 ≡ get_or new (4 * slot) 0) → Counted old children → Counted new children
same-counted old new children same counted = λ node inside. counted node inside ∙ children_from-same old new node 63 1 (λ slot low high. same slot)

-- a table that was right is right after it has followed one slot: as it was where the slot is none that can be a child, else one child less and one more
pub follow-counted : (old new children : List ℕ) (slot : ℕ) → Agree slot old new → Counted old children
    → Counted new (followed children slot (get_or old (4 * slot) 0) (get_or new (4 * slot) 0))
unfolding followed
follow-counted old new children slot agree counted = go (eqb slot 0) refl (leb 64 slot) refl
  where
    before : ℕ
    before = get_or old (4 * slot) 0

    after : ℕ
    after = get_or new (4 * slot) 0

    go : (root : Bool) → eqb slot 0 ≡ root → (past : Bool) → leb 64 slot ≡ past → Counted new (cond root children (cond past children (gained (lost children before) after)))
    go true e past f = λ node inside. counted node inside ∙ children_from-same old new node 63 1 (λ k low high. agree k (λ (same : k ≡ slot). omega (arith, eqb-true slot 0 e)))
    go false e true f = λ node inside. counted node inside ∙ children_from-same old new node 63 1 (λ k low high. agree k (λ (same : k ≡ slot). omega (arith, leb-true 64 slot f)))
    go false e false f = λ node inside.
        let within : node < length (lost children before) = subst (λ (n : ℕ). node < n) (gained-length (lost children before) after) inside in
        let inner : node < length children = subst (λ (n : ℕ). node < n) (lost-length children before) within in
        let count = counted node inner in
        let less = lost-at children before node inner in
        let bound = children_from-bound 63 old node 1 in
        let positive : 1 ≤ slot = pos_of_ne-zero (eqb-false slot 0 e) in
        let low : slot < 64 = leb-false 64 slot f in
        let had = children_from-has old node slot 63 1 positive low in
        let moved = children_from-moved old new node slot 63 1 agree positive low in
        gained-at (lost children before) after node within (omega arith) ∙ omega arith

-- through `tally`: what is counted and what is left to count are all children
abbrev pub Tallied : List ℕ → List ℕ → ℕ → Type 0
Tallied nodes children slot = (node : ℕ) → node < length children → get_or children node 0 + children_from (64 - slot) nodes node slot ≡ children_from 63 nodes node 1

children_from-step : (left : ℕ) (nodes : List ℕ) (node slot : ℕ) → children_from (suc left) nodes node slot ≡ is_child (get_or nodes (4 * slot) 0) node + children_from left nodes node (slot + 1)
unfolding children_from
children_from-step left nodes node slot = refl

children_from-none : (nodes : List ℕ) (node slot : ℕ) → children_from 0 nodes node slot ≡ 0
unfolding children_from
children_from-none nodes node slot = refl

pub tally-turn : (nodes children next : List ℕ) (slot : ℕ) → slot < 64 → Tallied nodes children slot → next ≡ gained children (get_or nodes (4 * slot) 0) → Tallied nodes next (slot + 1)
tally-turn nodes children next slot high counted change node inside =
    let word = get_or nodes (4 * slot) 0 in
    let inner : node < length children = subst (λ (n : ℕ). node < n) (ap length change ∙ gained-length children word) inside in
    let here = ap (λ (left : ℕ). children_from left nodes node slot) (left-after slot 64 high) ∙ children_from-step (64 - (slot + 1)) nodes node slot in
    let count = counted node inner in
    let bound = children_from-bound 63 nodes node 1 in
    let more = ap (λ (words : List ℕ). get_or words node 0) change ∙ gained-at children word node inner (omega arith) in
    omega (arith, here, count, more)

pub tally-end : (nodes children : List ℕ) (slot : ℕ) → 64 ≤ slot → Tallied nodes children slot → Counted nodes children
tally-end nodes children slot last counted node inside =
    let none = ap (λ (left : ℕ). children_from left nodes node slot) (none-left slot 64 last) ∙ children_from-none nodes node slot in
    let count = counted node inside in
    omega (arith, none, count)
