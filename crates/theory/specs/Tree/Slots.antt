-- Definitions: what is true of the slots and of the reports of a running search.
-- Serves demand 2. `Pending` are the derivations still to come; `Shape` ties slots to paths; `Books` ties the reports to what is pending.
-- `below` follows from `parents`, but as a field of its own it needs no induction, and freeing a slot keeps it by itself. Assumes nothing.
use mathlib.Core.List.{List, Memᴰ, [], ◌++◌, ◌∷◌}
use Rattle.std.specs.Prelude.{◌≢◌, ◌⊎◌, ◌≡◌, ◌<◌, ◌≤◌, ℕ}
use Rattle.std.proofs.Math.Option.{none, some}
use Rattle.model.specs.Demands.{NoneTwice}
use Rattle.model.specs.Machine.{Slots, UsedSlot}
use Rattle.model.specs.Search.{ClausePath, Derivation, Search, node_at}

module _ (T : Search) where
  -- d is still to come: it leaves the used slot s by a clause that s has not tried
  pub record Pending (S : Slots T) (d : ClausePath) : Type 0 where
    pub slot : ℕ
    pub ent : UsedSlot T
    pub used : S slot ≡ some ent
    pub k : ℕ
    pub rest : ClausePath
    pub untried : ent.tried ≤ k
    pub path : d ≡ ent.path ++ (k ∷ rest)
    pub der : Derivation T ent.node (k ∷ rest)

  pub record Parent (S : Slots T) (s : ℕ) (e : UsedSlot T) : Type 0 where
    pub up : UsedSlot T
    pub used : S e.parent ≡ some up
    pub k : ℕ
    pub path : e.path ≡ up.path ++ (k ∷ [])
    pub tried : k < up.tried
    pub child : T.child up.node k ≡ some e.node

  -- the shape of the slots
  pub record Shape (S : Slots T) : Type 0 where
    pub top : UsedSlot T
    pub root-used : S 0 ≡ some top
    pub root-node : top.node ≡ T.root
    pub root-path : top.path ≡ []
    pub leads : (s : ℕ) (e : UsedSlot T) → S s ≡ some e → node_at T T.root e.path ≡ some e.node
    pub parents : (s : ℕ) (e : UsedSlot T) → S s ≡ some e → s ≢ 0 → Parent S s e
    pub apart : (s t : ℕ) (e f : UsedSlot T) → S s ≡ some e → S t ≡ some f → e.path ≡ f.path → s ≡ t
    pub below : (s t : ℕ) (e f : UsedSlot T) (j : ℕ) (r : ClausePath) → S s ≡ some e → S t ≡ some f → e.path ≡ f.path ++ (j ∷ r) → j < f.tried

  -- the reports so far, newest first: each is a derivation, none is still to come, none is missing, none twice
  pub record Books (S : Slots T) (O : List ClausePath) : Type 0 where
    pub sound : (d : ClausePath) → Memᴰ d O → Derivation T T.root d
    pub fresh : (d : ClausePath) → Memᴰ d O → Pending S d → ⊥
    pub complete : (d : ClausePath) → Derivation T T.root d → Memᴰ d O ⊎ Pending S d
    pub none_twice : NoneTwice O

  -- a slot keeps its node, path and parent, and its count does not fall
  pub record Grown (f g : UsedSlot T) : Type 0 where
    pub node : g.node ≡ f.node
    pub path : g.path ≡ f.path
    pub parent : g.parent ≡ f.parent
    pub tried : f.tried ≤ g.tried

  pub record Later (S : Slots T) (t : ℕ) (f : UsedSlot T) : Type 0 where
    pub ent : UsedSlot T
    pub used : S t ≡ some ent
    pub grown : Grown f ent

  pub record Earlier (S : Slots T) (t : ℕ) (f : UsedSlot T) : Type 0 where
    pub ent : UsedSlot T
    pub used : S t ≡ some ent
    pub grown : Grown ent f

  pub record Grows (S S' : Slots T) : Type 0 where
    pub forth : (t : ℕ) (f : UsedSlot T) → S t ≡ some f → Later S' t f
    pub back : (t : ℕ) (f : UsedSlot T) → S' t ≡ some f → Earlier S t f

  pub record Adds (S : Slots T) (c : ℕ) (n : UsedSlot T) : Type 0 where
    pub room : S c ≡ none
    pub parent : Parent S c n
    pub alone : (t : ℕ) (f : UsedSlot T) (r : ClausePath) → S t ≡ some f → f.path ≡ n.path ++ r → ⊥

  pub record Frees (S : Slots T) (s : ℕ) (e : UsedSlot T) : Type 0 where
    pub used : S s ≡ some e
    pub inner : s ≢ 0
    pub dead : T.clause_count e.node ≤ e.tried
    pub childless : (t : ℕ) (f : UsedSlot T) → S t ≡ some f → t ≢ 0 → f.parent ≡ s → ⊥

  -- what is pending when one clause more is tried
  pub record Through (e : UsedSlot T) (d : ClausePath) : Type 0 where
    pub rest : ClausePath
    pub path : d ≡ e.path ++ (e.tried ∷ rest)
    pub der : Derivation T e.node (e.tried ∷ rest)

  pub record Extends (S : Slots T) (s : ℕ) (e : UsedSlot T) (c : ℕ) (m : T.Node) : Type 0 where
    pub used : S s ≡ some e
    pub room : S c ≡ none
    pub child : T.child e.node e.tried ≡ some m

  -- Finished: the root is dead and nobody's parent
  pub record Over (S : Slots T) : Type 0 where
    pub top : UsedSlot T
    pub used : S 0 ≡ some top
    pub dead : T.clause_count top.node ≤ top.tried
    pub childless : (t : ℕ) (f : UsedSlot T) → S t ≡ some f → t ≢ 0 → f.parent ≡ 0 → ⊥
