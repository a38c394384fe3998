-- Definitions: when cells and array represent bindings by variable number, and what it means that unifying in memory agrees with the definition's.
-- Serves demand 3 and "In comparisons a REF stands for its variable's number" of document 01. Assumes nothing.
use Rattle.std.specs.Prelude.{false, true, ◌⊎◌, ◌≡◌, ◌+◌, ◌<◌, ◌≤◌, ℕ, eqb}
use mathlib.Core.List.{List, Memᴰ, [], ◌++◌, ◌∷◌}
use Rattle.std.proofs.Math.Option.{Option, none, some}
use Rattle.model.specs.Definition.{Binding, Value, dereference_argument, dereference_in, lookup}
use Rattle.model.specs.Rules.{Argument}
use Rattle.theory.specs.Memory.Store.{Got, Shown, Store, TrailEntry, Work, by_number, conditionals_shown, dereference_argument_stored, dereference_stored, got_constant, got_unbound, install_map, lookup_stored, ref_word, shown_entries, unbound_word, value}

-- where the cells of the path are, and which number each has
pub record Place : Type 1 where
  pub On : ℕ → Type 0
  pub number : ℕ → ℕ

-- no number has two cells on the path
abbrev pub OneCell : Place → Type 0
OneCell A = (a b : ℕ) → A.On a → A.On b → A.number a ≡ A.number b → a ≡ b

-- no number twice in what a trail shows
unfoldable pub ShownAt : ℕ → List Shown → Type 0
ShownAt n [] = ⊥
ShownAt n (s ∷ l) = (n ≡ s.number) ⊎ ShownAt n l

unfoldable pub ShownOnce : List Shown → Type 0
ShownOnce [] = Unit {0}
ShownOnce (s ∷ l) = (ShownAt s.number l → ⊥) × ShownOnce l

-- what the conditional bindings say of n
unfoldable pub lookup_shown : List Shown → ℕ → Option Value
lookup_shown [] n = none
lookup_shown (s ∷ l) n = elim (eqb n s.number) [ true ↦ s.value | false ↦ lookup_shown l n ]

module _ (A : Place) where
  pub record Represents (B : List Binding) (S : Store) : Type 0 where
    pub same : (a : ℕ) → A.On a → lookup B (A.number a) ≡ value A.number (lookup_stored A.number S a)
    pub kept : (a b : ℕ) → A.On a → lookup_stored A.number S a ≡ ref_word b → A.On b

  unfoldable pub GotOn : Got → Type 0
  GotOn (got_constant c) = Unit {0}
  GotOn (got_unbound a) = A.On a

  pub record DereferencesAlike (B : List Binding) (f : ℕ) (S : Store) (a : ℕ) : Type 0 where
    pub is : by_number A.number (dereference_stored A.number f S a) ≡ dereference_in f B (A.number a)
    pub on : GotOn (dereference_stored A.number f S a)

  -- the references of a trail go to cells of the place
  abbrev pub Linked : List TrailEntry → Type 0
  Linked t = (m : TrailEntry) → Memᴰ m t → (b : ℕ) → m.word ≡ ref_word b → A.On b

  pub record PairFits (B M : List Binding) (W W' : Work) : Type 0 where
    pub rep : Represents (B ++ M) W'.store
    pub linked : Linked W.trail → Linked W'.trail
    pub trail : shown_entries A.number W'.trail ≡ shown_entries A.number W.trail ++ conditionals_shown M

  pub data PairAgrees (B : List Binding) (W : Work) : Option (List Binding) → Option Work → Type 0 where
    pairs-fail : PairAgrees B W none none
    pairs-fit : {M : List Binding} {W' : Work} → PairFits B M W W' → PairAgrees B W (some M) (some W')

  -- what dereferencing found: on the path, and unbound only if its word is
  pub data Clean (S : Store) : Got → Type 0 where
    clean-constant : {c : ℕ} → Clean S (got_constant c)
    clean-unbound : {a : ℕ} → A.On a → lookup_stored A.number S a ≡ unbound_word → Clean S (got_unbound a)

  -- the cells of a frame: variable i, if it is below n, has number b + i and a cell on the path
  pub record FrameCells (b n : ℕ) (cell_at : ℕ → ℕ) : Type 0 where
    pub on : (i : ℕ) → i < n → A.On (cell_at i)
    pub number : (i : ℕ) → i < n → A.number (cell_at i) ≡ b + i

  pub record ArgumentAlike (B : List Binding) (b : ℕ) (S : Store) (cell_at : ℕ → ℕ) (x : Argument) : Type 0 where
    pub is : by_number A.number (dereference_argument_stored A.number S cell_at x) ≡ dereference_argument B b x
    pub clean : Clean S (dereference_argument_stored A.number S cell_at x)

  pub record HeadFits (B B' : List Binding) (W W' : Work) : Type 0 where
    pub made : List Binding
    pub linked : Linked W.trail → Linked W'.trail
    pub is : B' ≡ B ++ made
    pub rep : Represents B' W'.store
    pub trail : shown_entries A.number W'.trail ≡ shown_entries A.number W.trail ++ conditionals_shown made

  pub data HeadAgrees (B : List Binding) (W : Work) : Option (List Binding) → Option Work → Type 0 where
    heads-fail : HeadAgrees B W none none
    heads-fit : {B' : List Binding} {W' : Work} → HeadFits B B' W W' → HeadAgrees B W (some B') (some W')

  -- from W to W' some entries were added and installed, and cells whose number is below base stayed
  pub record Tracks (base : ℕ) (W W' : Work) : Type 0 where
    pub new : List TrailEntry
    pub trail : W'.trail ≡ W.trail ++ new
    pub array : W'.store.array ≡ install_map new W.store.array
    pub cells : (a : ℕ) → A.number a < base → W'.store.cell a ≡ W.store.cell a
    pub low : (n : ℕ) → base ≤ n → W'.store.array n ≡ W.store.array n

  -- a fresh child's cells, all unbound, may be added to the place before its head is unified
  pub record Fresh (base : ℕ) (B : List Binding) (S : Store) : Type 0 where
    pub old : (a : ℕ) → A.On a → A.number a < base → lookup B (A.number a) ≡ value A.number (lookup_stored A.number S a)
    pub kept : (a b : ℕ) → A.On a → A.number a < base → lookup_stored A.number S a ≡ ref_word b → A.On b
    pub blank : (a : ℕ) → A.On a → base ≤ A.number a → lookup_stored A.number S a ≡ unbound_word
    pub low : (n : ℕ) → base ≤ n → lookup B n ≡ none
