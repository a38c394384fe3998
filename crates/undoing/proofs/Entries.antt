-- A head unified, argument by argument: its entries taken out of the array and cleared from the trail, and the child's own cells cleared, give back what was there.
-- It holds of every head, whether it fails or not. Document 01, rule 7, "Failure". Assumes nothing.
use Rattle.std.specs.Prelude.{◌≡◌, Bool, cond, List, get_or, set, Ok, Err}
use Rattle.std.proofs.Math.Path.{refl, sym}
use Rattle.std.proofs.Common.{ap, subst, ◌∙◌, add-zero, arith}
use Rattle.std.proofs.Math.Logic.{⊎_elim}
use Rattle.std.proofs.Math.Bool.{true, false}
use Prim.Native.Nat.{ℕ, zero, suc, ◌+◌, ◌*◌, ◌≤◌, ◌<◌}
use Rattle.std.proofs.Math.Dec.{ltb}
use borrow.Author.Tests.{ltb-false}
use Rattle.model.specs.declared.Pairing.{Pairing}
use Rattle.model.specs.declared.Pairing.TheVariants.{Nothing, Clash, Binds}
use Rattle.model.specs.Fields.{op, variable_number}
use Rattle.model.specs.Memory.{first_of, cell_of, number_at, cleared}
use Rattle.model.specs.Terms.{Store, store, bind, pairing, argument_of, unify_pair, unify_words, onwards, unify_head, Unified, clash}
use Rattle.model.specs.Steps.{undone}
use Rattle.terms.proofs.HeadLaws.{counted}
use Rattle.passing.proofs.UndoLaws.{cleared-entry, undone-entry, Blank, blank-less, entered, blank-entered}
use Rattle.undoing.proofs.OwnCells.{cleared-own}
use Rattle.undoing.proofs.Reached.{Kept, kept-array, kept-cells, PairedWell, argument_of-well, pairing-well}

-- the child's own cells: as many as its clause has variables
abbrev pub OwnCell : ℕ → ℕ → ℕ → Type 0
OwnCell child own address = (first_of child ≤ address) × (address < first_of child + own)

-- so many argument words from a place on: the cells of their variables can be come to
abbrev pub Arguments : (ℕ → Type 0) → ℕ → List ℕ → ℕ → ℕ → Type 0
Arguments Known slot words place arity = (k : ℕ) → k < arity → op (get_or words (place + k) 0) ≡ 1 → Known (cell_of slot (variable_number (get_or words (place + k) 0)))

module _ (Known : ℕ → Type 0) (slot : ℕ) (words : List ℕ) (place arity : ℕ) (known : Arguments Known slot words place (suc arity)) where
  abbrev KnownWord : ℕ → Type 0
  KnownWord word = op word ≡ 1 → Known (cell_of slot (variable_number word))

  argument-first : KnownWord (get_or words place 0)
  argument-first = subst (λ (n : ℕ). KnownWord (get_or words n 0)) (add-zero place) (known 0 (omega arith))

  arguments-rest : Arguments Known slot words (place + 1) arity
  arguments-rest k h = subst (λ (n : ℕ). KnownWord (get_or words n 0)) (let e : place + suc k ≡ place + 1 + k = omega arith in e) (known (suc k) (omega arith))

module _ (child own : ℕ) where
  -- the entries that a head made after so many, and its cells, are undone
  pub record Undoable (result : Store) (count : ℕ) (array cells trail : List ℕ) : Type 0 where
    pub made : ℕ
    pub all : counted result.unified ≡ count + made
    pub unbound : undone made result.trail (number_at child count) result.array ≡ array
    pub blanked : cleared (2 * made) (number_at child count) result.trail ≡ trail
    pub bared : cleared own (first_of child) result.cells ≡ cleared own (first_of child) cells

  module _ (count : ℕ) (array cells trail : List ℕ) where
    undoable-none : (unified : Unified) → counted unified ≡ count → Undoable (store array cells trail unified) count array cells trail
    unfolding undone cleared
    undoable-none unified e = record { made = 0; all = e ∙ sym (add-zero count); unbound = refl; blanked = refl; bared = refl }

    -- an entry, and what was undoable after it
    undoable-entered : (number word arity : ℕ) (result : Store) → Blank (2 * suc arity) (number_at child count) trail → get_or array number 0 ≡ 0
        → Undoable result (count + 1) (set array number word) cells (entered child count trail number word) → Undoable result count array cells trail
    undoable-entered number word arity result blank was u =
        let next : number_at child count + 2 ≡ number_at child (count + 1) = omega arith in
        let first : get_or trail (number_at child count) 0 ≡ 0 = ap (λ (n : ℕ). get_or trail n 0) (sym (add-zero (number_at child count))) ∙ blank.1 0 (omega arith) in
        let later = ap (λ (n : ℕ). cleared (2 * u.made) n result.trail) next ∙ u.blanked in
        record {
          made = suc u.made;
          all = u.all ∙ (let e : count + 1 + u.made ≡ count + suc u.made = omega arith in e);
          unbound = undone-entry trail result.trail (number_at child count) number word u.made later array result.array (omega (arith, blank.0)) was
              (ap (λ (n : ℕ). undone u.made result.trail n result.array) next ∙ u.unbound);
          blanked = cleared-entry trail result.trail (number_at child count) number word u.made later first (blank.1 1 (omega arith));
          bared = u.bared;
        }

    -- a store into one of the child's own cells, and what was undoable after it
    undoable-stored : (address word : ℕ) (result : Store) → OwnCell child own address → Undoable result count array (set cells address word) trail → Undoable result count array cells trail
    undoable-stored address word result mine u = record {
      made = u.made;
      all = u.all;
      unbound = u.unbound;
      blanked = u.blanked;
      bared = u.bared ∙ cleared-own own (first_of child) cells address word mine.0 mine.1;
    }

  module _ (Known : ℕ → Type 0) (child_base : ℕ) (small : (address : ℕ) → Known address → address < 536870912) where
    -- the rest of a head, after the first of its arguments
    module _ (arity : ℕ) (next : List ℕ → List ℕ → List ℕ → ℕ → Store)
        (rest : (array cells trail : List ℕ) (count : ℕ) → Kept Known (OwnCell child own) child_base array cells → Blank (2 * arity) (number_at child count) trail
        → Undoable (next array cells trail count) count array cells trail)
        (array cells trail : List ℕ) (count : ℕ) (kept : Kept Known (OwnCell child own) child_base array cells) (blank : Blank (2 * suc arity) (number_at child count) trail) where
      abbrev after : Store → Store
      after s = onwards next s.array s.cells s.trail s.unified

      after-undoable : (pair : Pairing) → PairedWell Known (OwnCell child own) child_base array pair
          → Undoable (after (unify_pair child child_base array cells trail count pair)) count array cells trail
      unfolding unify_pair bind
      after-undoable Nothing well = rest array cells trail count kept (blank-less arity (number_at child count) trail blank)
      after-undoable Clash well = undoable-none count array cells trail (Err (clash count)) refl
      after-undoable (Binds number address word) well = go (ltb number.0 child_base) refl
        where
          go : (conditional? : Bool) → ltb number.0 child_base ≡ conditional?
              → Undoable (after (cond conditional? (store (set array number.0 word) cells (entered child count trail number.0 word) (Ok (count + 1)))
              (store array (set cells address.0 word) trail (Ok count)))) count array cells trail
          go true q =
              undoable-entered count array cells trail number.0 word arity (next (set array number.0 word) cells (entered child count trail number.0 word) (count + 1)) blank well.0.0
              (rest (set array number.0 word) cells (entered child count trail number.0 word) (count + 1)
              (kept-array Known (OwnCell child own) child_base array cells number.0 word well.1 kept) (blank-entered child count trail number.0 word arity blank))
          go false q =
              let mine : OwnCell child own address.0 = ⊎_elim (λ h. absurd (omega (arith, h, ltb-false number.0 child_base q))) (λ m. m) well.0.1.0 in
              undoable-stored count array cells trail address.0 word (next array (set cells address.0 word) trail count) mine
              (rest array (set cells address.0 word) trail count (kept-cells Known (OwnCell child own) child_base array cells address.0 word well.1 kept)
              (blank-less arity (number_at child count) trail blank))

    pub unify_head-undoable : (image words : List ℕ) (slot arity head goal : ℕ) → Arguments Known child image head arity → Arguments Known slot words goal arity
        → (array cells trail : List ℕ) (count : ℕ) → Kept Known (OwnCell child own) child_base array cells → Blank (2 * arity) (number_at child count) trail
        → Undoable (unify_head arity image words child child_base slot head goal array cells trail count) count array cells trail
    unfolding unify_head unify_words
    unify_head-undoable image words slot zero head goal ours theirs array cells trail count kept blank = undoable-none count array cells trail (Ok count) refl
    unify_head-undoable image words slot (suc arity) head goal ours theirs array cells trail count kept blank =
        let mine = argument_of-well Known (OwnCell child own) child_base array cells kept child (get_or image head 0) (argument-first Known child image head arity ours) in
        let called = argument_of-well Known (OwnCell child own) child_base array cells kept slot (get_or words goal 0) (argument-first Known slot words goal arity theirs) in
        after-undoable arity (unify_head arity image words child child_base slot (head + 1) (goal + 1))
        (unify_head-undoable image words slot arity (head + 1) (goal + 1) (arguments-rest Known child image head arity ours) (arguments-rest Known slot words goal arity theirs))
        array cells trail count kept blank (pairing (argument_of array cells child (get_or image head 0)) (argument_of array cells slot (get_or words goal 0)))
        (pairing-well Known (OwnCell child own) child_base small array (argument_of array cells child (get_or image head 0)) (argument_of array cells slot (get_or words goal 0)) mine called)
