-- A head that clashes fails, and taking its entries out again and clearing them gives array and trail back. Document 01, rule 7, "Failure". Assumes nothing.
use Rattle.std.proofs.Common.{◌≡◌, refl, sym, ap, subst, ◌∙◌, inl, inr, Bool, true, false, cond, List, ℕ, zero, suc, ◌+◌, ◌*◌, ◌≤◌, ◌<◌, add-zero, zero-add, arith, eqb, ltb, length, get_or, set, Ok, Err}
use Rattle.model.specs.declared.VarNo.{VarNo}
use Rattle.model.specs.declared.CellAddr.{CellAddr}
use Rattle.model.specs.declared.Found.{Found}
use Rattle.model.specs.declared.Found.TheVariants.{Unbound, Constant}
use Rattle.model.specs.declared.Pairing.TheVariants.{Nothing, Clash}
use Rattle.model.specs.Fields.{op, constant}
use Rattle.model.specs.Memory.{tag, con_word, first_of, number_at, cleared}
use Rattle.model.specs.Terms.{Store, store, bind, pairing, argument_of, unify_pair, unify_words, onwards, unify_head, clash}
use Rattle.model.specs.Steps.{undone}
use Rattle.passing.specs.declared.Compared.{Compared}
use Rattle.passing.specs.declared.Compared.TheVariants.{Differ, Agree, Unsure}
use Rattle.passing.specs.Clash.{compared_with, compare, clashes}
use Rattle.passing.proofs.UndoLaws.{cleared-entry, undone-entry, Blank, blank-less, entered, blank-entered}
use Rattle.passing.proofs.BoundLaws.{tag-con_word, Bound, argument_of-bound, argument_of-unbound}

-- does a head clash, by its first argument and by the rest
abbrev decided : Compared → Bool → Bool
decided compared rest = elim compared [ Differ ↦ true | Agree ↦ rest | Unsure ↦ false ]

decided-more : (compared : Compared) (rest later : Bool) → (rest ≡ true → later ≡ true) → decided compared rest ≡ true → decided compared later ≡ true
decided-more Differ rest later more e = e
decided-more Agree rest later more e = more e
decided-more Unsure rest later more e = e

compared_with-bound : (child_base a : ℕ) (found next : Found) (rest later : Bool) → Bound found next → (rest ≡ true → later ≡ true)
    → decided (compared_with child_base a found) rest ≡ true → decided (compared_with child_base a next) later ≡ true
unfolding compared_with
compared_with-bound child_base a found next rest later (inl same) more e =
    subst (λ (f : Found). decided (compared_with child_base a f) later ≡ true) (sym same) (decided-more (compared_with child_base a found) rest later more e)
compared_with-bound child_base a found next rest later (inr bound) more e =
    subst (λ (f : Found). decided (compared_with child_base a f) later ≡ true) (sym bound.4)
    (go (ltb bound.0.0 child_base) (eqb a bound.2) (subst (λ (f : Found). decided (compared_with child_base a f) rest ≡ true) bound.3 e))
  where
    go : (conditional? equal? : Bool) → decided (cond conditional? Agree Unsure) rest ≡ true → decided (cond equal? Agree Differ) later ≡ true
    go true true q = more q
    go true false q = refl
    go false equal? q = let z : ◌≡◌ {A = ℕ} 0 1 = cc in absurd (omega arith)

-- a binding to a constant leaves a clash a clash
clashes-bound : (image words array cells : List ℕ) (slot child_base number word : ℕ) → get_or array number 0 ≡ 0 → tag word ≡ 2 → (arity head goal : ℕ)
    → clashes arity image words array cells slot child_base head goal ≡ true → clashes arity image words (set array number word) cells slot child_base head goal ≡ true
unfolding clashes compare
clashes-bound image words array cells slot child_base number word was is zero head goal e = e
clashes-bound image words array cells slot child_base number word was is (suc arity) head goal e =
    go (eqb (op (get_or image head 0)) 1) (clashes-bound image words array cells slot child_base number word was is arity (head + 1) (goal + 1)) e
  where
    rest : List ℕ → Bool
    rest seen = clashes arity image words seen cells slot child_base (head + 1) (goal + 1)

    compared : Bool → List ℕ → Compared
    compared variable? seen = cond variable? Unsure (compared_with child_base (constant (get_or image head 0)) (argument_of seen cells slot (get_or words goal 0)))

    go : (variable? : Bool) → (rest array ≡ true → rest (set array number word) ≡ true)
        → decided (compared variable? array) (rest array) ≡ true → decided (compared variable? (set array number word)) (rest (set array number word)) ≡ true
    go true more q = q
    go false more q =
        compared_with-bound child_base (constant (get_or image head 0)) (argument_of array cells slot (get_or words goal 0)) (argument_of (set array number word) cells slot (get_or words goal 0))
        (rest array) (rest (set array number word)) (argument_of-bound array cells number word was is slot (get_or words goal 0)) more q

-- what is sure of a head's argument is so because it is a constant
compare-sure : (child_base : ℕ) (array cells : List ℕ) (slot ours theirs : ℕ) (rest : Bool) → decided (compare child_base array cells slot ours theirs) rest ≡ true
    → (eqb (op ours) 1 ≡ false) × (decided (compared_with child_base (constant ours) (argument_of array cells slot theirs)) rest ≡ true)
unfolding compare
compare-sure child_base array cells slot ours theirs rest e = go (eqb (op ours) 1) refl e
  where
    go : (variable? : Bool) → eqb (op ours) 1 ≡ variable? → decided (cond variable? Unsure (compared_with child_base (constant ours) (argument_of array cells slot theirs))) rest ≡ true
        → (eqb (op ours) 1 ≡ false) × (decided (compared_with child_base (constant ours) (argument_of array cells slot theirs)) rest ≡ true)
    go true q r = let z : ◌≡◌ {A = ℕ} 0 1 = cc in absurd (omega arith)
    go false q r = (q, r)

argument_of-constant : (array cells : List ℕ) (slot word : ℕ) → eqb (op word) 1 ≡ false → argument_of array cells slot word ≡ Constant (constant word)
unfolding argument_of
argument_of-constant array cells slot word e = simp e

-- unifying failed, and its entries after so many can be undone
abbrev Undoable : Store → ℕ → ℕ → List ℕ → List ℕ → List ℕ → Type 0
Undoable result child count array cells trail =
    (made : ℕ) × (array_next : List ℕ) × (trail_next : List ℕ) × (result ≡ store array_next cells trail_next (Err (clash (count + made))))
    × (undone made trail_next (number_at child count) array_next ≡ array) × (cleared (2 * made) (number_at child count) trail_next ≡ trail)

module _ (child count : ℕ) (array cells trail : List ℕ) where
  undoable-clash : Undoable (store array cells trail (Err (clash count))) child count array cells trail
  unfolding undone cleared
  undoable-clash = (0, array, trail, ap (λ (n : ℕ). store array cells trail (Err (clash n))) (sym (add-zero count)), refl, refl)

  -- an entry, and what was undoable after it
  undoable-entered : (number word arity : ℕ) (result : Store) → Blank (2 * suc arity) (number_at child count) trail → get_or array number 0 ≡ 0
      → Undoable result child (count + 1) (set array number word) cells (entered child count trail number word) → Undoable result child count array cells trail
  undoable-entered number word arity result blank was u =
      let next : number_at child count + 2 ≡ number_at child (count + 1) = omega arith in
      let first : get_or trail (number_at child count) 0 ≡ 0 = ap (λ (n : ℕ). get_or trail n 0) (sym (add-zero (number_at child count))) ∙ blank.1 0 (omega arith) in
      let later = ap (λ (n : ℕ). cleared (2 * u.0) n u.2) next ∙ u.5 in (
        suc u.0,
        u.1,
        u.2,
        u.3 ∙ ap (λ (n : ℕ). store u.1 cells u.2 (Err (clash n))) (let e : count + 1 + u.0 ≡ count + suc u.0 = omega arith in e),
        undone-entry trail u.2 (number_at child count) number word u.0 later array u.1 (omega (arith, blank.0)) was (ap (λ (n : ℕ). undone u.0 u.2 n u.1) next ∙ u.4),
        cleared-entry trail u.2 (number_at child count) number word u.0 later first (blank.1 1 (omega arith)),
      )

  -- the rest of a head, after a constant of it with a goal's argument
  module _ (child_base : ℕ) (next : List ℕ → List ℕ → List ℕ → ℕ → Store) where
    abbrev after : Store → Store
    after s = onwards next s.array s.cells s.trail s.unified

    after-undoable : (a : ℕ) (found : Found) (rest : Bool) → (rest ≡ true → Undoable (next array cells trail count) child count array cells trail)
        → (rest ≡ true → (number : VarNo) (address : CellAddr) → found ≡ Unbound number address
        → Undoable (next (set array number.0 (con_word a)) cells (entered child count trail number.0 (con_word a)) (count + 1)) child count array cells trail)
        → decided (compared_with child_base a found) rest ≡ true
        → Undoable (after (unify_pair child child_base array cells trail count (pairing (Constant a) found))) child count array cells trail
    unfolding compared_with pairing unify_pair bind
    after-undoable a (Constant b) rest same bound e = go (eqb a b) e
      where
        go : (equal? : Bool) → decided (cond equal? Agree Differ) rest ≡ true
            → Undoable (after (unify_pair child child_base array cells trail count (cond equal? Nothing Clash))) child count array cells trail
        go true q = same q
        go false q = undoable-clash
    after-undoable a (Unbound number address) rest same bound e = go (ltb number.0 child_base) e
      where
        go : (conditional? : Bool) → decided (cond conditional? Agree Unsure) rest ≡ true
            → Undoable (after (cond conditional? (store (set array number.0 (con_word a)) cells (entered child count trail number.0 (con_word a)) (Ok (count + 1)))
            (store array (set cells address.0 (con_word a)) trail (Ok count)))) child count array cells trail
        go true q = bound q number address refl
        go false q = let z : ◌≡◌ {A = ℕ} 0 1 = cc in absurd (omega arith)

module _ (image words : List ℕ) (child child_base slot : ℕ) (cells : List ℕ) where
  unify_head-undoable : (arity head goal : ℕ) (array trail : List ℕ) (count : ℕ) → clashes arity image words array cells slot child_base head goal ≡ true
      → Blank (2 * arity) (number_at child count) trail
      → Undoable (unify_head arity image words child child_base slot head goal array cells trail count) child count array cells trail
  unfolding unify_head unify_words clashes
  unify_head-undoable zero head goal array trail count e blank = let z : ◌≡◌ {A = ℕ} 0 1 = cc in absurd (omega arith)
  unify_head-undoable (suc arity) head goal array trail count e blank =
      let ours = get_or image head 0 in
      let theirs = get_or words goal 0 in
      let next = unify_head arity image words child child_base slot (head + 1) (goal + 1) in
      let rest = clashes arity image words array cells slot child_base (head + 1) (goal + 1) in
      let sure = compare-sure child_base array cells slot ours theirs rest e in
      subst
      (λ (f : Found). Undoable (after child count array cells trail child_base next (unify_pair child child_base array cells trail count (pairing f (argument_of array cells slot theirs)))) child count array cells trail)
      (sym (argument_of-constant array cells child ours sure.0))
      (after-undoable child count array cells trail child_base next (constant ours) (argument_of array cells slot theirs) rest
      (λ r. unify_head-undoable arity (head + 1) (goal + 1) array trail count r (blank-less arity (number_at child count) trail blank))
      (λ r number address f.
      let word = con_word (constant ours) in
      let was = argument_of-unbound array cells number address slot theirs f in
      undoable-entered child count array cells trail number.0 word arity (next (set array number.0 word) cells (entered child count trail number.0 word) (count + 1)) blank was
      (unify_head-undoable arity (head + 1) (goal + 1) (set array number.0 word) (entered child count trail number.0 word) (count + 1)
      (clashes-bound image words array cells slot child_base number.0 word was (tag-con_word (constant ours)) arity (head + 1) (goal + 1) r)
      (blank-entered child count trail number.0 word arity blank)))
      sure.1)

-- the trail must reach as far as the head may write: an entry stored past its end would be lost, and its number stay bound
pub clash-undone : (arity : ℕ) (image words : List ℕ) (child child_base slot head goal : ℕ) (array cells trail : List ℕ)
    → clashes arity image words array cells slot child_base head goal ≡ true → first_of child + 2 * arity ≤ length trail
    → ((k : ℕ) → k < 2 * arity → get_or trail (first_of child + k) 0 ≡ 0)
    → (count : ℕ) × (array_next : List ℕ) × (trail_next : List ℕ)
    × (unify_head arity image words child child_base slot head goal array cells trail 0 ≡ store array_next cells trail_next (Err (clash count)))
    × (undone count trail_next (first_of child) array_next ≡ array) × (cleared (2 * count) (first_of child) trail_next ≡ trail)
clash-undone arity image words child child_base slot head goal array cells trail e long blank =
    let first : number_at child 0 ≡ first_of child = add-zero (first_of child) in
    let u = unify_head-undoable image words child child_base slot cells arity head goal array trail 0 e (rw first (long, blank)) in (
      u.0,
      u.1,
      u.2,
      u.3 ∙ ap (λ (n : ℕ). store u.1 cells u.2 (Err (clash n))) (zero-add u.0),
      ap (λ (n : ℕ). undone u.0 u.2 n u.1) (sym first) ∙ u.4,
      ap (λ (n : ℕ). cleared (2 * u.0) n u.2) (sym first) ∙ u.5,
    )
