-- A head that fails leaves nothing behind. Document 01, rule 7: "Failure: Tried; only that count has changed."
-- For every head, variables included: taking its entries out of the array, clearing them from the trail and clearing the child's cells gives all three back.
-- Assumes nothing.
use Rattle.std.specs.Prelude.{◌≡◌, ◌⊎◌, List, ℕ, ◌+◌, ◌-◌, ◌*◌, ◌<◌, get_or, Err}
use Rattle.std.proofs.Common.{sym, ap, subst, ◌∙◌, inl, inr, add-zero, zero-add, arith}
use Rattle.model.specs.Memory.{tag, value, vno_word, first_of, number_at, cleared}
use Rattle.model.specs.Terms.{Store, unify_head, clash}
use Rattle.model.specs.Steps.{undone, laid}
use Rattle.terms.proofs.HeadLaws.{counted}
use Rattle.paths.proofs.Values.{zero-tag, vno-fields}
use Rattle.undoing.proofs.OwnCells.{cleared-laid, laid-other, laid-own}
use Rattle.undoing.proofs.Reached.{Kept, KeptAt}
use Rattle.undoing.proofs.Entries.{OwnCell, Undoable, unify_head-undoable}
use Rattle.undoing.specs.Failure.{Ready}

module _ (Reach : ℕ → Type 0) (image words : List ℕ) (child child_base slot own arity head goal : ℕ) (array cells trail : List ℕ)
    (ready : Ready Reach image words child child_base slot own arity head goal array cells trail) where
  abbrev Known : ℕ → Type 0
  Known address = Reach address ⊎ OwnCell child own address

  abbrev whole : List ℕ
  whole = laid own (first_of child) child_base cells

  -- a cell of the path is as it was before the child's were laid
  kept-path : (address : ℕ) → Reach address → KeptAt Known (OwnCell child own) child_base array address (get_or cells address 0)
  kept-path address reach =
      let path = ready.closed address reach in
      (λ link. inl (path.linked link), λ vno. (inl (path.below vno), λ link. inl (path.bound vno link)))

  -- a cell of the child is its VNO, whose number is 0 in the array
  kept-own : (k : ℕ) → k < own → KeptAt Known (OwnCell child own) child_base array (first_of child + k) (vno_word (child_base + k))
  kept-own k h =
      let vno = vno-fields (child_base + k) (omega (arith, ready.numbers_fit)) in
      let zeroed : get_or array (value (vno_word (child_base + k))) 0 ≡ 0 = ap (λ (n : ℕ). get_or array n 0) vno.1 ∙ ready.unbound k h in (
        λ link. absurd (omega (arith, link, vno.0)),
        λ own. (inr (omega arith, omega arith), λ link. absurd (omega (arith, link, ap (λ (n : ℕ). tag n) zeroed, zero-tag))),
      )

  kept-laid : Kept Known (OwnCell child own) child_base array whole
  kept-laid address (inl reach) =
      subst (KeptAt Known (OwnCell child own) child_base array address) (sym (laid-other own (first_of child) child_base cells address (ready.closed address reach).aside)) (kept-path address reach)
  kept-laid address (inr mine) =
      let k = address - first_of child in
      let at : first_of child + k ≡ address = omega (arith, mine.0) in
      let h : k < own = omega (arith, mine.0, mine.1) in
      subst (λ (a : ℕ). KeptAt Known (OwnCell child own) child_base array a (get_or whole a 0)) at
      (subst (KeptAt Known (OwnCell child own) child_base array (first_of child + k)) (sym (laid-own own (first_of child) child_base cells k ready.cells_reach h)) (kept-own k h))

  small : (address : ℕ) → Known address → address < 536870912
  small address (inl reach) = (ready.closed address reach).fits
  small address (inr mine) = omega (arith, mine.1, ready.cells_fit)

  -- of any head, whether it fails or not: its entries and the child's cells taken out again
  pub head-undone : (s : Store) → unify_head arity image words child child_base slot head goal array whole trail 0 ≡ s
      → (undone (counted s.unified) s.trail (first_of child) s.array ≡ array) × (cleared own (first_of child) s.cells ≡ cells)
      × (cleared (2 * counted s.unified) (first_of child) s.trail ≡ trail)
  head-undone s e =
      let first : number_at child 0 ≡ first_of child = add-zero (first_of child) in
      let u = subst (λ (r : Store). Undoable child own r 0 array whole trail) e
      (unify_head-undoable child own Known child_base small image words slot arity head goal
      (λ k h variable. inr (omega arith, omega (arith, ready.heads k h variable))) (λ k h variable. inl (ready.goals k h variable))
      array whole trail 0 kept-laid (rw first (ready.trail_reaches, ready.blank))) in
      let count : counted s.unified ≡ u.made = u.all ∙ zero-add u.made in (
        ap (λ (n : ℕ). undone n s.trail (first_of child) s.array) count ∙ ap (λ (n : ℕ). undone u.made s.trail n s.array) (sym first) ∙ u.unbound,
        u.bared ∙ cleared-laid own (first_of child) child_base cells ready.bare,
        ap (λ (n : ℕ). cleared (2 * n) (first_of child) s.trail) count ∙ ap (λ (n : ℕ). cleared (2 * u.made) n s.trail) (sym first) ∙ u.blanked,
      )

  -- "Failure: Tried; only that count has changed"
  pub failure-undone : (s : Store) (count : ℕ) → unify_head arity image words child child_base slot head goal array (laid own (first_of child) child_base cells) trail 0 ≡ s
      → s.unified ≡ Err (clash count)
      → (undone count s.trail (first_of child) s.array ≡ array) × (cleared own (first_of child) s.cells ≡ cells) × (cleared (2 * count) (first_of child) s.trail ≡ trail)
  failure-undone s count e failed =
      let back = head-undone s e in
      let same : counted s.unified ≡ count = ap counted failed in (
        ap (λ (n : ℕ). undone n s.trail (first_of child) s.array) (sym same) ∙ back.0,
        back.1,
        ap (λ (n : ℕ). cleared (2 * n) (first_of child) s.trail) (sym same) ∙ back.2,
      )
