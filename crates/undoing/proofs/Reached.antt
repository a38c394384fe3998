-- The cells that a head's arguments can come to: those of variables on the path to the node, and the child's own. Each leads only to such cells again,
-- and stays so when one of their variables is bound. Document 01, "Shared memory" on values, and "The steps", "Unifying". Assumes nothing.
use Rattle.std.specs.Prelude.{◌≡◌, ◌⊎◌, Bool, List, ltb, set}
use Rattle.std.proofs.Math.Path.{refl}
use Rattle.std.proofs.Common.{sym, ap, subst, ◌∙◌, ⊎_elim, arith, eqb-true}
use Rattle.std.proofs.Math.Bool.{true, false, cond}
use Prim.Native.Nat.{ℕ, zero, suc, ◌<◌}
use Rattle.std.proofs.Math.Dec.{eqb}
use Rattle.std.proofs.Math.ListN.{get_or}
use Rattle.std.proofs.lemmas.Bool.{eqb-false}
use Rattle.model.specs.declared.VarNo.{VarNo}
use Rattle.model.specs.declared.CellAddr.{CellAddr}
use Rattle.model.specs.declared.Found.{Found}
use Rattle.model.specs.declared.Found.TheVariants.{Unbound, Constant}
use Rattle.model.specs.declared.Pairing.{Pairing}
use Rattle.model.specs.declared.Pairing.TheVariants.{Nothing, Clash, Binds}
use Rattle.model.specs.Fields.{op, variable_number, constant}
use Rattle.model.specs.Memory.{tag, value, ref_word, con_word, cell_of}
use Rattle.model.specs.Terms.{var_no, cell_addr, found_said, dereference, argument_of, pairing}
use Rattle.passing.proofs.BoundLaws.{tag-con_word}
use Rattle.paths.proofs.Values.{zero-tag}
use Rattle.undoing.proofs.OwnCells.{tag-ref_word, value-ref_word, get_or-set-either}

-- the cells that can be come to, and among them the child's own
module _ (Known Own : ℕ → Type 0) (child_base : ℕ) where
  -- a REF leads to such a cell
  abbrev pub Leads : ℕ → Type 0
  Leads word = tag word ≡ 1 → Known (value word)

  -- what may be stored: a CON, or a REF to such a cell
  abbrev pub Storable : ℕ → Type 0
  Storable word = Leads word × (tag word ≡ 0 → ⊥)

  -- a cell with its own VNO is the child's, or its number is below the child's base
  abbrev pub KeptAt : List ℕ → ℕ → ℕ → Type 0
  KeptAt array address cell = Leads cell × (tag cell ≡ 0 → ((value cell < child_base) ⊎ Own address) × Leads (get_or array (value cell) 0))

  abbrev pub Kept : List ℕ → List ℕ → Type 0
  Kept array cells = (address : ℕ) → Known address → KeptAt array address (get_or cells address 0)

  pub kept-array : (array cells : List ℕ) (number word : ℕ) → Storable word → Kept array cells → Kept (set array number word) cells
  kept-array array cells number word storable kept address known = (
    (kept address known).0,
    λ own. (
      ((kept address known).1 own).0,
      ⊎_elim
          (λ e. subst Leads (sym e) ((kept address known).1 own).1)
          (λ e. subst Leads (sym e) storable.0)
          (get_or-set-either array number word (value (get_or cells address 0))),
    ),
  )

  pub kept-cells : (array cells : List ℕ) (place word : ℕ) → Storable word → Kept array cells → Kept array (set cells place word)
  kept-cells array cells place word storable kept address known =
      ⊎_elim
      (λ e. subst (KeptAt array address) (sym e) (kept address known))
      (λ e. subst (KeptAt array address) (sym e) (storable.0, λ own. absurd (storable.1 own)))
      (get_or-set-either cells place word address)

  -- a variable found unbound is 0 in the array; its cell can be come to, and is the child's own unless its number is below the child's base
  abbrev pub Open : List ℕ → VarNo → CellAddr → Type 0
  Open array number address = (get_or array number.0 0 ≡ 0) × (((number.0 < child_base) ⊎ Own address.0) × Known address.0)

  abbrev pub FoundWell : List ℕ → Found → Type 0
  FoundWell array (Constant c) = Unit {0}
  FoundWell array (Unbound number address) = Open array number address

  module _ (array cells : List ℕ) (kept : Kept array cells) where
    -- one turn, by what the cell says
    dereference-said : (most address said : ℕ) → Leads said → (said ≡ 0 → Open array (var_no (value (get_or cells address 0))) (cell_addr address))
        → ((place : ℕ) → Known place → FoundWell array (dereference most array cells place))
        → FoundWell array (elim (eqb (tag said) 1) [ true ↦ dereference most array cells (value said) | false ↦ found_said cells said address ])
    unfolding found_said
    dereference-said most address said leads none rest = go (eqb (tag said) 1) (eqb said 0) refl refl
      where
        go : (link? none? : Bool) → eqb (tag said) 1 ≡ link? → eqb said 0 ≡ none?
            → FoundWell array (elim link? [
              | true ↦ dereference most array cells (value said)
              | false ↦ cond none? (Unbound (var_no (value (get_or cells address 0))) (cell_addr address)) (Constant (value said))
            ])
        go true none? l n = rest (value said) (leads (eqb-true (tag said) 1 l))
        go false true l n = none (eqb-true said 0 n)
        go false false l n = tt

    pub dereference-well : (most address : ℕ) → Known address → FoundWell array (dereference most array cells address)
    unfolding dereference
    dereference-well zero address known = tt
    dereference-well (suc most) address known = go (eqb (tag cell) 0) refl (dereference-well most)
      where
        cell : ℕ
        cell = get_or cells address 0

        go : (own? : Bool) → eqb (tag cell) 0 ≡ own? → ((place : ℕ) → Known place → FoundWell array (dereference most array cells place))
            → FoundWell array (elim (eqb (tag (cond own? (get_or array (value cell) 0) cell)) 1) [
              | true ↦ dereference most array cells (value (cond own? (get_or array (value cell) 0) cell))
              | false ↦ found_said cells (cond own? (get_or array (value cell) 0) cell) address
            ])
        go true q rest =
            let own = (kept address known).1 (eqb-true (tag cell) 0 q) in
            dereference-said most address (get_or array (value cell) 0) own.1 (λ z. (z, (own.0, known))) rest
        go false q rest =
            dereference-said most address cell (kept address known).0 (λ z. absurd (eqb-false (tag cell) 0 q (ap tag z ∙ zero-tag))) rest

    pub argument_of-well : (slot word : ℕ) → (op word ≡ 1 → Known (cell_of slot (variable_number word))) → FoundWell array (argument_of array cells slot word)
    unfolding argument_of
    argument_of-well slot word known = go (eqb (op word) 1) refl
      where
        go : (variable? : Bool) → eqb (op word) 1 ≡ variable?
            → FoundWell array (cond variable? (dereference 2048 array cells (cell_of slot (variable_number word))) (Constant (constant word)))
        go true q = dereference-well 2048 (cell_of slot (variable_number word)) (known (eqb-true (op word) 1 q))
        go false q = tt

  -- a pairing binds a variable that was unbound, to what may be stored
  abbrev pub PairedWell : List ℕ → Pairing → Type 0
  PairedWell array Nothing = Unit {0}
  PairedWell array Clash = Unit {0}
  PairedWell array (Binds number address word) = Open array number address × Storable word

  storable-con : (c : ℕ) → Storable (con_word c)
  storable-con c = (λ e. absurd (omega (arith, e, tag-con_word c)), λ e. omega (arith, e, tag-con_word c))

  -- an address has 29 bits
  module _ (small : (address : ℕ) → Known address → address < 536870912) (array : List ℕ) where
    storable-ref : (address : ℕ) → Known address → Storable (ref_word address)
    storable-ref address known = (λ e. subst Known (sym (value-ref_word address (small address known))) known, λ e. omega (arith, e, tag-ref_word address))

    pub pairing-well : (ours theirs : Found) → FoundWell array ours → FoundWell array theirs → PairedWell array (pairing ours theirs)
    unfolding pairing
    pairing-well (Constant a) (Constant b) p q = go (eqb a b)
      where
        go : (equal? : Bool) → PairedWell array (cond equal? Nothing Clash)
        go true = tt
        go false = tt
    pairing-well (Constant a) (Unbound number address) p q = (q, storable-con a)
    pairing-well (Unbound number address) (Constant b) p q = (p, storable-con b)
    pairing-well (Unbound n a) (Unbound m b) p q = go (eqb n.0 m.0) (ltb n.0 m.0)
      where
        go : (same? lower? : Bool) → PairedWell array (cond same? Nothing (cond lower? (Binds m b (ref_word a.0)) (Binds n a (ref_word b.0))))
        go true lower? = tt
        go false true = (q, storable-ref a.0 p.1.1)
        go false false = (p, storable-ref b.0 q.1.1)
