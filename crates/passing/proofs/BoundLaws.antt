-- What binding an unbound variable to a constant does to dereferencing: it finds the same, or a constant where it found nothing bound. Document 01, "Shared memory", on values. Assumes nothing.
use Rattle.std.proofs.Common.{◌≡◌, refl, sym, ap, subst, ◌∙◌, ◌⊎◌, inl, inr, Bool, true, false, cond, List, [], ◌∷◌, ℕ, zero, suc, ◌%◌, ◌^◌, mod-lt, arith, eqb, get_or, set, pow_pos, eqb-true, ne_eqb}
use borrow.Author.Tests.{eqb-false}
use Rattle.model.specs.declared.Kind.TheVariants.{Value}
use Rattle.model.specs.declared.VarNo.{VarNo}
use Rattle.model.specs.declared.CellAddr.{CellAddr}
use Rattle.model.specs.declared.Found.{Found}
use Rattle.model.specs.declared.Found.TheVariants.{Unbound, Constant}
use Rattle.model.specs.Fields.{total, below, field, widths_of, op, variable_number, constant}
use Rattle.model.specs.Memory.{tag, value, cut_to, word_of, con_word, cell_of}
use Rattle.model.specs.Terms.{var_no, cell_addr, says, found_said, dereference, argument_of}
use Rattle.words.proofs.FieldLaws.{field-join}
use Rattle.terms.proofs.TermLaws.{dereference-found}

pub tag-con_word : (c : ℕ) → tag (con_word c) ≡ 2
unfolding widths_of word_of cut_to
tag-con_word c = field-join (widths_of Value) (2 ∷ c % 2 ^ 29 ∷ []) (omega arith, (mod-lt c (pow_pos 29), tt)) 0

tag-zero : tag 0 ≡ 0
unfolding field widths_of below total
tag-zero = refl

-- dereferenced before and after: the same, or it was unbound and is a constant
abbrev pub Bound : Found → Found → Type 0
Bound found later = (later ≡ found) ⊎ ((number : VarNo) × (address : CellAddr) × (b : ℕ) × (found ≡ Unbound number address) × (later ≡ Constant b))

-- a word read before and after
abbrev Written : ℕ → ℕ → Type 0
Written said later = (later ≡ said) ⊎ ((said ≡ 0) × (tag later ≡ 2))

get_or-written : (array : List ℕ) (number word k : ℕ) → get_or array number 0 ≡ 0 → tag word ≡ 2 → Written (get_or array k 0) (get_or (set array number word) k 0)
get_or-written [] number word k was is = inl refl
get_or-written (x ∷ array) zero word zero was is = inr (was, is)
get_or-written (x ∷ array) zero word (suc k) was is = inl refl
get_or-written (x ∷ array) (suc number) word zero was is = inl refl
get_or-written (x ∷ array) (suc number) word (suc k) was is = get_or-written array number word k was is

-- an address that says 0, and one that says a constant
module _ (array cells : List ℕ) (most address : ℕ) where
  dereference-zero : says array cells address ≡ 0 → dereference (suc most) array cells address ≡ Unbound (var_no (value (get_or cells address 0))) (cell_addr address)
  unfolding found_said
  dereference-zero e =
      sym (dereference-found array cells (suc most) address (omega arith) (λ t. omega (arith, ap tag e, tag-zero, t))) ∙ ap (λ (n : ℕ). found_said cells n address) e

  dereference-constant : tag (says array cells address) ≡ 2 → dereference (suc most) array cells address ≡ Constant (value (says array cells address))
  unfolding found_said
  dereference-constant e =
      sym (dereference-found array cells (suc most) address (omega arith) (λ t. omega arith))
      ∙ simp (ne_eqb (says array cells address) 0 (λ z. omega (arith, ap tag z, tag-zero)))

module _ (array cells : List ℕ) (number word : ℕ) (was : get_or array number 0 ≡ 0) (is : tag word ≡ 2) where
  says-written : (address : ℕ) → Written (says array cells address) (says (set array number word) cells address)
  says-written address = go (eqb (tag (get_or cells address 0)) 0)
    where
      go : (own? : Bool) → Written (cond own? (get_or array (value (get_or cells address 0)) 0) (get_or cells address 0))
          (cond own? (get_or (set array number word) (value (get_or cells address 0)) 0) (get_or cells address 0))
      go true = get_or-written array number word (value (get_or cells address 0)) was is
      go false = inl refl

  dereference-bound : (most address : ℕ) → Bound (dereference most array cells address) (dereference most (set array number word) cells address)
  unfolding dereference
  dereference-bound zero address = inl refl
  dereference-bound (suc most) address = go (says-written address) (dereference-bound most)
    where
      said : ℕ
      said = says array cells address

      turn : Bool → List ℕ → ℕ → Found
      turn link? words n = elim link? [ true ↦ dereference most words cells (value n) | false ↦ found_said cells n address ]

      same : (link? : Bool) → ((place : ℕ) → Bound (dereference most array cells place) (dereference most (set array number word) cells place))
          → Bound (turn link? array said) (turn link? (set array number word) said)
      same true rest = rest (value said)
      same false rest = inl refl

      go : Written said (says (set array number word) cells address) → ((place : ℕ) → Bound (dereference most array cells place) (dereference most (set array number word) cells place))
          → Bound (dereference (suc most) array cells address) (dereference (suc most) (set array number word) cells address)
      go (inl e) rest = subst (λ (n : ℕ). Bound (turn (eqb (tag said) 1) array said) (turn (eqb (tag n) 1) (set array number word) n)) (sym e) (same (eqb (tag said) 1) rest)
      go (inr e) rest =
          inr (
            var_no (value (get_or cells address 0)),
            cell_addr address,
            value (says (set array number word) cells address),
            dereference-zero array cells most address e.0,
            dereference-constant (set array number word) cells most address e.1,
          )

  pub argument_of-bound : (slot argument : ℕ) → Bound (argument_of array cells slot argument) (argument_of (set array number word) cells slot argument)
  unfolding argument_of
  argument_of-bound slot argument = go (eqb (op argument) 1)
    where
      go : (variable? : Bool) → Bound (cond variable? (dereference 2048 array cells (cell_of slot (variable_number argument))) (Constant (constant argument)))
          (cond variable? (dereference 2048 (set array number word) cells (cell_of slot (variable_number argument))) (Constant (constant argument)))
      go true = dereference-bound 2048 (cell_of slot (variable_number argument))
      go false = inl refl

-- "an array word 0 means unbound and nothing else"
module _ (array cells : List ℕ) (number : VarNo) (found : CellAddr) where
  says-zero : (address : ℕ) → says array cells address ≡ 0 → get_or array (value (get_or cells address 0)) 0 ≡ 0
  says-zero address e = go (eqb (tag (get_or cells address 0)) 0) refl e
    where
      go : (own? : Bool) → eqb (tag (get_or cells address 0)) 0 ≡ own? → cond own? (get_or array (value (get_or cells address 0)) 0) (get_or cells address 0) ≡ 0
          → get_or array (value (get_or cells address 0)) 0 ≡ 0
      go true q z = z
      go false q z = absurd (eqb-false (tag (get_or cells address 0)) 0 q (ap tag z ∙ tag-zero))

  dereference-unbound : (most address : ℕ) → dereference most array cells address ≡ Unbound number found → get_or array number.0 0 ≡ 0
  unfolding dereference found_said
  dereference-unbound zero address e = let z : ◌≡◌ {A = ℕ} 0 1 = cc in absurd (omega arith)
  dereference-unbound (suc most) address e = go (eqb (tag said) 1) (eqb said 0) refl (dereference-unbound most (value said)) e
    where
      said : ℕ
      said = says array cells address

      go : (link? none? : Bool) → eqb said 0 ≡ none? → (dereference most array cells (value said) ≡ Unbound number found → get_or array number.0 0 ≡ 0)
          → elim link? [
            | true ↦ dereference most array cells (value said)
            | false ↦ cond none? (Unbound (var_no (value (get_or cells address 0))) (cell_addr address)) (Constant (value said))
          ] ≡ Unbound number found → get_or array number.0 0 ≡ 0
      go true none? q rest r = rest r
      go false true q rest r =
          let n : var_no (value (get_or cells address 0)) ≡ number = cc in
          ap (λ (v : VarNo). get_or array v.0 0) (sym n) ∙ says-zero address (eqb-true said 0 q)
      go false false q rest r = let z : ◌≡◌ {A = ℕ} 0 1 = cc in absurd (omega arith)

  pub argument_of-unbound : (slot argument : ℕ) → argument_of array cells slot argument ≡ Unbound number found → get_or array number.0 0 ≡ 0
  unfolding argument_of
  argument_of-unbound slot argument e = go (eqb (op argument) 1) e
    where
      go : (variable? : Bool) → cond variable? (dereference 2048 array cells (cell_of slot (variable_number argument))) (Constant (constant argument)) ≡ Unbound number found
          → get_or array number.0 0 ≡ 0
      go true r = dereference-unbound 2048 (cell_of slot (variable_number argument)) r
      go false r = let z : ◌≡◌ {A = ℕ} 0 1 = cc in absurd (omega arith)
