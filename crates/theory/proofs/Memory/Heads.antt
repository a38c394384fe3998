-- Unifying a head in cells and array is the definition's unifying by number, and the trail has its conditional bindings in order.
-- Serves rule 7 of document 01's steps, and demand 3. Assumes nothing.
use Rattle.std.specs.Prelude.{Bool, ◌⊎◌, ◌+◌, ◌<◌, suc, ℕ, eqb, ltb}
use Rattle.std.proofs.Math.Bool.{false, true}
use mathlib.Core.List.Memᴰ
use mathlib.Core.List.{List, Memᴰ, [], ◌++◌, ◌∷◌, append_assoc, append-nil}
use Rattle.std.proofs.Common.{inl, inr, ◌∙◌}
use Rattle.std.proofs.Math.Option.{Option, none, some}
use Rattle.std.proofs.Math.Path.{◌≡◌, ap, refl, sym}
use native.Mathlib.Omega.{arith}
use Rattle.model.specs.Definition.{Binding, Value, binding, const, dereference, dereference_argument, dereference_in, ref, unbound, unify, unify_head}
use Rattle.model.specs.Rules.{Argument, con, var}
use Rattle.theory.proofs.Definition.Lookup.{dereference_in-unbound}
use Rattle.theory.specs.Definition.Sane.{ReferencesFall, Sane, VariablesBelow}
use Rattle.theory.proofs.Definition.Unifying.{dereference_argument-shows, made-sane, unify-made}
use Rattle.theory.proofs.Kit.Maps.{some-none}
use Rattle.theory.proofs.Memory.Binding.{dereference_stored-agrees, represents-bind}
use Rattle.theory.specs.Memory.Represents.{ArgumentAlike, Clean, DereferencesAlike, FrameCells, GotOn, HeadAgrees, Linked, OneCell, PairAgrees, PairFits, Place, Represents, clean-constant, clean-unbound, heads-fail, heads-fit, pairs-fail, pairs-fit}
use Rattle.theory.specs.Memory.Store.{Got, Shown, Store, TrailEntry, Word, Work, bind_and_trail, by_number, con_word, conditionals_shown, dereference_argument_stored, dereference_stored, got_constant, got_unbound, lookup_stored, ref_word, shown_entries, unbound_word, unify_head_stored, unify_stored, value, with_entry}

pub conditionals_shown-append : (M N : List Binding) → conditionals_shown (M ++ N) ≡ conditionals_shown M ++ conditionals_shown N
unfolding conditionals_shown
conditionals_shown-append [] N = refl
conditionals_shown-append (b ∷ M) N = go b.conditional (conditionals_shown-append M N)
  where
    go : (t : Bool) → conditionals_shown (M ++ N) ≡ conditionals_shown M ++ conditionals_shown N
        → (elim t [ true ↦ record { number = b.number; value = some b.value } ∷ conditionals_shown (M ++ N) | false ↦ conditionals_shown (M ++ N) ]) ≡ (elim t [ true ↦ record { number = b.number; value = some b.value } ∷ conditionals_shown M | false ↦ conditionals_shown M ]) ++ conditionals_shown N
    go true e = ap (λ (l : List Shown). record { number = b.number; value = some b.value } ∷ l) e
    go false e = e

module _ (A : Place) where
  pub shown_entries-append : (s t : List TrailEntry) → shown_entries A.number (s ++ t) ≡ shown_entries A.number s ++ shown_entries A.number t
  unfolding shown_entries
  shown_entries-append [] t = refl
  shown_entries-append (m ∷ s) t = ap (λ (l : List Shown). record { number = m.number; value = value A.number m.word } ∷ l) (shown_entries-append s t)

  pair_fits-none : (B : List Binding) (W : Work) → Represents A B W.store → PairFits A B [] W W
  unfolding conditionals_shown
  pair_fits-none B W r = record { rep = rw append-nil r; linked = λ h. h; trail = sym (append-nil (shown_entries A.number W.trail)) }

  pair_fits-bind : OneCell A → (base : ℕ) (B : List Binding) (W : Work) (a : ℕ) (v : Word) (x : Value) → A.On a → lookup_stored A.number W.store a ≡ unbound_word
      → value A.number v ≡ some x → ((b : ℕ) → v ≡ ref_word b → A.On b)
      → Represents A B W.store → PairFits A B (binding base (A.number a) x ∷ []) W (bind_and_trail A.number base W a v)
  unfolding bind_and_trail with_entry conditionals_shown shown_entries
  pair_fits-bind inj base B W a v x oa e vx on r = record { rep = represents-bind A inj base B W.store a v x oa e vx on r; linked = links (ltb (A.number a) base); trail = go (ltb (A.number a) base) refl }
    where
      links : (t : Bool) → Linked A W.trail → Linked A (with_entry t W.trail (A.number a) v)
      links true h m k b q = new (Memᴰ.append_cases W.trail k)
        where
          new : Memᴰ m W.trail ⊎ Memᴰ m (record { number = A.number a; word = v } ∷ []) → A.On b
          new (inl k) = h m k b q
          new (inr k) = on b (sym (ap (λ (y : TrailEntry). y.word) (Memᴰ.eq_of_singleton k)) ∙ q)
      links false h m k b q = h m k b q

      go : (t : Bool) → ltb (A.number a) base ≡ t
          → shown_entries A.number (with_entry (ltb (A.number a) base) W.trail (A.number a) v) ≡ shown_entries A.number W.trail ++ conditionals_shown (binding base (A.number a) x ∷ [])
      go true q = rw (q) (shown_entries-append W.trail (record { number = A.number a; word = v } ∷ []) ∙ ap (λ (y : Option Value). shown_entries A.number W.trail ++ (record { number = A.number a; value = y } ∷ [])) vx)
      go false q = rw (q) (sym (append-nil (shown_entries A.number W.trail)))

  pub unify_stored-agrees : OneCell A → (base : ℕ) (B : List Binding) (W : Work) (g h : Got) → Clean A W.store g → Clean A W.store h → Represents A B W.store
      → PairAgrees A B W (unify base (by_number A.number g) (by_number A.number h)) (unify_stored A.number base W g h)
  unfolding unify unify_stored by_number value
  unify_stored-agrees inj base B W (got_constant a) (got_constant b) p q r = go (eqb a b)
    where
      go : (t : Bool) → PairAgrees A B W (elim t [ true ↦ some [] | false ↦ none ]) (elim t [ true ↦ some W | false ↦ none ])
      go true = pairs-fit (pair_fits-none B W r)
      go false = pairs-fail
  unify_stored-agrees inj base B W (got_constant a) (got_unbound y) p (clean-unbound o u) r = pairs-fit (pair_fits-bind inj base B W y (con_word a) (const a) o u refl (λ b z. absurd (kon-link z)) r)
    where
      kon-link : {b : ℕ} → con_word a ≡ ref_word b → ⊥
      kon-link z = let k : ◌≡◌ {A = ℕ} 0 1 = cc in omega arith
  unify_stored-agrees inj base B W (got_unbound x) (got_constant b) (clean-unbound o u) q r = pairs-fit (pair_fits-bind inj base B W x (con_word b) (const b) o u refl (λ c z. absurd (kon-link z)) r)
    where
      kon-link : {c : ℕ} → con_word b ≡ ref_word c → ⊥
      kon-link z = let k : ◌≡◌ {A = ℕ} 0 1 = cc in omega arith
  unify_stored-agrees inj base B W (got_unbound x) (got_unbound y) (clean-unbound ox ux) (clean-unbound oy uy) r = go (eqb (A.number x) (A.number y)) (ltb (A.number x) (A.number y))
    where
      unlink : (a b : ℕ) → ref_word a ≡ ref_word b → a ≡ b
      unlink a b z = cc

      go : (t k : Bool) → PairAgrees A B W
          (elim t [ true ↦ some [] | false ↦ elim k [ true ↦ some (binding base (A.number y) (ref (A.number x)) ∷ []) | false ↦ some (binding base (A.number x) (ref (A.number y)) ∷ []) ] ])
          (elim t [ true ↦ some W | false ↦ elim k [ true ↦ some (bind_and_trail A.number base W y (ref_word x)) | false ↦ some (bind_and_trail A.number base W x (ref_word y)) ] ])
      go true k = pairs-fit (pair_fits-none B W r)
      go false true = pairs-fit (pair_fits-bind inj base B W y (ref_word x) (ref (A.number x)) oy uy refl (λ b z. rw (← (unlink x b z)) ox) r)
      go false false = pairs-fit (pair_fits-bind inj base B W x (ref_word y) (ref (A.number y)) ox ux refl (λ b z. rw (← (unlink y b z)) oy) r)

  value-unbound : (w : Word) → value A.number w ≡ none → w ≡ unbound_word
  unfolding value
  value-unbound unbound_word e = refl
  value-unbound (con_word c) e = absurd (some-none refl e)
  value-unbound (ref_word a) e = absurd (some-none refl e)

  dereference_argument_stored-variable : (B : List Binding) (b n : ℕ) (S : Store) (cell_at : ℕ → ℕ) (i : ℕ) → Sane B → Represents A B S → FrameCells A b n cell_at → i < n
      → ArgumentAlike A B b S cell_at (var i)
  unfolding dereference_argument_stored dereference_argument dereference by_number GotOn
  dereference_argument_stored-variable B b n S cell_at i s r frame l = go (dereference_stored A.number (suc (A.number (cell_at i))) S (cell_at i)) refl
    where
      d : DereferencesAlike A B (suc (A.number (cell_at i))) S (cell_at i)
      d = dereference_stored-agrees A (suc (A.number (cell_at i))) B S (cell_at i) r (frame.on i l)

      alike : by_number A.number (dereference_stored A.number (suc (A.number (cell_at i))) S (cell_at i)) ≡ dereference_in (suc (b + i)) B (b + i)
      alike = d.is ∙ ap (λ (k : ℕ). dereference_in (suc k) B k) (frame.number i l)

      go : (g : Got) → dereference_stored A.number (suc (A.number (cell_at i))) S (cell_at i) ≡ g → ArgumentAlike A B b S cell_at (var i)
      go (got_constant c) q = record { is = alike; clean = rw q clean-constant }
      go (got_unbound a) q =
          let o : A.On a = rw q at d.on in
          let f : dereference_in (suc (A.number (cell_at i))) B (A.number (cell_at i)) ≡ unbound (A.number a) = sym d.is ∙ ap (by_number A.number) q in
          let u = dereference_in-unbound (suc (A.number (cell_at i))) B (A.number (cell_at i)) (A.number a) (unfold ReferencesFall in s.falls) (omega arith) f in
          record { is = alike; clean = rw q (clean-unbound o (value-unbound (lookup_stored A.number S a) (sym (r.same a o) ∙ u.missing))) }

  dereference_argument_stored-agrees : (B : List Binding) (b n : ℕ) (S : Store) (cell_at : ℕ → ℕ) (x : Argument) → Sane B → Represents A B S → FrameCells A b n cell_at
      → VariablesBelow n (x ∷ []) → ArgumentAlike A B b S cell_at x
  unfolding dereference_argument_stored dereference_argument by_number VariablesBelow
  dereference_argument_stored-agrees B b n S cell_at (con c) s r frame l = record { is = refl; clean = clean-constant }
  dereference_argument_stored-agrees B b n S cell_at (var i) s r frame (l, t) = dereference_argument_stored-variable B b n S cell_at i s r frame l

  -- head unification on cells and array is the definition's, and the trail has its conditional bindings in order
  pub unify_head_stored-agrees : OneCell A → (base head_variables : ℕ) (head_cell : ℕ → ℕ) (goal_base goal_variables : ℕ) (goal_cell : ℕ → ℕ)
      → FrameCells A base head_variables head_cell → FrameCells A goal_base goal_variables goal_cell
      → (hs gs : List Argument) (B : List Binding) (W : Work) → VariablesBelow head_variables hs → VariablesBelow goal_variables gs → Sane B → Represents A B W.store
      → HeadAgrees A B W (unify_head B base hs goal_base gs) (unify_head_stored A.number base W head_cell hs goal_cell gs)
  unfolding unify_head unify_head_stored VariablesBelow conditionals_shown
  unify_head_stored-agrees inj base head_variables head_cell goal_base goal_variables goal_cell fh fg [] [] B W bh bg s r = heads-fit (record { made = []; linked = λ h. h; is = sym (append-nil B); rep = r; trail = sym (append-nil (shown_entries A.number W.trail)) })
  unify_head_stored-agrees inj base head_variables head_cell goal_base goal_variables goal_cell fh fg [] (g ∷ gs) B W bh bg s r = heads-fail
  unify_head_stored-agrees inj base head_variables head_cell goal_base goal_variables goal_cell fh fg (h ∷ hs) [] B W bh bg s r = heads-fail
  unify_head_stored-agrees inj base head_variables head_cell goal_base goal_variables goal_cell fh fg (h ∷ hs) (g ∷ gs) B W bh bg s r =
      go (unify base (dereference_argument B base h) (dereference_argument B goal_base g)) refl (unify_stored A.number base W (dereference_argument_stored A.number W.store head_cell h) (dereference_argument_stored A.number W.store goal_cell g))
      (rw (← rh.is, ← rg.is) (unify_stored-agrees inj base B W (dereference_argument_stored A.number W.store head_cell h) (dereference_argument_stored A.number W.store goal_cell g) rh.clean rg.clean r))
      (λ M W' sm rm. unify_head_stored-agrees inj base head_variables head_cell goal_base goal_variables goal_cell fh fg hs gs (B ++ M) W' (rest head_variables h hs bh) (rest goal_variables g gs bg) sm rm)
    where
      rest : (n : ℕ) (x : Argument) (xs : List Argument) → VariablesBelow n (x ∷ xs) → VariablesBelow n xs
      rest n (con c) xs b = b
      rest n (var i) xs b = b.1

      head : (n : ℕ) (x : Argument) (xs : List Argument) → VariablesBelow n (x ∷ xs) → VariablesBelow n (x ∷ [])
      head n (con c) xs b = tt
      head n (var i) xs b = (b.0, tt)

      rh : ArgumentAlike A B base W.store head_cell h
      rh = dereference_argument_stored-agrees B base head_variables W.store head_cell h s r fh (head head_variables h hs bh)

      rg : ArgumentAlike A B goal_base W.store goal_cell g
      rg = dereference_argument_stored-agrees B goal_base goal_variables W.store goal_cell g s r fg (head goal_variables g gs bg)

      join : (M : List Binding) (W' : Work) → PairFits A B M W W' → (x : Option (List Binding)) (y : Option Work) → HeadAgrees A (B ++ M) W' x y → HeadAgrees A B W x y
      join M W' f none none heads-fail = heads-fail
      join M W' f none (some X) h = elim h [ ]
      join M W' f (some B') none h = elim h [ ]
      join M W' f (some B') (some X) (heads-fit a) =
          heads-fit (record {
            made = M ++ a.made;
            linked = λ h. a.linked (f.linked h);
            is = a.is ∙ append_assoc B M a.made;
            rep = a.rep;
            trail = a.trail ∙ ap (λ (l : List Shown). l ++ conditionals_shown a.made) f.trail ∙ append_assoc (shown_entries A.number W.trail) (conditionals_shown M) (conditionals_shown a.made) ∙ ap (λ (l : List Shown). shown_entries A.number W.trail ++ l) (sym (conditionals_shown-append M a.made));
          })

      go : (x : Option (List Binding)) → unify base (dereference_argument B base h) (dereference_argument B goal_base g) ≡ x → (y : Option Work) → PairAgrees A B W x y
          → ((M : List Binding) (W' : Work) → Sane (B ++ M) → Represents A (B ++ M) W'.store → HeadAgrees A (B ++ M) W' (unify_head (B ++ M) base hs goal_base gs) (unify_head_stored A.number base W' head_cell hs goal_cell gs))
          → HeadAgrees A B W (elim x [ none ↦ none | some M ↦ unify_head (B ++ M) base hs goal_base gs ]) (elim y [ none ↦ none | some W' ↦ unify_head_stored A.number base W' head_cell hs goal_cell gs ])
      go none q none pairs-fail ih = heads-fail
      go none q (some W') h ih = elim h [ ]
      go (some M) q none h ih = elim h [ ]
      go (some M) q (some W') (pairs-fit f) ih =
          let m = unify-made B base (dereference_argument B base h) (dereference_argument B goal_base g) (dereference_argument-shows B base h s (dereference_argument B base h) refl) (dereference_argument-shows B goal_base g s (dereference_argument B goal_base g) refl) M q in
          join M W' f (unify_head (B ++ M) base hs goal_base gs) (unify_head_stored A.number base W' head_cell hs goal_cell gs) (ih M W' (made-sane B M m s) f.rep)
