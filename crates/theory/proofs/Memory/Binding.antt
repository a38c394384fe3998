-- Dereferencing in cells and array agrees with dereferencing by number; one binding more on both sides still agrees.
-- Serves "both dereferenced" and "Unifying" of document 01's steps. Assumes nothing.
use Rattle.std.specs.Prelude.{Bool, List, [], ◌++◌, ◌∷◌, ◌≢◌, ◌≡◌, eqb}
use Rattle.std.proofs.Math.Bool.{false, true}
use Rattle.std.proofs.Math.Option.{Option, none, some}
use Rattle.std.proofs.Common.{◌∙◌, arith, eqb-true}
use Rattle.std.proofs.Math.Path.{ap, refl, sym}
use Prim.Native.Nat.{suc, zero, ℕ}
use Rattle.std.proofs.Math.Dec.{ltb}
use Rattle.std.proofs.lemmas.Bool.{eqb-false}
use Rattle.model.specs.Definition.{Binding, Value, binding, const, dereference_in, lookup, ref}
use Rattle.model.specs.Maps.{put}
use Rattle.theory.proofs.Definition.Lookup.{dereference_in-const, dereference_in-none, dereference_in-ref, lookup-append-none, lookup-append-some, lookup-here, lookup-next}
use Rattle.theory.proofs.Kit.Maps.{put_other, put_same}
use Rattle.theory.specs.Memory.Represents.{DereferencesAlike, GotOn, OneCell, Place, Represents}
use Rattle.theory.specs.Memory.Store.{Store, Word, bind_stored, by_number, cell_else_array, con_word, dereference_stored, lookup_stored, ref_word, unbound_word, value}

cell_else_array-unbound : (x y : Word) → cell_else_array x y ≡ unbound_word → (x ≡ unbound_word) × (y ≡ unbound_word)
unfolding cell_else_array
cell_else_array-unbound unbound_word y e = (refl, e)
cell_else_array-unbound (con_word c) y e = let z : ◌≡◌ {A = ℕ} 0 1 = cc in absurd (omega arith)
cell_else_array-unbound (ref_word a) y e = let z : ◌≡◌ {A = ℕ} 0 1 = cc in absurd (omega arith)

cell_else_array-cell : (x : Word) → cell_else_array x unbound_word ≡ x
unfolding cell_else_array
cell_else_array-cell unbound_word = refl
cell_else_array-cell (con_word c) = refl
cell_else_array-cell (ref_word a) = refl

module _ (A : Place) where
  pub dereference_stored-agrees : (f : ℕ) (B : List Binding) (S : Store) (a : ℕ) → Represents A B S → A.On a → DereferencesAlike A B f S a
  unfolding dereference_stored by_number GotOn dereference_in value
  dereference_stored-agrees zero B S a r o = record { is = refl; on = o }
  dereference_stored-agrees (suc f) B S a r o = go (lookup_stored A.number S a) refl (λ b p. dereference_stored-agrees f B S b r p)
    where
      go : (x : Word) → lookup_stored A.number S a ≡ x → ((b : ℕ) → A.On b → DereferencesAlike A B f S b) → DereferencesAlike A B (suc f) S a
      go unbound_word q ih = rw-unb
        where
          l : lookup B (A.number a) ≡ none
          l = r.same a o ∙ ap (value A.number) q

          rw-unb : DereferencesAlike A B (suc f) S a
          rw-unb = record { is = rw (q, dereference_stored) (sym (dereference_in-none f B (A.number a) l)); on = rw (q, dereference_stored) o }
      go (con_word c) q ih =
          let l : lookup B (A.number a) ≡ some (const c) = r.same a o ∙ ap (value A.number) q in
          record { is = rw (q, dereference_stored) (sym (dereference_in-const f B (A.number a) c l)); on = rw (q, dereference_stored) tt }
      go (ref_word b) q ih =
          let l : lookup B (A.number a) ≡ some (ref (A.number b)) = r.same a o ∙ ap (value A.number) q in
          let d = ih b (r.kept a b o q) in
          record { is = rw (q, dereference_stored) (d.is ∙ sym (dereference_in-ref f B (A.number a) (A.number b) l)); on = rw (q, dereference_stored) d.on }

  pub bind_stored-conditional : (base : ℕ) (S : Store) (a : ℕ) (v : Word) → ltb (A.number a) base ≡ true
      → bind_stored A.number base S a v ≡ record { cell = S.cell; array = put S.array (A.number a) v }
  unfolding bind_stored
  bind_stored-conditional base S a v q = rw (q, bind_stored) refl

  pub bind_stored-own : (base : ℕ) (S : Store) (a : ℕ) (v : Word) → ltb (A.number a) base ≡ false
      → bind_stored A.number base S a v ≡ record { cell = put S.cell a v; array = S.array }
  unfolding bind_stored
  bind_stored-own base S a v q = rw (q, bind_stored) refl

  pub bind_stored-here : (base : ℕ) (S : Store) (a : ℕ) (v : Word) → lookup_stored A.number S a ≡ unbound_word
      → lookup_stored A.number (bind_stored A.number base S a v) a ≡ v
  unfolding lookup_stored cell_else_array
  bind_stored-here base S a v e = go (ltb (A.number a) base) refl (cell_else_array-unbound (S.cell a) (S.array (A.number a)) e)
    where
      go : (t : Bool) → ltb (A.number a) base ≡ t → (S.cell a ≡ unbound_word) × (S.array (A.number a) ≡ unbound_word)
          → cell_else_array ((bind_stored A.number base S a v).cell a) ((bind_stored A.number base S a v).array (A.number a)) ≡ v
      go true q (c, r) = rw (bind_stored-conditional base S a v q, put_same S.array (A.number a) v, c) refl
      go false q (c, r) = rw (bind_stored-own base S a v q, put_same S.cell a v, r) (cell_else_array-cell v)

  pub bind_stored-elsewhere : OneCell A → (base : ℕ) (S : Store) (a b : ℕ) (v : Word) → A.On a → A.On b → b ≢ a
      → lookup_stored A.number (bind_stored A.number base S a v) b ≡ lookup_stored A.number S b
  unfolding lookup_stored cell_else_array
  bind_stored-elsewhere inj base S a b v oa ob h = go (ltb (A.number a) base) refl
    where
      go : (t : Bool) → ltb (A.number a) base ≡ t
          → cell_else_array ((bind_stored A.number base S a v).cell b) ((bind_stored A.number base S a v).array (A.number b)) ≡ cell_else_array (S.cell b) (S.array (A.number b))
      go true q = rw (bind_stored-conditional base S a v q, put_other S.array (A.number a) (A.number b) v (λ z. h (inj b a ob oa z))) refl
      go false q = rw (bind_stored-own base S a v q, put_other S.cell a b v h) refl

  -- one binding more on both sides
  pub represents-bind : OneCell A → (base : ℕ) (B : List Binding) (S : Store) (a : ℕ) (v : Word) (x : Value) → A.On a → lookup_stored A.number S a ≡ unbound_word
      → value A.number v ≡ some x → ((b : ℕ) → v ≡ ref_word b → A.On b)
      → Represents A B S → Represents A (B ++ (binding base (A.number a) x ∷ [])) (bind_stored A.number base S a v)
  unfolding value
  represents-bind inj base B S a v x oa e vx on r = record { same = λ b ob. same b ob (eqb b a) refl; kept = λ b c ob q. kept b c ob q (eqb b a) refl }
    where
      gone : lookup B (A.number a) ≡ none
      gone = r.same a oa ∙ ap (value A.number) e

      was : (b : ℕ) (o : Option Value) → lookup B (A.number b) ≡ o → A.On b → b ≢ a
          → lookup (B ++ (binding base (A.number a) x ∷ [])) (A.number b) ≡ lookup B (A.number b)
      was b none q ob h = lookup-append-none B (binding base (A.number a) x ∷ []) (A.number b) q ∙ lookup-next (binding base (A.number a) x) [] (A.number b) (λ z. h (inj b a ob oa z)) ∙ unfold lookup in (sym q)
      was b (some y) q ob h = lookup-append-some B (binding base (A.number a) x ∷ []) (A.number b) y q ∙ sym q

      same : (b : ℕ) → A.On b → (t : Bool) → eqb b a ≡ t
          → lookup (B ++ (binding base (A.number a) x ∷ [])) (A.number b) ≡ value A.number (lookup_stored A.number (bind_stored A.number base S a v) b)
      same b ob true q =
          let z = eqb-true b a q in
          rw (z, lookup-append-none B (binding base (A.number a) x ∷ []) (A.number a) gone, lookup-here (binding base (A.number a) x) [] (A.number a) refl, bind_stored-here base S a v e) (sym vx)
      same b ob false q =
          let z = eqb-false b a q in
          was b (lookup B (A.number b)) refl ob z ∙ r.same b ob ∙ ap (value A.number) (sym (bind_stored-elsewhere inj base S a b v oa ob z))

      kept : (b c : ℕ) → A.On b → lookup_stored A.number (bind_stored A.number base S a v) b ≡ ref_word c → (t : Bool) → eqb b a ≡ t → A.On c
      kept b c ob q true h = let z = eqb-true b a h in on c (sym (bind_stored-here base S a v e) ∙ rw z at q)
      kept b c ob q false h = r.kept b c ob (sym (bind_stored-elsewhere inj base S a b v oa ob (eqb-false b a h)) ∙ q)
