-- Trail entries along a line against the definition's conditional bindings: different numbers, taking a trail out, and what each array word holds.
-- Serves demand 3: "exactly the conditional binding that the definition has on the path from the root, and zero elsewhere". Assumes nothing.
use Rattle.std.specs.Prelude.{Bool, false, true, ◌≢◌, ◌⊎◌, ◌≡◌, eqb}
use mathlib.Core.List.{List, [], ◌∷◌}
use Rattle.std.proofs.Common.{inl, inr, ◌∙◌, sym, eq-eqb, eqb-true, ne_eqb}
use Rattle.std.proofs.Math.Option.{Option, none, some}
use Rattle.std.proofs.Math.Path.{ap, fun_ext, refl}
use Prim.Native.Nat.{ℕ}
use Rattle.std.proofs.lemmas.Bool.{eqb-false}
use Rattle.model.specs.Definition.{Binding, Value, conditionals, lookup}
use Rattle.model.specs.Maps.{put}
use Rattle.theory.proofs.Definition.Lookup.{lookup-here, lookup-next}
use Rattle.theory.specs.Definition.Sane.{BoundOnce}
use Rattle.theory.proofs.Kit.Maps.{put_other, put_same, some-none}
use Rattle.theory.specs.Memory.Represents.{Place, ShownAt, ShownOnce, lookup_shown}
use Rattle.theory.specs.Memory.Store.{Shown, TrailEntry, Word, conditionals_shown, install_map, shown_entries, unbound_word, undo_map, value}

-- bound nowhere, so not among the conditional ones
conditionals_shown-unbound : (B : List Binding) (n : ℕ) → lookup B n ≡ none → ShownAt n (conditionals_shown B) → ⊥
unfolding conditionals_shown ShownAt
conditionals_shown-unbound [] n e o = o
conditionals_shown-unbound (b ∷ B) n e o = go (eqb n b.number) refl b.conditional refl (conditionals_shown-unbound B n)
  where
    go : (t : Bool) → eqb n b.number ≡ t → (c : Bool) → b.conditional ≡ c → (lookup B n ≡ none → ShownAt n (conditionals_shown B) → ⊥) → ⊥
    go true q c k ih = some-none (lookup-here b B n (eqb-true n b.number q)) e
    go false q true k ih = both (rw (k, conditionals_shown) at o)
      where
        both : (n ≡ b.number) ⊎ ShownAt n (conditionals_shown B) → ⊥
        both (inl z) = eqb-false n b.number q z
        both (inr z) = ih (sym (lookup-next b B n (eqb-false n b.number q)) ∙ e) z
    go false q false k ih = ih (sym (lookup-next b B n (eqb-false n b.number q)) ∙ e) (rw (k, conditionals_shown) at o)

pub conditionals_shown-once : (B : List Binding) → BoundOnce B → ShownOnce (conditionals_shown B)
unfolding BoundOnce conditionals_shown ShownOnce
conditionals_shown-once [] d = tt
conditionals_shown-once (b ∷ B) (h, d) = go b.conditional (conditionals_shown-once B d)
  where
    go : (c : Bool) → ShownOnce (conditionals_shown B)
        → ShownOnce (elim c [ true ↦ record { number = b.number; value = some b.value } ∷ conditionals_shown B | false ↦ conditionals_shown B ])
    go true o = (conditionals_shown-unbound B b.number h, o)
    go false o = o

lookup_shown-here : (s : Shown) (l : List Shown) (n : ℕ) → n ≡ s.number → lookup_shown (s ∷ l) n ≡ s.value
unfolding lookup_shown
lookup_shown-here s l n e = rw (eq-eqb n s.number e, lookup_shown)

lookup_shown-next : (s : Shown) (l : List Shown) (n : ℕ) → n ≢ s.number → lookup_shown (s ∷ l) n ≡ lookup_shown l n
unfolding lookup_shown
lookup_shown-next s l n e = rw (ne_eqb n s.number e, lookup_shown)

-- looking among the conditional bindings is looking among what they show
pub lookup_shown-conditionals : (B : List Binding) (n : ℕ) → lookup_shown (conditionals_shown B) n ≡ lookup (conditionals B) n
unfolding conditionals conditionals_shown lookup_shown lookup
lookup_shown-conditionals [] n = refl
lookup_shown-conditionals (b ∷ B) n = go b.conditional (lookup_shown-conditionals B n)
  where
    go : (c : Bool) → lookup_shown (conditionals_shown B) n ≡ lookup (conditionals B) n
        → lookup_shown (elim c [ true ↦ record { number = b.number; value = some b.value } ∷ conditionals_shown B | false ↦ conditionals_shown B ]) n ≡ lookup (elim c [ true ↦ b ∷ conditionals B | false ↦ conditionals B ]) n
    go true e = next (eqb n b.number)
      where
        next : (t : Bool)
            → ◌≡◌ {A = Option Value} (elim t [ true ↦ some b.value | false ↦ lookup_shown (conditionals_shown B) n ]) (elim t [ true ↦ some b.value | false ↦ lookup (conditionals B) n ])
        next true = refl
        next false = e
    go false e = e

module _ (A : Place) where
  pub install_map-elsewhere : (t : List TrailEntry) (f : ℕ → Word) (n : ℕ) → (ShownAt n (shown_entries A.number t) → ⊥) → install_map t f n ≡ f n
  unfolding install_map shown_entries ShownAt
  install_map-elsewhere [] f n h = refl
  install_map-elsewhere (m ∷ t) f n h = install_map-elsewhere t (put f m.number m.word) n (λ o. h (inr o)) ∙ put_other f m.number n m.word (λ e. h (inl e))

  -- put over an unbound word and taken out again
  put-undo : (f : ℕ → Word) (n : ℕ) (v : Word) → f n ≡ unbound_word → put (put f n v) n unbound_word ≡ f
  put-undo f n v e = fun_ext (λ i. go i (eqb i n) refl)
    where
      go : (i : ℕ) → (b : Bool) → eqb i n ≡ b → put (put f n v) n unbound_word i ≡ f i
      go i true q = let z = eqb-true i n q in ap (put (put f n v) n unbound_word) z ∙ put_same (put f n v) n unbound_word ∙ sym e ∙ ap f (sym z)
      go i false q = let z = eqb-false i n q in put_other (put f n v) n i unbound_word z ∙ put_other f n i v z

  -- going up: the trail of a node is taken out
  pub undo_map-install_map : (t : List TrailEntry) (f : ℕ → Word) → ShownOnce (shown_entries A.number t)
      → ((n : ℕ) → ShownAt n (shown_entries A.number t) → f n ≡ unbound_word) → undo_map t (install_map t f) ≡ f
  unfolding undo_map install_map shown_entries ShownAt ShownOnce
  undo_map-install_map [] f d c = refl
  undo_map-install_map (m ∷ t) f (h, d) c =
      let ih = undo_map-install_map t (put f m.number m.word) d (λ n o. put_other f m.number n m.word (λ e. h (rw e at o)) ∙ c n (inr o)) in
      ap (λ (g : ℕ → Word). put g m.number unbound_word) ih ∙ put-undo f m.number m.word (c m.number (inl refl))

  -- Demand 3: each array word is the conditional binding of its number, and unbound elsewhere
  pub install_map-exact : (t : List TrailEntry) (f : ℕ → Word) (n : ℕ) → ShownOnce (shown_entries A.number t) → value A.number (f n) ≡ none
      → value A.number (install_map t f n) ≡ lookup_shown (shown_entries A.number t) n
  unfolding install_map shown_entries ShownOnce lookup_shown
  install_map-exact [] f n d e = e
  install_map-exact (m ∷ t) f n (h, d) e = go (eqb n m.number) refl (install_map-exact t (put f m.number m.word) n d)
    where
      s : Shown
      s = record { number = m.number; value = value A.number m.word }

      go : (b : Bool) → eqb n m.number ≡ b
          → (value A.number (put f m.number m.word n) ≡ none → value A.number (install_map t (put f m.number m.word) n) ≡ lookup_shown (shown_entries A.number t) n)
          → value A.number (install_map t (put f m.number m.word) n) ≡ lookup_shown (record { number = m.number; value = value A.number m.word } ∷ shown_entries A.number t) n
      go true q ih =
          let z = eqb-true n m.number q in
          ap (value A.number) (install_map-elsewhere t (put f m.number m.word) n (λ o. h (rw z at o)) ∙ ap (put f m.number m.word) z ∙ put_same f m.number m.word) ∙ sym (lookup_shown-here (record { number = m.number; value = value A.number m.word }) (shown_entries A.number t) n z)
      go false q ih =
          let z = eqb-false n m.number q in
          ih (ap (value A.number) (put_other f m.number n m.word z) ∙ e) ∙ sym (lookup_shown-next (record { number = m.number; value = value A.number m.word }) (shown_entries A.number t) n z)
