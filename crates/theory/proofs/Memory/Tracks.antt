-- What unifying a head does to the memory: the array gets the new trail installed, and cells change only in the child's own slot.
-- Serves "it goes into w's array and, in order, the child's trail. Otherwise it is written into the cell" of document 01's steps. Assumes nothing.
use Rattle.std.specs.Prelude.{Bool, ◌≡◌, ℕ}
use Rattle.std.proofs.Math.Bool.{false, true}
use mathlib.Core.List.{List, [], ◌++◌, ◌∷◌, append_assoc, append-nil}
use Rattle.std.proofs.Math.Option.{Option, none, some}
use Rattle.std.proofs.Common.{◌∙◌, arith}
use Rattle.std.proofs.Math.Path.{ap, refl, sym}
use Rattle.std.proofs.Math.Dec.{eqb, ltb}
use borrow.Author.Tests.{ltb-false, ltb-true}
use Rattle.model.specs.Definition.{Binding, lookup}
use Rattle.model.specs.Maps.{put}
use Rattle.model.specs.Rules.{Argument}
use Rattle.theory.proofs.Kit.Maps.{put_other, some-none}
use Rattle.theory.proofs.Memory.Binding.{bind_stored-conditional, bind_stored-own}
use Rattle.theory.specs.Memory.Represents.{Fresh, Place, Represents, Tracks}
use Rattle.theory.specs.Memory.Store.{Got, Store, TrailEntry, Word, Work, bind_and_trail, bind_stored, con_word, dereference_argument_stored, got_constant, got_unbound, install_map, lookup_stored, ref_word, unbound_word, unify_head_stored, unify_stored, value, with_entry}

pub install_map-append : (s t : List TrailEntry) (f : ℕ → Word) → install_map (s ++ t) f ≡ install_map t (install_map s f)
unfolding install_map
install_map-append [] t f = refl
install_map-append (m ∷ s) t f = install_map-append s t (put f m.number m.word)

module _ (A : Place) where
  pub tracks-refl : (base : ℕ) (W : Work) → Tracks A base W W
  unfolding install_map
  tracks-refl base W = record { new = []; trail = sym (append-nil W.trail); array = refl; cells = λ a l. refl; low = λ n l. refl }

  pub tracks-trans : (base : ℕ) (U W X : Work) → Tracks A base U W → Tracks A base W X → Tracks A base U X
  tracks-trans base U W X p q =
      record {
        new = p.new ++ q.new;
        trail = q.trail ∙ ap (λ (t : List TrailEntry). t ++ q.new) p.trail ∙ append_assoc U.trail p.new q.new;
        array = q.array ∙ ap (install_map q.new) p.array ∙ sym (install_map-append p.new q.new U.store.array);
        cells = λ a l. q.cells a l ∙ p.cells a l;
        low = λ n l. q.low n l ∙ p.low n l;
      }

  pub bind_and_trail-tracks : (base : ℕ) (W : Work) (a : ℕ) (v : Word) → Tracks A base W (bind_and_trail A.number base W a v)
  unfolding bind_and_trail with_entry install_map
  bind_and_trail-tracks base W a v = go (ltb (A.number a) base) refl
    where
      go : (t : Bool) → ltb (A.number a) base ≡ t
          → Tracks A base W (record { store = bind_stored A.number base W.store a v; trail = with_entry (ltb (A.number a) base) W.trail (A.number a) v })
      go true q =
          rw (bind_stored-conditional A base W.store a v q, q) (record {
            new = record { number = A.number a; word = v } ∷ [];
            trail = refl;
            array = refl;
            cells = λ b l. refl;
            low = λ n l. let z = ltb-true (A.number a) base q in put_other W.store.array (A.number a) n v (omega arith);
          })
      go false q =
          rw (bind_stored-own A base W.store a v q, q) (record {
            new = [];
            trail = sym (append-nil W.trail);
            array = refl;
            cells = λ b l. put_other W.store.cell a b v (λ e. let z = ltb-false (A.number a) base q in let y : A.number b ≡ A.number a = ap A.number e in omega arith);
            low = λ n l. refl;
          })

  tracks-is : (base : ℕ) (W X Y : Work) → Tracks A base W X → some X ≡ some Y → Tracks A base W Y
  tracks-is base W X Y t e = let z : X ≡ Y = cc in rw (← z) t

  pub unify_stored-tracks : (base : ℕ) (W W' : Work) (g h : Got) → unify_stored A.number base W g h ≡ some W' → Tracks A base W W'
  unfolding unify_stored
  unify_stored-tracks base W W' (got_constant a) (got_constant b) e = go (eqb a b) refl
    where
      go : (t : Bool) → eqb a b ≡ t → Tracks A base W W'
      go true q = tracks-is base W W W' (tracks-refl base W) (rw (q, unify_stored) at e)
      go false q = absurd (some-none e (rw (q, unify_stored) refl))
  unify_stored-tracks base W W' (got_constant a) (got_unbound y) e = tracks-is base W (bind_and_trail A.number base W y (con_word a)) W' (bind_and_trail-tracks base W y (con_word a)) e
  unify_stored-tracks base W W' (got_unbound x) (got_constant b) e = tracks-is base W (bind_and_trail A.number base W x (con_word b)) W' (bind_and_trail-tracks base W x (con_word b)) e
  unify_stored-tracks base W W' (got_unbound x) (got_unbound y) e = go (eqb (A.number x) (A.number y)) refl (ltb (A.number x) (A.number y)) refl
    where
      go : (t : Bool) → eqb (A.number x) (A.number y) ≡ t → (k : Bool) → ltb (A.number x) (A.number y) ≡ k → Tracks A base W W'
      go true q k r = tracks-is base W W W' (tracks-refl base W) (rw (q, unify_stored) at e)
      go false q true r = tracks-is base W (bind_and_trail A.number base W y (ref_word x)) W' (bind_and_trail-tracks base W y (ref_word x)) (rw (q, unify_stored, r, unify_stored) at e)
      go false q false r = tracks-is base W (bind_and_trail A.number base W x (ref_word y)) W' (bind_and_trail-tracks base W x (ref_word y)) (rw (q, unify_stored, r, unify_stored) at e)

  pub unify_head_stored-tracks : (base : ℕ) (head_cell goal_cell : ℕ → ℕ) (hs gs : List Argument) (W W' : Work)
      → unify_head_stored A.number base W head_cell hs goal_cell gs ≡ some W' → Tracks A base W W'
  unfolding unify_head_stored
  unify_head_stored-tracks base head_cell goal_cell [] [] W W' e = tracks-is base W W W' (tracks-refl base W) e
  unify_head_stored-tracks base head_cell goal_cell [] (g ∷ gs) W W' e = absurd (some-none e refl)
  unify_head_stored-tracks base head_cell goal_cell (h ∷ hs) [] W W' e = absurd (some-none e refl)
  unify_head_stored-tracks base head_cell goal_cell (h ∷ hs) (g ∷ gs) W W' e =
      go (unify_stored A.number base W (dereference_argument_stored A.number W.store head_cell h) (dereference_argument_stored A.number W.store goal_cell g)) refl (λ X q. unify_head_stored-tracks base head_cell goal_cell hs gs X W' q)
    where
      go : (o : Option (Work))
          → unify_stored A.number base W (dereference_argument_stored A.number W.store head_cell h) (dereference_argument_stored A.number W.store goal_cell g) ≡ o
          → ((X : Work) → unify_head_stored A.number base X head_cell hs goal_cell gs ≡ some W' → Tracks A base X W') → Tracks A base W W'
      go none q ih = absurd (some-none e (rw (q, unify_head_stored) refl))
      go (some X) q ih = tracks-trans base W X W' (unify_stored-tracks base W X (dereference_argument_stored A.number W.store head_cell h) (dereference_argument_stored A.number W.store goal_cell g) q) (ih X (rw (q, unify_head_stored) at e))

  pub fresh-represents : (base : ℕ) (B : List Binding) (S : Store) → Fresh A base B S → Represents A B S
  unfolding value
  fresh-represents base B S f = record { same = λ a o. same a o (ltb (A.number a) base) refl; kept = λ a b o q. kept a b o q (ltb (A.number a) base) refl }
    where
      same : (a : ℕ) → A.On a → (t : Bool) → ltb (A.number a) base ≡ t → lookup B (A.number a) ≡ value A.number (lookup_stored A.number S a)
      same a o true q = f.old a o (ltb-true (A.number a) base q)
      same a o false q = let l = ltb-false (A.number a) base q in f.low (A.number a) l ∙ sym (ap (value A.number) (f.blank a o l))

      kept : (a b : ℕ) → A.On a → lookup_stored A.number S a ≡ ref_word b → (t : Bool) → ltb (A.number a) base ≡ t → A.On b
      kept a b o e true q = f.kept a b o (ltb-true (A.number a) base q) e
      kept a b o e false q = let z : unbound_word ≡ ref_word b = sym (f.blank a o (ltb-false (A.number a) base q)) ∙ e in let y : ◌≡◌ {A = ℕ} 0 1 = cc in absurd (omega arith)
