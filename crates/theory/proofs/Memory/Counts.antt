-- Unifying a head makes at most one trail entry for each argument.
-- Serves "trail entries 4" and "at most 15 entries" of document 01, as arities are at most 15. Assumes nothing.
use Rattle.std.specs.Prelude.{Bool, ◌≡◌}
use Rattle.std.proofs.Math.Bool.{false, true}
use mathlib.Core.List.{List, [], ◌∷◌}
use Rattle.std.proofs.Math.Option.{Option, none, some}
use Rattle.std.proofs.Math.Path.{refl}
use Prim.Native.Nat.{◌+◌, ◌≤◌, suc, ℕ}
use native.Mathlib.Omega.{arith}
use Rattle.std.proofs.Math.Dec.{eqb, ltb}
use Rattle.std.proofs.Math.ListN.{length, length-append}
use Rattle.model.specs.Rules.{Argument}
use Rattle.theory.proofs.Kit.Maps.{some-none}
use Rattle.theory.specs.Memory.Represents.{Place}
use Rattle.theory.specs.Memory.Store.{Got, Word, Work, bind_and_trail, con_word, dereference_argument_stored, got_constant, got_unbound, ref_word, unify_head_stored, unify_stored, with_entry}

module _ (A : Place) where
  -- at most one trail entry for each argument
  bind_and_trail-count : (base : ℕ) (W : Work) (a : ℕ) (v : Word) → length (bind_and_trail A.number base W a v).trail ≤ suc (length W.trail)
  unfolding bind_and_trail with_entry
  bind_and_trail-count base W a v = go (ltb (A.number a) base)
    where
      go : (b : Bool) → length (with_entry b W.trail (A.number a) v) ≤ suc (length W.trail)
      go true = simp length-append (omega arith)
      go false = omega arith

  count-is : (W X Y : Work) → length X.trail ≤ suc (length W.trail) → some X ≡ some Y → length Y.trail ≤ suc (length W.trail)
  count-is W X Y h e = let z : X ≡ Y = cc in rw (← z) h

  unify_stored-count : (base : ℕ) (W W' : Work) (g h : Got) → unify_stored A.number base W g h ≡ some W' → length W'.trail ≤ suc (length W.trail)
  unfolding unify_stored
  unify_stored-count base W W' (got_constant a) (got_constant b) e = go (eqb a b) refl
    where
      go : (t : Bool) → eqb a b ≡ t → length W'.trail ≤ suc (length W.trail)
      go true q = count-is W W W' (omega arith) (rw (q, unify_stored) at e)
      go false q = absurd (some-none e (rw (q, unify_stored) refl))
  unify_stored-count base W W' (got_constant a) (got_unbound y) e = count-is W (bind_and_trail A.number base W y (con_word a)) W' (bind_and_trail-count base W y (con_word a)) e
  unify_stored-count base W W' (got_unbound x) (got_constant b) e = count-is W (bind_and_trail A.number base W x (con_word b)) W' (bind_and_trail-count base W x (con_word b)) e
  unify_stored-count base W W' (got_unbound x) (got_unbound y) e = go (eqb (A.number x) (A.number y)) refl (ltb (A.number x) (A.number y)) refl
    where
      go : (t : Bool) → eqb (A.number x) (A.number y) ≡ t → (k : Bool) → ltb (A.number x) (A.number y) ≡ k → length W'.trail ≤ suc (length W.trail)
      go true q k r = count-is W W W' (omega arith) (rw (q, unify_stored) at e)
      go false q true r = count-is W (bind_and_trail A.number base W y (ref_word x)) W' (bind_and_trail-count base W y (ref_word x)) (rw (q, unify_stored, r, unify_stored) at e)
      go false q false r = count-is W (bind_and_trail A.number base W x (ref_word y)) W' (bind_and_trail-count base W x (ref_word y)) (rw (q, unify_stored, r, unify_stored) at e)

  pub unify_head_stored-count : (base : ℕ) (head_cell goal_cell : ℕ → ℕ) (hs gs : List Argument) (W W' : Work)
      → unify_head_stored A.number base W head_cell hs goal_cell gs ≡ some W' → length W'.trail ≤ length W.trail + length hs
  unfolding unify_head_stored
  unify_head_stored-count base head_cell goal_cell [] [] W W' e = let z : W ≡ W' = cc in rw (← z) (omega arith)
  unify_head_stored-count base head_cell goal_cell [] (g ∷ gs) W W' e = absurd (some-none e refl)
  unify_head_stored-count base head_cell goal_cell (h ∷ hs) [] W W' e = absurd (some-none e refl)
  unify_head_stored-count base head_cell goal_cell (h ∷ hs) (g ∷ gs) W W' e =
      go (unify_stored A.number base W (dereference_argument_stored A.number W.store head_cell h) (dereference_argument_stored A.number W.store goal_cell g)) refl (λ X q. unify_head_stored-count base head_cell goal_cell hs gs X W' q)
    where
      go : (o : Option Work)
          → unify_stored A.number base W (dereference_argument_stored A.number W.store head_cell h) (dereference_argument_stored A.number W.store goal_cell g) ≡ o
          → ((X : Work) → unify_head_stored A.number base X head_cell hs goal_cell gs ≡ some W' → length W'.trail ≤ length X.trail + length hs)
          → length W'.trail ≤ length W.trail + suc (length hs)
      go none q ih = absurd (some-none e (rw (q, unify_head_stored) refl))
      go (some X) q ih =
          let a = unify_stored-count base W X (dereference_argument_stored A.number W.store head_cell h) (dereference_argument_stored A.number W.store goal_cell g) q in
          let b = ih X (rw (q, unify_head_stored) at e) in
          omega arith
