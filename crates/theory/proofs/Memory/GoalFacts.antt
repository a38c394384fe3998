-- The goals that a spot spells do not change with slots off the line; without the first they are spelled from the next place on;
-- and the climb answers the first goal's spot, or that there is none.
-- Serves "Frame and goal index name the node whose clause holds the first goal and its place there" of document 01. Assumes nothing.
use Rattle.std.specs.Prelude.{Bool, false, true, List, [], ◌++◌, ◌∷◌, ◌≡◌, eqb, ltb, drop, get_or, length}
use Rattle.std.proofs.Math.Option.{none, some}
use Rattle.std.proofs.Common.{◌∙◌, ap, sym, arith, drop-cons, eq-eqb, ltb-false, ltb-true, ne_eqb}
use Rattle.std.proofs.Math.Path.{refl}
use Prim.Native.Nat.{◌<◌, ◌≤◌, suc, zero, ℕ}
use Rattle.theory.specs.Memory.Fit.{Spot}
use Rattle.theory.specs.Memory.Goals.{Info, Infos, Spells, Stands, a-goal, at-child, at-root, climb, no-goal, spot_after}

module _ (G : Type 0) where
  -- a change elsewhere, and a longer line
  pub spells-frame : (X X' : Infos G) (On On' : ℕ → Type 0) → ((f : ℕ) → On f → On' f) → ((f : ℕ) (v : Info G) → On f → X f ≡ some v → X' f ≡ some v)
      → (d : ℕ) (gs : List G) (f i : ℕ) → Spells G X On d gs f i → Spells G X' On' d gs f i
  spells-frame X X' On On' w k d gs f i (at-root v o e z g) = at-root v (w f o) (k f v o e) z g
  spells-frame X X' On On' w k (suc d) gs f i (at-child v u p rest o e z op ep sp g s) =
      at-child v u p rest (w f o) (k f v o e) z (w v.parent op) (k v.parent u op ep) sp g (spells-frame X X' On On' w k d rest p.frame (suc p.index) s)

  -- without its first goal
  pub spells-tail : (X : Infos G) (On : ℕ → Type 0) (d : ℕ) (gs : List G) (f i : ℕ) (v : Info G) (z : G) → X f ≡ some v → i < length v.own → Spells G X On d gs f i
      → (rest : List G) × (gs ≡ get_or v.own i z ∷ rest) × Spells G X On d rest f (suc i)
  spells-tail X On d gs f i v z q l (at-root w o e n g) =
      let h : w ≡ v = cc in
      (drop (suc i) w.own, g ∙ ap (λ (x : Info G). drop i x.own) h ∙ drop-cons v.own i z l ∙ ap (λ (x : Info G). get_or v.own i z ∷ drop (suc i) x.own) (sym h), at-root w o e n refl)
  spells-tail X On (suc d) gs f i v z q l (at-child w u p rest o e n op ep sp g s) =
      let h : w ≡ v = cc in (
        drop (suc i) w.own ++ rest,
        g ∙ ap (λ (x : Info G). drop i x.own ++ rest) h ∙ ap (λ (x : List G). x ++ rest) (drop-cons v.own i z l) ∙ ap (λ (x : Info G). get_or v.own i z ∷ (drop (suc i) x.own ++ rest)) (sym h),
        at-child w u p rest o e n op ep sp refl s,
      )

  drop_past : (i : ℕ) (l : List G) → length l ≤ i → drop i l ≡ []
  drop_past zero [] h = refl
  drop_past zero (x ∷ l) h = absurd (omega arith)
  drop_past (suc i) [] h = refl
  drop_past (suc i) (x ∷ l) h = drop_past i l (omega arith)

  climb-here : (d : ℕ) (X : Infos G) (f i : ℕ) (v : Info G) → X f ≡ some v → ltb i (length v.own) ≡ true → climb G d X f i ≡ some (record { frame = f; index = i })
  unfolding climb
  climb-here zero X f i v e q = rw (e, climb, q, climb) refl
  climb-here (suc d) X f i v e q = rw (e, climb, q, climb) refl

  climb-root : (d : ℕ) (X : Infos G) (f i : ℕ) (v : Info G) → X f ≡ some v → ltb i (length v.own) ≡ false → eqb f 0 ≡ true → climb G d X f i ≡ none
  unfolding climb
  climb-root zero X f i v e q z = rw (e, climb, q, climb) refl
  climb-root (suc d) X f i v e q z = rw (e, climb, q, climb, z, climb) refl

  climb-up : (d : ℕ) (X : Infos G) (f i : ℕ) (v u : Info G) (p : Spot) → X f ≡ some v → ltb i (length v.own) ≡ false → eqb f 0 ≡ false → X v.parent ≡ some u
      → u.spot ≡ some p
      → climb G (suc d) X f i ≡ climb G d X p.frame (suc p.index)
  unfolding climb spot_after
  climb-up d X f i v u p e q z eu sp = rw (e, climb, q, climb, z, climb, eu, sp, climb) refl

  pub climb-stands : (X : Infos G) (On : ℕ → Type 0) (d : ℕ) (gs : List G) (f i : ℕ) → Spells G X On d gs f i → Stands G X On gs (climb G d X f i)
  climb-stands X On d gs f i (at-root v o e n g) = go (ltb i (length v.own)) refl
    where
      go : (b : Bool) → ltb i (length v.own) ≡ b → Stands G X On gs (climb G d X f i)
      go true q = rw (climb-here d X f i v e q) (a-goal {p = record { frame = f; index = i }} d v e (ltb-true i (length v.own) q) (at-root v o e n g))
      go false q = rw (climb-root d X f i v e q (eq-eqb f 0 n)) (no-goal (g ∙ drop_past i v.own (ltb-false i (length v.own) q)))
  climb-stands X On (suc d) gs f i (at-child v u p rest o e n op ep sp g s) = go (ltb i (length v.own)) refl (climb-stands X On d rest p.frame (suc p.index) s)
    where
      go : (b : Bool) → ltb i (length v.own) ≡ b → Stands G X On rest (climb G d X p.frame (suc p.index)) → Stands G X On gs (climb G (suc d) X f i)
      go true q t = rw (climb-here (suc d) X f i v e q) (a-goal {p = record { frame = f; index = i }} (suc d) v e (ltb-true i (length v.own) q) (at-child v u p rest o e n op ep sp g s))
      go false q t =
          let z : gs ≡ rest = g ∙ ap (λ (x : List G). x ++ rest) (drop_past i v.own (ltb-false i (length v.own) q)) in
          rw (climb-up d X f i v u p e q (ne_eqb f 0 n) ep sp, z) t
