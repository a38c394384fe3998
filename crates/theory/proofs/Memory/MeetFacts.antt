-- The climb from two slots: its legs are the ends of the two root paths past the meeting point, and there the paths part, so that it is the lowest.
-- Serves demand 3, "those trailed below the lowest common ancestor". Assumes nothing.
use Rattle.std.specs.Prelude.{Bool, false, true, ◌≢◌, ◌⊎◌, eqb, ltb}
use mathlib.Core.List.Memᴰ
use mathlib.Core.List.{List, Memᴰ, [], ◌++◌, ◌∷◌, append_assoc, append-nil}
use Rattle.std.proofs.Common.{inl, inr, ◌∙◌, eqb-true, ltb-false, ltb-true}
use Rattle.std.proofs.Math.Path.{◌≡◌, ap, refl, sym}
use Prim.Native.Nat.{◌+◌, ◌<◌, ◌≤◌, suc, zero, ℕ}
use native.Mathlib.Omega.{arith}
use Rattle.std.proofs.lemmas.Bool.{eqb-false}
use Rattle.theory.specs.Memory.Meet.{Legs, Links, Parts, Rooted, Splits, add_into, add_out, is_below, is-root, legs, path, path_to}

module _ (K : Links) where
  path_to-below : (s : ℕ) → K.depth s ≡ suc (K.depth (K.parent s)) → path_to K s ≡ path_to K (K.parent s) ++ (s ∷ [])
  unfolding path
  path_to-below s e = rw e refl

  legs-same : (f s t : ℕ) → eqb s t ≡ true → legs K (suc f) s t ≡ record { meet = s; out = []; into = [] }
  unfolding legs
  legs-same f s t q = rw (q, legs) refl

  legs-into : (f s t : ℕ) → eqb s t ≡ false → ltb (K.depth s) (K.depth t) ≡ true → legs K (suc f) s t ≡ add_into K (legs K f s (K.parent t)) t
  unfolding legs
  legs-into f s t q r = rw (q, legs, r, legs) refl

  legs-out : (f s t : ℕ) → eqb s t ≡ false → ltb (K.depth s) (K.depth t) ≡ false → legs K (suc f) s t ≡ add_out K (legs K f (K.parent s) t) s
  unfolding legs
  legs-out f s t q r = rw (q, legs, r, legs) refl

  splits-into : (s t : ℕ) (l : Legs K) → K.depth t ≡ suc (K.depth (K.parent t)) → Splits K s (K.parent t) l → Splits K s t (add_into K l t)
  splits-into s t l e p = record { out = p.out; into = path_to-below t e ∙ ap (λ (x : List ℕ). x ++ (t ∷ [])) p.into ∙ append_assoc (path_to K l.meet) l.into (t ∷ []) }

  splits-out : (s t : ℕ) (l : Legs K) → K.depth s ≡ suc (K.depth (K.parent s)) → Splits K (K.parent s) t l → Splits K s t (add_out K l s)
  splits-out s t l e p = record { out = path_to-below s e ∙ ap (λ (x : List ℕ). x ++ (s ∷ [])) p.out ∙ append_assoc (path_to K l.meet) l.out (s ∷ []); into = p.into }

  pub legs-split : (f s t : ℕ) → Rooted K s → Rooted K t → K.depth s + K.depth t < f → Splits K s t (legs K f s t)
  legs-split zero s t us ut h = absurd (omega arith)
  legs-split (suc f) s t us ut h = go (eqb s t) refl (ltb (K.depth s) (K.depth t)) refl (legs-split f)
    where
      here : s ≡ t → Splits K s t (record { meet = s; out = []; into = [] })
      here e = record { out = sym (append-nil (path_to K s)); into = rw (← e) (sym (append-nil (path_to K s))) }

      intos : Rooted K t → ((s t : ℕ) → Rooted K s → Rooted K t → K.depth s + K.depth t < f → Splits K s t (legs K f s t)) → ltb (K.depth s) (K.depth t) ≡ true
          → Splits K s t (add_into K (legs K f s (K.parent t)) t)
      intos (is-root i e) ih r = let z = ltb-true (K.depth s) (K.depth t) r in absurd (omega arith)
      intos (is_below e u) ih r = splits-into s t (legs K f s (K.parent t)) e (ih s (K.parent t) us u (omega arith))

      outs : Rooted K s → Rooted K t → ((s t : ℕ) → Rooted K s → Rooted K t → K.depth s + K.depth t < f → Splits K s t (legs K f s t)) → eqb s t ≡ false
          → ltb (K.depth s) (K.depth t) ≡ false → Splits K s t (add_out K (legs K f (K.parent s) t) s)
      outs (is_below e u) ut ih q r = splits-out s t (legs K f (K.parent s) t) e (ih (K.parent s) t u ut (omega arith))
      outs (is-root i e) (is-root j e') ih q r = absurd (eqb-false s t q (i ∙ sym j))
      outs (is-root i e) (is_below e' u) ih q r = let z = ltb-false (K.depth s) (K.depth t) r in absurd (omega arith)

      go : (b : Bool) → eqb s t ≡ b → (c : Bool) → ltb (K.depth s) (K.depth t) ≡ c
          → ((s t : ℕ) → Rooted K s → Rooted K t → K.depth s + K.depth t < f → Splits K s t (legs K f s t)) → Splits K s t (legs K (suc f) s t)
      go true q c r ih = rw (legs-same f s t q) (here (eqb-true s t q))
      go false q true r ih = rw (legs-into f s t q r) (intos ut ih r)
      go false q false r ih = rw (legs-out f s t q r) (outs us ut ih q r)

  -- every slot of a path is at most as deep as its end, and used
  path_to-depth : (s : ℕ) → Rooted K s → (x : ℕ) → Memᴰ x (path_to K s) → K.depth x ≤ K.depth s
  unfolding path
  path_to-depth s (is-root i e) x m = absurd (Memᴰ.not-nil (rw e at m))
  path_to-depth s (is_below e u) x m = go (Memᴰ.append_cases (path_to K (K.parent s)) (rw (path_to-below s e) at m)) (path_to-depth (K.parent s) u x)
    where
      go : Memᴰ x (path_to K (K.parent s)) ⊎ Memᴰ x (s ∷ []) → (Memᴰ x (path_to K (K.parent s)) → K.depth x ≤ K.depth (K.parent s))
          → K.depth x ≤ K.depth s
      go (inl k) ih = let h = ih k in omega arith
      go (inr k) ih = rw (Memᴰ.eq_of_singleton k) (omega arith)

  path_to-end : (s : ℕ) → Rooted K s → (x : ℕ) → Memᴰ x (path_to K s) → K.depth s ≤ K.depth x → x ≡ s
  unfolding path
  path_to-end s (is-root i e) x m h = absurd (Memᴰ.not-nil (rw e at m))
  path_to-end s (is_below e u) x m h = go (Memᴰ.append_cases (path_to K (K.parent s)) (rw (path_to-below s e) at m))
    where
      go : Memᴰ x (path_to K (K.parent s)) ⊎ Memᴰ x (s ∷ []) → x ≡ s
      go (inl k) = let d = path_to-depth (K.parent s) u x k in absurd (omega arith)
      go (inr k) = Memᴰ.eq_of_singleton k

  path_to-member : (s : ℕ) (c l p : List ℕ) (a : ℕ) → path_to K s ≡ c ++ l → l ≡ a ∷ p → Memᴰ a (path_to K s)
  path_to-member s c l p a e q = rw (e, q) (Memᴰ.append_right c (Memᴰ.head refl))

  parts-into : (s t : ℕ) (l : Legs K) → Rooted K s → Splits K s (K.parent t) l → K.depth s < K.depth t → Parts K l → Parts K (add_into K l t)
  unfolding Parts
  parts-into s t l us sp h ps a b p q eo ei = go l.into refl
    where
      go : (x : List ℕ) → l.into ≡ x → a ≢ b
      go [] e = λ z.
          let d = path_to-depth s us a (path_to-member s (path_to K l.meet) l.out p a sp.out eo) in
          let y : ◌≡◌ {A = List ℕ} (t ∷ []) (b ∷ q) = rw e at ei in
          let w : t ≡ b = cc in
          let v : K.depth a ≡ K.depth t = ap K.depth (z ∙ sym w) in
          omega arith
      go (y ∷ ys) e =
          let k : ◌≡◌ {A = List ℕ} (y ∷ (ys ++ (t ∷ []))) (b ∷ q) = rw e at ei in
          let w : y ≡ b = cc in
          λ z. ps a y p ys eo e (z ∙ sym w)

  parts_out : (s t : ℕ) (l : Legs K) → Rooted K t → Splits K (K.parent s) t l → K.depth t ≤ K.depth s → s ≢ t → Parts K l → Parts K (add_out K l s)
  unfolding Parts
  parts_out s t l ut sp h n ps a b p q eo ei = go l.out refl
    where
      go : (x : List ℕ) → l.out ≡ x → a ≢ b
      go [] e = λ z.
          let y : ◌≡◌ {A = List ℕ} (s ∷ []) (a ∷ p) = rw e at eo in
          let w : s ≡ b = cc in
          let m = path_to-member t (path_to K l.meet) l.into q b sp.into ei in
          let d : K.depth s ≡ K.depth b = ap K.depth w in
          n (w ∙ path_to-end t ut b m (omega arith))
      go (y ∷ ys) e =
          let k : ◌≡◌ {A = List ℕ} (y ∷ (ys ++ (s ∷ []))) (a ∷ p) = rw e at eo in
          let w : y ≡ a = cc in
          λ z. ps y b ys q e ei (w ∙ z)

  pub legs-part : (f s t : ℕ) → Rooted K s → Rooted K t → K.depth s + K.depth t < f → Parts K (legs K f s t)
  unfolding Parts
  legs-part zero s t us ut h = absurd (omega arith)
  legs-part (suc f) s t us ut h = go (eqb s t) refl (ltb (K.depth s) (K.depth t)) refl (legs-part f)
    where
      alike : Parts K (record { meet = s; out = []; into = [] })
      alike a b p q e g = let z : ◌≡◌ {A = ℕ} 0 1 = cc in absurd (omega arith)

      intos : Rooted K t → ((s t : ℕ) → Rooted K s → Rooted K t → K.depth s + K.depth t < f → Parts K (legs K f s t)) → ltb (K.depth s) (K.depth t) ≡ true
          → Parts K (add_into K (legs K f s (K.parent t)) t)
      intos (is-root i e) ih r = let z = ltb-true (K.depth s) (K.depth t) r in absurd (omega arith)
      intos (is_below e u) ih r = parts-into s t (legs K f s (K.parent t)) us (legs-split f s (K.parent t) us u (omega arith)) (ltb-true (K.depth s) (K.depth t) r) (ih s (K.parent t) us u (omega arith))

      outs : Rooted K s → ((s t : ℕ) → Rooted K s → Rooted K t → K.depth s + K.depth t < f → Parts K (legs K f s t)) → eqb s t ≡ false
          → ltb (K.depth s) (K.depth t) ≡ false → Parts K (add_out K (legs K f (K.parent s) t) s)
      outs (is_below e u) ih q r = parts_out s t (legs K f (K.parent s) t) ut (legs-split f (K.parent s) t u ut (omega arith)) (ltb-false (K.depth s) (K.depth t) r) (eqb-false s t q) (ih (K.parent s) t u ut (omega arith))
      outs (is-root i e) ih q r = both ut
        where
          both : Rooted K t → Parts K (add_out K (legs K f (K.parent s) t) s)
          both (is-root j g) = absurd (eqb-false s t q (i ∙ sym j))
          both (is_below g u) = let z = ltb-false (K.depth s) (K.depth t) r in absurd (omega arith)

      go : (b : Bool) → eqb s t ≡ b → (c : Bool) → ltb (K.depth s) (K.depth t) ≡ c
          → ((s t : ℕ) → Rooted K s → Rooted K t → K.depth s + K.depth t < f → Parts K (legs K f s t)) → Parts K (legs K (suc f) s t)
      go true q c r ih = rw (legs-same f s t q) alike
      go false q true r ih = rw (legs-into f s t q r) (intos ut ih r)
      go false q false r ih = rw (legs-out f s t q r) (outs us ih q r)
