-- A used slot's path is shorter than the slot count: the slots from the root to it are different, and below the count.
-- Serves "depth 6" and "base 12" of document 01's node words: depth and numbers stay within their fields. Assumes nothing.
use Rattle.std.specs.Prelude.{Bool, false, true, ◌⊎◌, ◌≡◌, eqb}
use mathlib.Core.List.Memᴰ
use mathlib.Core.List.{List, Memᴰ, [], ◌∷◌}
use Rattle.std.proofs.Common.{inl, inr, ◌∙◌, length-append, eqb-true}
use Rattle.std.proofs.Math.Option.{some}
use Rattle.std.proofs.Math.Path.{ap, refl, sym}
use Prim.Native.Nat.{◌<◌, ◌≤◌, suc, zero, ℕ}
use native.Mathlib.Omega.{arith}
use Rattle.std.proofs.Math.ListN.{length}
use Rattle.std.proofs.lemmas.Bool.{eqb-false}
use Rattle.model.specs.Machine.{Machine, Size, Slots, UsedSlot}
use Rattle.model.specs.Search.{Search}
use Rattle.theory.proofs.Kit.Pigeon.{Different, pigeon}
use Rattle.theory.specs.Machine.Invariants.{Good}
use Rattle.theory.specs.Tree.Slots.{Parent, Shape}

module _ (T : Search) where
  -- the slots from e's up to the root
  record Ancestors (S : Slots T) (e : UsedSlot T) : Type 0 where
    slots : List ℕ
    different : Different slots
    each : (x : ℕ) → Memᴰ x slots → (f : UsedSlot T) × (S x ≡ some f) × (length f.path ≤ length e.path)
    count : length slots ≡ suc (length e.path)

  slot-ancestors : (S : Slots T) → Shape T S → (n s : ℕ) (e : UsedSlot T) → S s ≡ some e → length e.path ≤ n → Ancestors S e
  unfolding Different
  slot-ancestors S sh zero s e u l =
      record { slots = s ∷ []; different = (λ m. Memᴰ.not-nil m, tt); each = λ x m. (e, rw (Memᴰ.eq_of_singleton m) u, omega arith); count = omega arith }
  slot-ancestors S sh (suc n) s e u l = go (eqb s 0) refl (λ f v h. slot-ancestors S sh n e.parent f v h)
    where
      top : s ≡ 0 → length e.path ≡ 0
      top z = let y : some e ≡ some sh.top = sym u ∙ ap S z ∙ sh.root-used in let k : e ≡ sh.top = cc in ap (λ (f : UsedSlot T). length f.path) k ∙ ap length sh.root-path

      more : Parent T S s e → (p : UsedSlot T) → suc (length p.path) ≡ length e.path → Ancestors S p → Ancestors S e
      more q p h a =
          record {
            slots = s ∷ a.slots;
            different = (λ m. new m, a.different);
            each = λ x m. pick x (Memᴰ.cases_cons m);
            count = omega (arith, a.count);
          }
        where
          new : Memᴰ s a.slots → ⊥
          new m = let k = a.each s m in let y : some k.0 ≡ some e = sym k.1 ∙ u in let z : k.0 ≡ e = cc in omega (arith, k.2, ap (λ (f : UsedSlot T). length f.path) z)

          pick : (x : ℕ) → (x ≡ s) ⊎ Memᴰ x a.slots → (f : UsedSlot T) × (S x ≡ some f) × (length f.path ≤ length e.path)
          pick x (inl z) = (e, rw z u, omega arith)
          pick x (inr m) = let k = a.each x m in (k.0, k.1, omega (arith, k.2))

      go : (b : Bool) → eqb s 0 ≡ b → ((f : UsedSlot T) → S e.parent ≡ some f → length f.path ≤ n → Ancestors S f) → Ancestors S e
      go true q ih =
          let z = top (eqb-true s 0 q) in
          record { slots = s ∷ []; different = (λ m. Memᴰ.not-nil m, tt); each = λ x m. (e, rw (Memᴰ.eq_of_singleton m) u, omega arith); count = omega arith }
      go false q ih =
          let p = sh.parents s e u (eqb-false s 0 q) in
          let h : suc (length p.up.path) ≡ length e.path = omega (arith, ap length p.path, length-append p.up.path (p.k ∷ [])) in
          more p p.up h (ih p.up p.used (omega arith))

module _ (T : Search) (Z : Size) where
  pub good-depth : (M : Machine T) → Good T Z M → (s : ℕ) (e : UsedSlot T) → M.slots s ≡ some e → length e.path < Z.slots
  good-depth M g s e u =
      let a = slot-ancestors T M.slots g.shape (length e.path) s e u (omega arith) in
      let h = pigeon Z.slots a.slots a.different (λ x m. let k = a.each x m in g.low x k.0 k.1) in
      omega (arith, a.count, h)
