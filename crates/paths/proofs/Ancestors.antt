-- The slots on the path to a used slot: each is used, its path is part of the slot's path, and its variables' numbers are below the end of the slot's.
-- Document 01, "Refused calls", condition 21, "on the path", and "Shared memory" on parent, depth and base. Assumes nothing.
use Rattle.std.specs.Prelude.{◌≡◌, Bool, List, eqb}
use Rattle.std.proofs.Math.Path.{refl, ap, subst}
use Rattle.std.proofs.Common.{sym, ◌∙◌}
use Rattle.std.proofs.Math.Bool.{true, false}
use Prim.Native.Nat.{ℕ, zero, suc, ◌≤◌, ◌<◌}
use native.Mathlib.Omega.{arith}
use borrow.Author.Tests.{eqb-true, eq-eqb}
use Rattle.model.specs.Memory.{used, parent, depth}
use Rattle.model.specs.Damage.{on_path}
use Rattle.memory.proofs.FieldBounds.{parent-lt}
use Rattle.paths.specs.Slots.{Links}
use Rattle.paths.specs.Ancestors.{OnPath, Ancestor}

module _ (nodes : List ℕ) where
  pub path-self : (most slot : ℕ) → on_path most nodes slot slot ≡ true
  unfolding on_path
  path-self zero slot = eq-eqb slot slot refl
  path-self (suc most) slot = ap (λ (t : Bool). elim t [ true ↦ true | false ↦ on_path most nodes (parent nodes slot) slot ]) (eq-eqb slot slot refl)

  -- one more climb finds no less
  pub path-more : (most slot other : ℕ) → on_path most nodes (parent nodes slot) other ≡ true → on_path (suc most) nodes slot other ≡ true
  unfolding on_path
  path-more most slot other e = go (eqb slot other)
    where
      go : (b : Bool) → elim b [ true ↦ true | false ↦ on_path most nodes (parent nodes slot) other ] ≡ true
      go true = refl
      go false = e

  self : (slot : ℕ) → slot < 64 → used nodes slot ≡ 1 → Ancestor nodes slot slot
  self slot h u = record { fits = h; taken = u; ends = omega arith; path = λ third e. e }

  module _ (links : Links nodes) where
    -- what is on the parent's path is on the slot's
    pub path-up : (slot third : ℕ) → slot < 64 → used nodes slot ≡ 1 → (slot ≡ 0 → ⊥) → OnPath nodes (parent nodes slot) third → OnPath nodes slot third
    path-up slot third h u other e =
        subst (λ (d : ℕ). on_path d nodes slot third ≡ true) (sym (links.rises slot h u other).deeper) (path-more (depth nodes (parent nodes slot)) slot third e)

    pub path_parent : (slot : ℕ) → slot < 64 → used nodes slot ≡ 1 → (slot ≡ 0 → ⊥) → OnPath nodes slot (parent nodes slot)
    path_parent slot h u other = path-up slot (parent nodes slot) h u other (path-self (depth nodes (parent nodes slot)) (parent nodes slot))

    above : (slot other : ℕ) → slot < 64 → used nodes slot ≡ 1 → (slot ≡ 0 → ⊥) → Ancestor nodes (parent nodes slot) other → Ancestor nodes slot other
    above slot other h u below a =
        let r = links.rises slot h u below in
        record {
          fits = a.fits;
          taken = a.taken;
          ends = omega (arith, a.ends, r.based);
          path = λ third e. path-up slot third h u below (a.path third e);
        }

    climb : (most slot other : ℕ) → slot < 64 → used nodes slot ≡ 1 → most ≤ depth nodes slot → on_path most nodes slot other ≡ true → Ancestor nodes slot other
    unfolding on_path
    climb zero slot other h u l e = subst (Ancestor nodes slot) (eqb-true slot other e) (self slot h u)
    climb (suc most) slot other h u l e = go (eqb slot other) refl e (climb most (parent nodes slot) other)
      where
        -- only the root has depth 0
        below : slot ≡ 0 → ⊥
        below z =
            let d : depth nodes slot ≡ 0 = ap (depth nodes) z ∙ links.flat in
            omega arith

        go : (b : Bool) → eqb slot other ≡ b → elim b [ true ↦ true | false ↦ on_path most nodes (parent nodes slot) other ] ≡ true
            → (parent nodes slot < 64 → used nodes (parent nodes slot) ≡ 1 → most ≤ depth nodes (parent nodes slot) → on_path most nodes (parent nodes slot) other ≡ true
            → Ancestor nodes (parent nodes slot) other)
            → Ancestor nodes slot other
        go true q e up = subst (Ancestor nodes slot) (eqb-true slot other q) (self slot h u)
        go false q e up =
            let r = links.rises slot h u below in
            above slot other h u below (up (parent-lt nodes slot) r.taken (omega (arith, r.deeper)) e)

    -- a slot on the path to a used slot
    pub ancestor : (slot other : ℕ) → slot < 64 → used nodes slot ≡ 1 → OnPath nodes slot other → Ancestor nodes slot other
    ancestor slot other h u e = climb (depth nodes slot) slot other h u (omega arith) e
