-- Of one worker alone: its answer comes before all that is still to come, and no other worker is where it is, save at the root.
-- Serves demand 2, "a worker stepping alone from the load". Assumes nothing.
use Rattle.std.specs.Prelude.{Bool, ◌&&◌, ◌≢◌, ◌⊎◌, ◌≡◌, ℕ}
use Rattle.std.proofs.Math.Bool.{false, not, true}
use mathlib.Core.List.{[], ◌++◌, ◌∷◌, append_assoc, append-nil}
use Rattle.std.proofs.Common.{inl, inr, ◌∙◌, arith, eqb-true}
use Rattle.std.proofs.Math.Option.{some}
use Rattle.std.proofs.Math.Path.{ap, refl, sym}
use Rattle.std.proofs.Math.Dec.{eqb}
use Rattle.std.proofs.lemmas.Bool.{eqb-false}
use Rattle.model.specs.Demands.{Before}
use Rattle.model.specs.Machine.{Machine, Size, Slots, UsedSlot, another_there, child_slot, grow, raise, raised}
use Rattle.model.specs.Maps.{put}
use Rattle.model.specs.Search.{ClausePath, Search}
use Rattle.theory.proofs.Kit.Bounded.{Hit, any_below-hit}
use Rattle.theory.proofs.Kit.Maps.{Met, Passed, put-cases, put_other, put_same, true-false}
use Rattle.theory.specs.Tree.Laws.{Laws}
use Rattle.theory.proofs.Tree.Nodes.{derivation-first}
use Rattle.theory.proofs.Tree.Shapes.{raise-grows}
use Rattle.theory.specs.Tree.Slots.{Earlier, Extends, Pending, Shape}

pub put-idle : (at : ℕ → ℕ) (w s : ℕ) → ((v : ℕ) → v ≢ w → at v ≡ 0) → (v : ℕ) → v ≢ w → put at w s v ≡ 0
put-idle at w s h v z = put_other at w v s z ∙ h v z

module _ (T : Search) (Z : Size) where
  pub another_there-lone : (M : Machine T) (w s : ℕ) → ((v : ℕ) → v ≢ w → M.at v ≡ 0) → s ≢ 0 → another_there T Z M w s ≡ true → ⊥
  unfolding another_there
  another_there-lone M w s h z q = hit (any_below-hit Z.workers (λ v. not (eqb v w) && eqb (M.at v) s) q)
    where
      hit : Hit Z.workers (λ v. not (eqb v w) && eqb (M.at v) s) → ⊥
      hit k = go (eqb k.i w) refl (eqb (M.at k.i) s) refl
        where
          go : (a : Bool) → eqb k.i w ≡ a → (b : Bool) → eqb (M.at k.i) s ≡ b → ⊥
          go true p b r = let y : false ≡ true = rw p at k.passes in true-false false y refl
          go false p true r = let u = h k.i (eqb-false k.i w p) in z (sym (eqb-true (M.at k.i) s r) ∙ u)
          go false p false r = let y : false ≡ true = rw (p, r) at k.passes in true-false false y refl

module _ (T : Search) (L : Laws T) where
  -- the answer comes before all that is still to come
  pub answer-before : (S : Slots T) (s : ℕ) (e : UsedSlot T) (c : ℕ) (m : T.Node) → Extends T S s e c m → T.without_goals m ≡ true → Shape T S
      → ((t : ℕ) (f : UsedSlot T) → S t ≡ some f → (r : ClausePath) × (e.path ≡ f.path ++ r)) → (d : ClausePath) → Pending T (grow T S s e c m) d
      → Before (e.path ++ (e.tried ∷ [])) d
  unfolding grow
  answer-before S s e c m x lf sh pre d p = go (put-cases (raise T S s e) c (some (child_slot T s e m)) p.slot (some p.ent) p.used)
    where
      part : (o : Earlier T S p.slot p.ent) → raise T S s e p.slot ≡ some p.ent → (r : ClausePath) → e.path ≡ o.ent.path ++ r
          → Before (e.path ++ (e.tried ∷ [])) d
      part o u [] q =
          let z = sh.apart p.slot s o.ent e o.used x.used (sym (append-nil o.ent.path) ∙ sym q) in
          let y : some p.ent ≡ some (raised T e) = sym u ∙ ap (raise T S s e) z ∙ unfold raise in (put_same S s (some (raised T e))) in
          let h : p.ent ≡ raised T e = cc in
          record {
            common = e.path;
            earlier = e.tried;
            later = p.k;
            rest_earlier = [];
            rest_later = p.rest;
            left = refl;
            right = p.path ∙ ap (λ (f : UsedSlot T). f.path ++ (p.k ∷ p.rest)) h;
            less = omega (arith, ap (λ (f : UsedSlot T). f.tried) h, p.untried);
          }
      part o u (i ∷ r) q =
          let l = sh.below s p.slot e o.ent i r x.used o.used q in
          record {
            common = o.ent.path;
            earlier = i;
            later = p.k;
            rest_earlier = r ++ (e.tried ∷ []);
            rest_later = p.rest;
            left = ap (λ (y : ClausePath). y ++ (e.tried ∷ [])) q ∙ append_assoc o.ent.path (i ∷ r) (e.tried ∷ []);
            right = p.path ∙ ap (λ (y : ClausePath). y ++ (p.k ∷ p.rest)) o.grown.path;
            less = omega (arith, o.grown.tried, p.untried);
          }

      go : Met (raise T S s e) c (some (child_slot T s e m)) p.slot (some p.ent) ⊎ Passed (raise T S s e) c p.slot (some p.ent)
          → Before (e.path ++ (e.tried ∷ [])) d
      go (inl z) =
          let h : p.ent ≡ child_slot T s e m = cc z.is in
          let v = derivation-first T p.der in
          let n = L.child_counted p.ent.node v.node p.k v.by in
          absurd (omega (arith, L.count_without_goals m lf, ap (λ (f : UsedSlot T). T.clause_count f.node) h))
      go (inr z) =
          let o = (raise-grows T S s e x.used).back p.slot p.ent z.was in
          let q = pre p.slot o.ent o.used in
          part o z.was q.0 q.1
