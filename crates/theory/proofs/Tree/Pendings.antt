-- What is pending before and after a change of the slots.
-- Serves rule 7 of document 01's steps: a clause that fails loses no derivation, one that gives a child passes them on. Assumes nothing.
use Rattle.std.specs.Prelude.{Bool, false, true, [], ◌++◌, ◌∷◌, ◌≢◌, ◌⊎◌, ◌≡◌, eqb}
use Rattle.std.proofs.Common.{append_assoc, inl, inr, ◌∙◌, eqb-true}
use Rattle.std.proofs.Math.Option.{some}
use Rattle.std.proofs.Math.Path.{ap, refl, sym}
use Prim.Native.Nat.{◌≤◌, suc, ℕ}
use native.Mathlib.Omega.{arith}
use Rattle.std.proofs.lemmas.Bool.{eqb-false}
use Rattle.model.specs.Machine.{Slots, UsedSlot, child_slot, grow, raise, raised}
use Rattle.model.specs.Maps.{put}
use Rattle.model.specs.Search.{ClausePath, Derivation, Search}
use Rattle.theory.proofs.Kit.ClausePaths.{Above, Ends, last_step, longer}
use Rattle.theory.proofs.Kit.Maps.{Met, Passed, put-cases, put_other, put_same, some-none}
use Rattle.theory.proofs.Tree.Nodes.{derivation-first, node_at-append, node_at-child, node_at-here}
use Rattle.theory.proofs.Tree.Shapes.{grow-adds, raise-grows}
use Rattle.theory.specs.Tree.Slots.{Earlier, Extends, Grows, Pending, Shape, Through}

module _ (T : Search) where
  pub pending-derivation : (S : Slots T) → Shape T S → (d : ClausePath) → Pending T S d → Derivation T T.root d
  pending-derivation S sh d p =
      let l = sh.leads p.slot p.ent p.used in
      record { end = p.der.end; leads = rw p.path (node_at-append T p.ent.path (p.k ∷ p.rest) T.root p.ent.node l ∙ p.der.leads); over = p.der.over }

  pub pending-kept : (S S' : Slots T) → ((s : ℕ) (e : UsedSlot T) → S s ≡ some e → S' s ≡ some e) → (d : ClausePath) → Pending T S d → Pending T S' d
  pending-kept S S' h d p = record { slot = p.slot; ent = p.ent; used = h p.slot p.ent p.used; k = p.k; rest = p.rest; untried = p.untried; path = p.path; der = p.der }

  pub pending-grows : (S S' : Slots T) → Grows T S S' → (d : ClausePath) → Pending T S' d → Pending T S d
  pending-grows S S' g d p = go (g.back p.slot p.ent p.used)
    where
      go : Earlier T S p.slot p.ent → Pending T S d
      go o =
          record {
            slot = p.slot;
            ent = o.ent;
            used = o.used;
            k = p.k;
            rest = p.rest;
            untried = omega (arith, o.grown.tried, p.untried);
            path = p.path ∙ ap (λ (x : ClausePath). x ++ (p.k ∷ p.rest)) o.grown.path;
            der = rw o.grown.node at p.der;
          }

  pub pending-raise : (S : Slots T) (s : ℕ) (e : UsedSlot T) → S s ≡ some e → (d : ClausePath) → Pending T S d → Pending T (raise T S s e) d ⊎ Through T e d
  unfolding raise
  pending-raise S s e here d p = go (eqb p.slot s) refl
    where
      ne-le : (a b : ℕ) → a ≤ b → a ≢ b → suc a ≤ b
      ne-le a b h k = omega arith

      same : p.ent ≡ e → p.slot ≡ s → (b : Bool) → eqb e.tried p.k ≡ b → Pending T (raise T S s e) d ⊎ Through T e d
      same h z true q = let y = eqb-true e.tried p.k q in
          inr (record { rest = p.rest; path = rw (y, ← h) p.path; der = rw (y, ← h) p.der })
      same h z false q =
          let u : e.tried ≤ p.k = rw (ap (λ (x : UsedSlot T). x.tried) h) at p.untried in
          inl (record { slot = s; ent = raised T e; used = put_same S s (some (raised T e)); k = p.k; rest = p.rest; untried = ne-le e.tried p.k u (eqb-false e.tried p.k q); path = rw (← h) p.path; der = rw (← h) p.der })

      go : (b : Bool) → eqb p.slot s ≡ b → Pending T (raise T S s e) d ⊎ Through T e d
      go true q =
          let z = eqb-true p.slot s q in
          let w : S p.slot ≡ S s = rw z refl in
          same (cc p.used) z (eqb e.tried p.k) refl
      go false q = inl (record { slot = p.slot; ent = p.ent; used = put_other S s p.slot (some (raised T e)) (eqb-false p.slot s q) ∙ p.used; k = p.k; rest = p.rest; untried = p.untried; path = p.path; der = p.der })

  -- nothing new is pending
  pub pending-grow-back : (S : Slots T) (s : ℕ) (e : UsedSlot T) (c : ℕ) (m : T.Node) → Extends T S s e c m → (d : ClausePath) → Pending T (grow T S s e c m) d
      → Pending T S d
  unfolding grow
  pending-grow-back S s e c m x d p = go (put-cases (raise T S s e) c (some (child_slot T s e m)) p.slot (some p.ent) p.used)
    where
      begin : Derivation T m (p.k ∷ p.rest) → Derivation T e.node (e.tried ∷ p.k ∷ p.rest)
      begin r = record { end = r.end; leads = node_at-child T e.node m e.tried (p.k ∷ p.rest) x.child ∙ r.leads; over = r.over }

      go : Met (raise T S s e) c (some (child_slot T s e m)) p.slot (some p.ent) ⊎ Passed (raise T S s e) c p.slot (some p.ent) → Pending T S d
      go (inl z) =
          let h : p.ent ≡ child_slot T s e m = cc z.is in
          record {
            slot = s;
            ent = e;
            used = x.used;
            k = e.tried;
            rest = p.k ∷ p.rest;
            untried = omega arith;
            path = p.path ∙ ap (λ (y : UsedSlot T). y.path ++ (p.k ∷ p.rest)) h ∙ append_assoc e.path (e.tried ∷ []) (p.k ∷ p.rest);
            der = begin (rw h at p.der);
          }
      go (inr z) = pending-grows S (raise T S s e) (raise-grows T S s e x.used) d (record { slot = p.slot; ent = p.ent; used = z.was; k = p.k; rest = p.rest; untried = p.untried; path = p.path; der = p.der })

  -- what was pending still is, but for the derivation that ends at the child
  pub pending-grow : (S : Slots T) (s : ℕ) (e : UsedSlot T) (c : ℕ) (m : T.Node) → Extends T S s e c m → Shape T S → (d : ClausePath) → Pending T S d
      → Pending T (grow T S s e c m) d ⊎ ((T.without_goals m ≡ true) × (d ≡ e.path ++ (e.tried ∷ [])))
  unfolding grow
  pending-grow S s e c m x sh d p = go (pending-raise S s e x.used d p)
    where
      keep : (t : ℕ) (f : UsedSlot T) → raise T S s e t ≡ some f → put (raise T S s e) c (some (child_slot T s e m)) t ≡ some f
      keep t f u = put_other (raise T S s e) c t (some (child_slot T s e m)) (λ h. some-none u (cc (grow-adds T S s e c m x sh).room)) ∙ u

      ends : (r : ClausePath) → d ≡ e.path ++ (e.tried ∷ r) → Derivation T m r
          → Pending T (grow T S s e c m) d ⊎ ((T.without_goals m ≡ true) × (d ≡ e.path ++ (e.tried ∷ [])))
      ends [] q r = let h : some r.end ≡ some m = sym r.leads ∙ node_at-here T m in inr ((let g : r.end ≡ m = cc in rw g at r.over), q)
      ends (j ∷ rest) q r =
          inl (record {
            slot = c;
            ent = child_slot T s e m;
            used = put_same (raise T S s e) c (some (child_slot T s e m));
            k = j;
            rest = rest;
            untried = omega arith;
            path = q ∙ sym (append_assoc e.path (e.tried ∷ []) (j ∷ rest));
            der = r;
          })

      go : Pending T (raise T S s e) d ⊎ Through T e d → Pending T (grow T S s e c m) d ⊎ ((T.without_goals m ≡ true) × (d ≡ e.path ++ (e.tried ∷ [])))
      go (inl y) = inl (pending-kept (raise T S s e) (put (raise T S s e) c (some (child_slot T s e m))) keep d y)
      go (inr t) =
          let w = derivation-first T t.der in
          let h : w.node ≡ m = cc (w.by, x.child) in
          ends t.rest t.path (rw h at w.rest)

  -- the path of the answer is pending no more
  pub pending-answer : (S : Slots T) (s : ℕ) (e : UsedSlot T) (c : ℕ) (m : T.Node) → Extends T S s e c m → Shape T S
      → Pending T (grow T S s e c m) (e.path ++ (e.tried ∷ [])) → ⊥
  unfolding grow
  pending-answer S s e c m x sh p = go (put-cases (raise T S s e) c (some (child_slot T s e m)) p.slot (some p.ent) p.used)
    where
      fork : Earlier T S p.slot p.ent → raise T S s e p.slot ≡ some p.ent
          → Ends p.ent.path e.path p.k e.tried p.rest ⊎ Above p.ent.path e.path p.k e.tried p.rest → ⊥
      fork o u (inl h) =
          let z = sh.apart p.slot s o.ent e o.used x.used (sym o.grown.path ∙ h.same) in
          let y : some p.ent ≡ some (raised T e) = sym u ∙ ap (raise T S s e) z ∙ unfold raise in (put_same S s (some (raised T e))) in
          let w : p.ent ≡ raised T e = cc in
          omega (arith, ap (λ (f : UsedSlot T). f.tried) w, p.untried, h.index)
      fork o u (inr h) =
          let l = sh.below s p.slot e o.ent p.k h.between x.used o.used (h.lower ∙ ap (λ (y : ClausePath). y ++ (p.k ∷ h.between)) o.grown.path) in
          omega (arith, p.untried, o.grown.tried)

      go : Met (raise T S s e) c (some (child_slot T s e m)) p.slot (some p.ent) ⊎ Passed (raise T S s e) c p.slot (some p.ent) → ⊥
      go (inl z) =
          let h : p.ent ≡ child_slot T s e m = cc z.is in
          longer (e.path ++ (e.tried ∷ [])) p.k p.rest (sym (p.path ∙ ap (λ (y : UsedSlot T). y.path ++ (p.k ∷ p.rest)) h))
      go (inr z) = fork ((raise-grows T S s e x.used).back p.slot p.ent z.was) z.was (last_step p.ent.path e.path p.k e.tried p.rest (sym p.path))
