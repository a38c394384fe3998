-- Every change of the slots keeps `Shape`: a count raised, a child added, a slot freed, and the load.
-- Serves rules 4 and 7 of document 01's steps. Assumes nothing.
use Rattle.std.specs.Prelude.{Bool, false, true, [], ◌++◌, ◌∷◌, ◌≢◌, ◌⊎◌, ◌≡◌, ◌<◌, ℕ, eqb}
use Rattle.std.proofs.Common.{append_assoc, append-nil, inl, inr, ◌∙◌, eqb-true}
use Rattle.std.proofs.Math.Option.{none, some}
use Rattle.std.proofs.Math.Path.{ap, refl, sym}
use native.Mathlib.Omega.{arith}
use Rattle.model.specs.Machine.{Slots, UsedSlot, child_slot, free, grow, load, raise, raised, root_slot}
use Rattle.model.specs.Maps.{put}
use Rattle.model.specs.Search.{ClausePath, Search, node_at}
use Rattle.theory.proofs.Kit.ClausePaths.{Above, Ends, app-cons-not-nil, last_step, longer}
use Rattle.theory.proofs.Kit.Maps.{Met, Passed, put-cases, put_other, put_same, some-none}
use Rattle.theory.specs.Tree.Laws.{Laws}
use Rattle.theory.proofs.Tree.Nodes.{node_at-append, node_at-child, node_at-here}
use Rattle.theory.specs.Tree.Slots.{Adds, Earlier, Extends, Frees, Grown, Grows, Later, Parent, Shape}

module _ (T : Search) where
  pub grown-refl : (f : UsedSlot T) → Grown T f f
  grown-refl f = record { node = refl; path = refl; parent = refl; tried = omega arith }

  pub shape-grows : (S S' : Slots T) → Grows T S S' → Shape T S → Shape T S'
  shape-grows S S' g sh =
      let r = g.forth 0 sh.top sh.root-used in
      record {
        top = r.ent;
        root-used = r.used;
        root-node = r.grown.node ∙ sh.root-node;
        root-path = r.grown.path ∙ sh.root-path;
        leads = λ s e u. led s e (g.back s e u);
        parents = λ s e u z. par s e (g.back s e u) z;
        apart = λ s t e f u v q.
            let o = g.back s e u in
            let p = g.back t f v in
            sh.apart s t o.ent p.ent o.used p.used (sym o.grown.path ∙ q ∙ p.grown.path);
        below = λ s t e f j r u v q.
            let o = g.back s e u in
            let p = g.back t f v in
            let l = sh.below s t o.ent p.ent j r o.used p.used (rw (← o.grown.path, ← p.grown.path) q) in
            omega (arith, p.grown.tried);
      }
    where
      led : (s : ℕ) (e : UsedSlot T) → Earlier T S s e → node_at T T.root e.path ≡ some e.node
      led s e o = rw (o.grown.path, o.grown.node) (sh.leads s o.ent o.used)

      par : (s : ℕ) (e : UsedSlot T) → Earlier T S s e → s ≢ 0 → Parent T S' s e
      par s e o z =
          let p = sh.parents s o.ent o.used z in
          let n = g.forth o.ent.parent p.up p.used in
          record {
            up = n.ent;
            used = rw o.grown.parent n.used;
            k = p.k;
            path = rw (o.grown.path, n.grown.path) p.path;
            tried = omega (arith, p.tried, n.grown.tried);
            child = rw (o.grown.node, n.grown.node) p.child;
          }

  pub raise-grows : (S : Slots T) (s : ℕ) (e : UsedSlot T) → S s ≡ some e → Grows T S (raise T S s e)
  unfolding raise
  raise-grows S s e here = record { forth = λ t f u. forth t f u (eqb t s) refl; back = λ t f q. back t f (put-cases S s (some (raised T e)) t (some f) q) }
    where
      grew : (f : UsedSlot T) → f ≡ e → Grown T f (raised T e)
      grew f h = rw h (record { node = refl; path = refl; parent = refl; tried = omega arith })

      forth : (t : ℕ) (f : UsedSlot T) → S t ≡ some f → (b : Bool) → eqb t s ≡ b → Later T (raise T S s e) t f
      forth t f u true q = let z = eqb-true t s q in let h : S t ≡ S s = rw z refl in record { ent = raised T e; used = rw q refl; grown = grew f cc }
      forth t f u false q = record { ent = f; used = rw q u; grown = grown-refl f }

      back : (t : ℕ) (f : UsedSlot T) → Met S s (some (raised T e)) t (some f) ⊎ Passed S s t (some f) → Earlier T S t f
      back t f (inl m) = let h : f ≡ raised T e = cc in record { ent = e; used = rw m.at here; grown = rw h (record { node = refl; path = refl; parent = refl; tried = omega arith }) }
      back t f (inr m) = record { ent = f; used = m.was; grown = grown-refl f }

  pub shape-adds : Laws T → (S : Slots T) (c : ℕ) (n : UsedSlot T) → Adds T S c n → Shape T S → Shape T (put S c (some n))
  shape-adds L S c n a sh =
      record {
        top = sh.top;
        root-used = keep 0 sh.top sh.root-used;
        root-node = sh.root-node;
        root-path = sh.root-path;
        leads = λ s e u. led s e (put-cases S c (some n) s (some e) u);
        parents = λ s e u z. par s e (put-cases S c (some n) s (some e) u) z;
        apart = λ s t e f u v q. apa s t e f (put-cases S c (some n) s (some e) u) (put-cases S c (some n) t (some f) v) q;
        below = λ s t e f j r u v q. bel s t e f j r (put-cases S c (some n) s (some e) u) (put-cases S c (some n) t (some f) v) q;
      }
    where
      keep : (t : ℕ) (f : UsedSlot T) → S t ≡ some f → put S c (some n) t ≡ some f
      keep t f u = put_other S c t (some n) (λ h. some-none u (cc a.room)) ∙ u

      made : Parent T S c n → node_at T T.root n.path ≡ some n.node
      made p = rw p.path (node_at-append T p.up.path (p.k ∷ []) T.root p.up.node (sh.leads n.parent p.up p.used) ∙ node_at-child T p.up.node n.node p.k [] p.child ∙ node_at-here T n.node)

      led : (s : ℕ) (e : UsedSlot T) → Met S c (some n) s (some e) ⊎ Passed S c s (some e) → node_at T T.root e.path ≡ some e.node
      led s e (inl m) = let h : e ≡ n = cc in rw h (made a.parent)
      led s e (inr m) = sh.leads s e m.was

      lift : (s : ℕ) (e : UsedSlot T) → Parent T S s e → Parent T (put S c (some n)) s e
      lift s e p = record { up = p.up; used = keep e.parent p.up p.used; k = p.k; path = p.path; tried = p.tried; child = p.child }

      par : (s : ℕ) (e : UsedSlot T) → Met S c (some n) s (some e) ⊎ Passed S c s (some e) → s ≢ 0 → Parent T (put S c (some n)) s e
      par s e (inl m) z = let h : e ≡ n = cc in rw (h, m.at) (lift c n a.parent)
      par s e (inr m) z = lift s e (sh.parents s e m.was z)

      apa : (s t : ℕ) (e f : UsedSlot T) → Met S c (some n) s (some e) ⊎ Passed S c s (some e) → Met S c (some n) t (some f) ⊎ Passed S c t (some f) → e.path ≡ f.path
          → s ≡ t
      apa s t e f (inl m) (inl k) q = cc (m.at, k.at)
      apa s t e f (inl m) (inr k) q = let h : e ≡ n = cc in absurd (a.alone t f [] k.was (sym q ∙ ap (λ (x : UsedSlot T). x.path) h ∙ sym (append-nil n.path)))
      apa s t e f (inr m) (inl k) q = let h : f ≡ n = cc in absurd (a.alone s e [] m.was (q ∙ ap (λ (x : UsedSlot T). x.path) h ∙ sym (append-nil n.path)))
      apa s t e f (inr m) (inr k) q = sh.apart s t e f m.was k.was q

      under_parent : (t : ℕ) (f : UsedSlot T) (j : ℕ) (r : ClausePath) → S t ≡ some f → (p : Parent T S c n)
          → Ends f.path p.up.path j p.k r ⊎ Above f.path p.up.path j p.k r → j < f.tried
      under_parent t f j r v p (inl h) =
          let z = sh.apart t n.parent f p.up v p.used h.same in
          let w : S t ≡ S n.parent = rw z refl in
          let y : f ≡ p.up = cc p.used in
          rw (h.index, y) p.tried
      under_parent t f j r v p (inr h) = sh.below n.parent t p.up f j h.between p.used v h.lower

      bel : (s t : ℕ) (e f : UsedSlot T) (j : ℕ) (r : ClausePath) → Met S c (some n) s (some e) ⊎ Passed S c s (some e)
          → Met S c (some n) t (some f) ⊎ Passed S c t (some f) → e.path ≡ f.path ++ (j ∷ r) → j < f.tried
      bel s t e f j r (inl m) (inl k) q = absurd (longer f.path j r (let h : e ≡ f = cc in sym q ∙ ap (λ (x : UsedSlot T). x.path) h))
      bel s t e f j r (inl m) (inr k) q =
          let h : e ≡ n = cc in
          let p = a.parent in
          under_parent t f j r k.was p (last_step f.path p.up.path j p.k r (sym q ∙ ap (λ (x : UsedSlot T). x.path) h ∙ p.path))
      bel s t e f j r (inr m) (inl k) q = let h : f ≡ n = cc in absurd (a.alone s e (j ∷ r) m.was (q ∙ ap (λ (x : UsedSlot T). x.path ++ (j ∷ r)) h))
      bel s t e f j r (inr m) (inr k) q = sh.below s t e f j r m.was k.was q

  pub shape_free : (S : Slots T) (s : ℕ) (e : UsedSlot T) → Frees T S s e → Shape T S → Shape T (free T S s)
  unfolding free
  shape_free S s e a sh =
      record {
        top = sh.top;
        root-used = put_other S s 0 none (λ h. a.inner (sym h)) ∙ sh.root-used;
        root-node = sh.root-node;
        root-path = sh.root-path;
        leads = λ t f u. sh.leads t f (was t f u);
        parents = λ t f u z. par t f (was t f u) z;
        apart = λ t r f g u v q. sh.apart t r f g (was t f u) (was r g v) q;
        below = λ t r f g j x u v q. sh.below t r f g j x (was t f u) (was r g v) q;
      }
    where
      was : (t : ℕ) (f : UsedSlot T) → put S s none t ≡ some f → S t ≡ some f
      was t f u = go (put-cases S s none t (some f) u)
        where
          go : Met S s none t (some f) ⊎ Passed S s t (some f) → S t ≡ some f
          go (inl m) = absurd (some-none refl m.is)
          go (inr m) = m.was

      par : (t : ℕ) (f : UsedSlot T) → S t ≡ some f → t ≢ 0 → Parent T (put S s none) t f
      par t f u z =
          let p = sh.parents t f u z in
          record { up = p.up; used = put_other S s f.parent none (a.childless t f u z) ∙ p.used; k = p.k; path = p.path; tried = p.tried; child = p.child }

  pub grow-adds : (S : Slots T) (s : ℕ) (e : UsedSlot T) (c : ℕ) (m : T.Node) → Extends T S s e c m → Shape T S → Adds T (raise T S s e) c (child_slot T s e m)
  unfolding raise
  grow-adds S s e c m x sh =
      record {
        room = put_other S s c (some (raised T e)) off ∙ x.room;
        parent = record { up = raised T e; used = put_same S s (some (raised T e)); k = e.tried; path = refl; tried = omega arith; child = x.child };
        alone = λ t f r u q. alone t f r ((raise-grows S s e x.used).back t f u) q;
      }
    where
      off : c ≢ s
      off h = some-none x.used (cc x.room)

      alone : (t : ℕ) (f : UsedSlot T) (r : ClausePath) → Earlier T S t f → f.path ≡ (e.path ++ (e.tried ∷ [])) ++ r → ⊥
      alone t f r o q =
          let l = sh.below t s o.ent e e.tried r o.used x.used (sym o.grown.path ∙ q ∙ append_assoc e.path (e.tried ∷ []) r) in
          omega arith

  pub shape-grow : Laws T → (S : Slots T) (s : ℕ) (e : UsedSlot T) (c : ℕ) (m : T.Node) → Extends T S s e c m → Shape T S → Shape T (grow T S s e c m)
  unfolding grow
  shape-grow L S s e c m x sh = shape-adds L (raise T S s e) c (child_slot T s e m) (grow-adds S s e c m x sh) (shape-grows S (raise T S s e) (raise-grows S s e x.used) sh)

  load-root : (s : ℕ) (e : UsedSlot T) → (load T).slots s ≡ some e → (s ≡ 0) × (e ≡ root_slot T)
  unfolding load
  load-root s e u = go (put-cases (λ _. none) 0 (some (root_slot T)) s (some e) u)
    where
      go : Met (λ _. none) 0 (some (root_slot T)) s (some e) ⊎ Passed (λ _. none) 0 s (some e) → (s ≡ 0) × (e ≡ root_slot T)
      go (inl m) = (m.at, cc m.is)
      go (inr m) = absurd (some-none refl (sym m.was))

  pub shape-load : Shape T (load T).slots
  unfolding load
  shape-load =
      record {
        top = root_slot T;
        root-used = put_same (λ _. none) 0 (some (root_slot T));
        root-node = refl;
        root-path = refl;
        leads = λ s e u. led e (load-root s e u).1;
        parents = λ s e u z. absurd (z (load-root s e u).0);
        apart = λ s t e f u v q. (load-root s e u).0 ∙ sym (load-root t f v).0;
        below = λ s t e f j r u v q. absurd (app-cons-not-nil f.path j r (sym q ∙ ap (λ (x : UsedSlot T). x.path) (load-root s e u).1));
      }
    where
      led : (e : UsedSlot T) → e ≡ root_slot T → node_at T T.root e.path ≡ some e.node
      led e h = rw h (node_at-here T T.root)
