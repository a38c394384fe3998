-- Every change of the slots keeps `Books`, and at Finished nothing is pending.
-- Serves demand 2: Tried, Extended, Answer and Back of document 01's steps, the load, and rule 1. Assumes nothing.
use Rattle.std.specs.Prelude.{Bool, false, true, ◌≢◌, ◌⊎◌, ◌≤◌, suc, zero, ℕ, eqb, length}
use mathlib.Core.List.Memᴰ
use mathlib.Core.List.{List, Memᴰ, [], ◌++◌, ◌∷◌}
use Rattle.std.proofs.Common.{inl, ◌∙◌, ap, arith, length-append, eqb-true}
use Rattle.std.proofs.Math.Logic.{inr}
use Rattle.std.proofs.Math.Option.{none, some}
use Rattle.std.proofs.Math.Path.{◌≡◌, refl, sym}
use Rattle.std.proofs.lemmas.Bool.{eqb-false}
use Rattle.model.specs.Demands.{nothing-reported, one_more}
use Rattle.model.specs.Machine.{Slots, UsedSlot, free, grow, load, raise, root_slot}
use Rattle.model.specs.Maps.{put}
use Rattle.model.specs.Search.{ClausePath, Derivation, Search}
use Rattle.theory.proofs.Kit.Maps.{Met, Passed, put-cases, put_other, put_same, some-none}
use Rattle.theory.specs.Tree.Laws.{Laws}
use Rattle.theory.proofs.Tree.Nodes.{derivation-first, node_at-child, node_at-here}
use Rattle.theory.proofs.Tree.Pendings.{pending-answer, pending-derivation, pending-grow, pending-grow-back, pending-grows, pending-raise}
use Rattle.theory.proofs.Tree.Shapes.{raise-grows}
use Rattle.theory.specs.Tree.Slots.{Books, Extends, Frees, Over, Pending, Shape, Through}

module _ (T : Search) where
  -- rule 7, the head fails: only the count changes
  pub books-tried : (S : Slots T) (O : List ClausePath) (s : ℕ) (e : UsedSlot T) → S s ≡ some e → T.child e.node e.tried ≡ none → Books T S O
      → Books T (raise T S s e) O
  books-tried S O s e here fails b =
      record {
        sound = b.sound;
        fresh = λ d m p. b.fresh d m (pending-grows T S (raise T S s e) (raise-grows T S s e here) d p);
        complete = λ d r. go d (b.complete d r);
        none_twice = b.none_twice;
      }
    where
      settle : (d : ClausePath) → Pending T (raise T S s e) d ⊎ Through T e d → Memᴰ d O ⊎ Pending T (raise T S s e) d
      settle d (inl p) = inr p
      settle d (inr t) = absurd (some-none (derivation-first T t.der).by fails)

      go : (d : ClausePath) → Memᴰ d O ⊎ Pending T S d → Memᴰ d O ⊎ Pending T (raise T S s e) d
      go d (inl m) = inl m
      go d (inr p) = settle d (pending-raise T S s e here d p)

  pub books-extended : (S : Slots T) (O : List ClausePath) (s : ℕ) (e : UsedSlot T) (c : ℕ) (m : T.Node) → Extends T S s e c m → T.without_goals m ≡ false → Shape T S
      → Books T S O → Books T (grow T S s e c m) O
  books-extended S O s e c m x inner sh b =
      record { sound = b.sound; fresh = λ d h p. b.fresh d h (pending-grow-back T S s e c m x d p); complete = λ d r. go d (b.complete d r); none_twice = b.none_twice }
    where
      settle : (d : ClausePath) → Pending T (grow T S s e c m) d ⊎ ((T.without_goals m ≡ true) × (d ≡ e.path ++ (e.tried ∷ [])))
          → Memᴰ d O ⊎ Pending T (grow T S s e c m) d
      settle d (inl p) = inr p
      settle d (inr (l, q)) = let z : ◌≡◌ {A = ℕ} 0 1 = cc in absurd (omega arith)

      go : (d : ClausePath) → Memᴰ d O ⊎ Pending T S d → Memᴰ d O ⊎ Pending T (grow T S s e c m) d
      go d (inl h) = inl h
      go d (inr p) = settle d (pending-grow T S s e c m x sh d p)

  pub books-answer : (S : Slots T) (O : List ClausePath) (s : ℕ) (e : UsedSlot T) (c : ℕ) (m : T.Node) → Extends T S s e c m → T.without_goals m ≡ true → Shape T S
      → Books T S O → Books T (grow T S s e c m) ((e.path ++ (e.tried ∷ [])) ∷ O)
  books-answer S O s e c m x over sh b =
      record {
        sound = λ d h. snd d (Memᴰ.cases_cons h);
        fresh = λ d h p. frs d (Memᴰ.cases_cons h) p;
        complete = λ d r. go d (b.complete d r);
        none_twice = one_more (λ h. b.fresh (e.path ++ (e.tried ∷ [])) h was) b.none_twice;
      }
    where
      d₀ : ClausePath
      d₀ = e.path ++ (e.tried ∷ [])

      last : Derivation T e.node (e.tried ∷ [])
      last = record { end = m; leads = node_at-child T e.node m e.tried [] x.child ∙ node_at-here T m; over = over }

      was : Pending T S (e.path ++ (e.tried ∷ []))
      was = record { slot = s; ent = e; used = x.used; k = e.tried; rest = []; untried = omega arith; path = refl; der = last }

      snd : (d : ClausePath) → (d ≡ e.path ++ (e.tried ∷ [])) ⊎ Memᴰ d O → Derivation T T.root d
      snd d (inl q) = rw q (pending-derivation T S sh (e.path ++ (e.tried ∷ [])) was)
      snd d (inr h) = b.sound d h

      frs : (d : ClausePath) → (d ≡ e.path ++ (e.tried ∷ [])) ⊎ Memᴰ d O → Pending T (grow T S s e c m) d → ⊥
      frs d (inl q) p = pending-answer T S s e c m x sh (rw q at p)
      frs d (inr h) p = b.fresh d h (pending-grow-back T S s e c m x d p)

      settle : (d : ClausePath) → Pending T (grow T S s e c m) d ⊎ ((T.without_goals m ≡ true) × (d ≡ e.path ++ (e.tried ∷ [])))
          → Memᴰ d ((e.path ++ (e.tried ∷ [])) ∷ O) ⊎ Pending T (grow T S s e c m) d
      settle d (inl p) = inr p
      settle d (inr (l, q)) = inl (Memᴰ.head q)

      go : (d : ClausePath) → Memᴰ d O ⊎ Pending T S d → Memᴰ d ((e.path ++ (e.tried ∷ [])) ∷ O) ⊎ Pending T (grow T S s e c m) d
      go d (inl h) = inl (Memᴰ.tail h)
      go d (inr p) = settle d (pending-grow T S s e c m x sh d p)

  pub books-free : Laws T → (S : Slots T) (O : List ClausePath) (s : ℕ) (e : UsedSlot T) → Frees T S s e → Books T S O → Books T (free T S s) O
  unfolding free
  books-free L S O s e a b =
      record { sound = b.sound; fresh = λ d h p. b.fresh d h (back d p); complete = λ d r. go d (b.complete d r); none_twice = b.none_twice }
    where
      back : (d : ClausePath) → Pending T (put S s none) d → Pending T S d
      back d p = case (put-cases S s none p.slot (some p.ent) p.used)
        where
          case : Met S s none p.slot (some p.ent) ⊎ Passed S s p.slot (some p.ent) → Pending T S d
          case (inl z) = absurd (some-none refl z.is)
          case (inr z) = record { slot = p.slot; ent = p.ent; used = z.was; k = p.k; rest = p.rest; untried = p.untried; path = p.path; der = p.der }

      keep : (d : ClausePath) → (p : Pending T S d) → (t : Bool) → eqb p.slot s ≡ t → Pending T (put S s none) d
      keep d p true q =
          let z = eqb-true p.slot s q in
          let w : S p.slot ≡ S s = rw z refl in
          let h : p.ent ≡ e = cc (p.used, a.used) in
          let v = derivation-first T p.der in
          let n = L.child_counted p.ent.node v.node p.k v.by in
          absurd (omega (arith, a.dead, p.untried, ap (λ (y : UsedSlot T). y.tried) h, ap (λ (y : UsedSlot T). T.clause_count y.node) h))
      keep d p false q = record { slot = p.slot; ent = p.ent; used = put_other S s p.slot none (eqb-false p.slot s q) ∙ p.used; k = p.k; rest = p.rest; untried = p.untried; path = p.path; der = p.der }

      go : (d : ClausePath) → Memᴰ d O ⊎ Pending T S d → Memᴰ d O ⊎ Pending T (put S s none) d
      go d (inl h) = inl h
      go d (inr p) = inr (keep d p (eqb p.slot s) refl)

  pub books-load : Laws T → Books T (load T).slots []
  unfolding load
  books-load L =
      record {
        sound = λ d h. absurd (Memᴰ.not-nil h);
        fresh = λ d h p. Memᴰ.not-nil h;
        complete = λ d r. inr (all d r);
        none_twice = nothing-reported;
      }
    where
      all : (d : ClausePath) → Derivation T T.root d → Pending T (load T).slots d
      all [] r = let h : some r.end ≡ some T.root = sym r.leads ∙ node_at-here T T.root in
          let g : r.end ≡ T.root = cc in
          let z : ◌≡◌ {A = ℕ} 0 1 = cc (r.over, L.root_has_goal) in absurd (omega arith)
      all (k ∷ d) r = record { slot = 0; ent = root_slot T; used = put_same (λ _. none) 0 (some (root_slot T)); k = k; rest = d; untried = omega arith; path = refl; der = r }

  over_root : (S : Slots T) → Shape T S → Over T S → (n s : ℕ) (e : UsedSlot T) → S s ≡ some e → length e.path ≤ n → s ≢ 0 → ⊥
  over_root S sh o zero s e u l z = let p = sh.parents s e u z in omega (arith, ap length p.path, length-append p.up.path (p.k ∷ []))
  over_root S sh o (suc n) s e u l z = go (eqb e.parent 0) refl (λ f v b. over_root S sh o n e.parent f v b)
    where
      go : (b : Bool) → eqb e.parent 0 ≡ b → ((f : UsedSlot T) → S e.parent ≡ some f → length f.path ≤ n → e.parent ≢ 0 → ⊥) → ⊥
      go true q ih = o.childless s e u z (eqb-true e.parent 0 q)
      go false q ih =
          let p = sh.parents s e u z in
          ih p.up p.used (omega (arith, ap length p.path, length-append p.up.path (p.k ∷ []))) (eqb-false e.parent 0 q)

  -- demand 2, its first half: at Finished the reports are the derivations, each once
  pub finished : Laws T → (S : Slots T) (O : List ClausePath) → Shape T S → Books T S O → Over T S → (d : ClausePath) → Derivation T T.root d → Memᴰ d O
  finished L S O sh b o d r = go (b.complete d r)
    where
      none_left : (p : Pending T S d) → (t : Bool) → eqb p.slot 0 ≡ t → ⊥
      none_left p true q =
          let z = eqb-true p.slot 0 q in
          let w : S p.slot ≡ S 0 = rw z refl in
          let h : p.ent ≡ o.top = cc (p.used, o.used) in
          let v = derivation-first T p.der in
          let n = L.child_counted p.ent.node v.node p.k v.by in
          omega (arith, o.dead, p.untried, ap (λ (y : UsedSlot T). y.tried) h, ap (λ (y : UsedSlot T). T.clause_count y.node) h)
      none_left p false q = over_root S sh o (length p.ent.path) p.slot p.ent p.used (omega arith) (eqb-false p.slot 0 q)

      go : Memᴰ d O ⊎ Pending T S d → Memᴰ d O
      go (inl h) = h
      go (inr p) = absurd (none_left p (eqb p.slot 0) refl)
