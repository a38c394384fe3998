-- Numbers that unifying binds stay below a bound that all variables met are below.
-- Serves "numbers that clause's variables from its base on" of document 01: no number at or past the end of a node's variables is bound. Assumes nothing.
use Rattle.std.specs.Prelude.{Bool, false, true, List, [], ◌++◌, ◌∷◌, ◌≡◌, refl, ◌+◌, ◌<◌, ◌≤◌, suc, ℕ, eqb, ltb}
use Rattle.std.proofs.Common.{append-nil, ◌∙◌, arith}
use Rattle.std.proofs.Math.Option.{Option, none, some}
use Rattle.model.specs.Definition.{Binding, Dereferenced, binding, const, constant, dereference, dereference_argument, lookup, ref, unbound, unify, unify_head}
use Rattle.model.specs.Rules.{Argument, con, var}
use Rattle.theory.proofs.Definition.Lookup.{dereference_in-unbound, lookup-append-none, lookup-next}
use Rattle.theory.specs.Definition.Sane.{BoundBelow, ReferencesFall, Sane, Under, VariablesBelow}
use Rattle.theory.proofs.Definition.Unifying.{dereference_argument-shows, made-sane, unify-made}
use Rattle.theory.proofs.Kit.Maps.{some-none}

dereference_argument-under : (k : ℕ) (B : List Binding) (b n : ℕ) (x : Argument) → Sane B → b + n ≤ k → VariablesBelow n (x ∷ []) → (r : Dereferenced)
    → dereference_argument B b x ≡ r → Under k r
unfolding dereference_argument dereference Under VariablesBelow ReferencesFall
dereference_argument-under k B b n (con d) s l v (constant c) e = tt
dereference_argument-under k B b n (var i) s l v (constant c) e = tt
dereference_argument-under k B b n (con c) s l v (unbound m) e = let z : ◌≡◌ {A = ℕ} 0 1 = cc in absurd (omega arith)
dereference_argument-under k B b n (var i) s l (h, v) (unbound m) e = let u = dereference_in-unbound (suc (b + i)) B (b + i) m s.falls (omega arith) e in omega (arith, u.low)

bound_below-snoc : (k : ℕ) (B : List Binding) (b : Binding) → b.number < k → BoundBelow k B → BoundBelow k (B ++ (b ∷ []))
unfolding BoundBelow lookup
bound_below-snoc k B b h l n q = lookup-append-none B (b ∷ []) n (l n q) ∙ lookup-next b [] n (omega arith)

unify-low : (k base : ℕ) (B M : List Binding) (r s : Dereferenced) → Under k r → Under k s → unify base r s ≡ some M → BoundBelow k B → BoundBelow k (B ++ M)
unfolding unify Under
unify-low k base B M r s p q e l = pick r s p q e
  where
    is : (K : List Binding) → some K ≡ some M → BoundBelow k (B ++ K) → BoundBelow k (B ++ M)
    is K z h = let y : K ≡ M = cc in rw (← y) h

    pick : (r s : Dereferenced) → Under k r → Under k s → unify base r s ≡ some M → BoundBelow k (B ++ M)
    pick (constant a) (constant b) p q e = go (eqb a b) refl
      where
        go : (t : Bool) → eqb a b ≡ t → BoundBelow k (B ++ M)
        go true h = is [] (rw (h, unify) at e) (rw append-nil l)
        go false h = absurd (some-none e (rw (h, unify) refl))
    pick (constant a) (unbound m) p q e = is (binding base m (const a) ∷ []) e (bound_below-snoc k B (binding base m (const a)) q l)
    pick (unbound n) (constant b) p q e = is (binding base n (const b) ∷ []) e (bound_below-snoc k B (binding base n (const b)) p l)
    pick (unbound n) (unbound m) p q e = go (eqb n m) refl (ltb n m) refl
      where
        go : (t : Bool) → eqb n m ≡ t → (t' : Bool) → ltb n m ≡ t' → BoundBelow k (B ++ M)
        go true h t' z = is [] (rw (h, unify) at e) (rw append-nil l)
        go false h true z = is (binding base m (ref n) ∷ []) (rw (h, unify, z, unify) at e) (bound_below-snoc k B (binding base m (ref n)) q l)
        go false h false z = is (binding base n (ref m) ∷ []) (rw (h, unify, z, unify) at e) (bound_below-snoc k B (binding base n (ref m)) p l)

pub unify_head-low : (k : ℕ) (B : List Binding) (base head_variables : ℕ) (hs : List Argument) (goal_base goal_variables : ℕ) (gs : List Argument) (B' : List Binding)
    → base + head_variables ≤ k → goal_base + goal_variables ≤ k → VariablesBelow head_variables hs → VariablesBelow goal_variables gs
    → Sane B → BoundBelow k B → unify_head B base hs goal_base gs ≡ some B' → BoundBelow k B'
unfolding unify_head VariablesBelow
unify_head-low k B base head_variables [] goal_base goal_variables [] B' x y vh vg s l e = let z : B ≡ B' = cc in rw (← z) l
unify_head-low k B base head_variables [] goal_base goal_variables (g ∷ gs) B' x y vh vg s l e = absurd (some-none e refl)
unify_head-low k B base head_variables (h ∷ hs) goal_base goal_variables [] B' x y vh vg s l e = absurd (some-none e refl)
unify_head-low k B base head_variables (h ∷ hs) goal_base goal_variables (g ∷ gs) B' x y vh vg s l e =
    go (unify base (dereference_argument B base h) (dereference_argument B goal_base g)) refl (λ M sm lm q. unify_head-low k (B ++ M) base head_variables hs goal_base goal_variables gs B' x y (rest head_variables h hs vh) (rest goal_variables g gs vg) sm lm q)
  where
    rest : (n : ℕ) (x : Argument) (xs : List Argument) → VariablesBelow n (x ∷ xs) → VariablesBelow n xs
    rest n (con c) xs b = b
    rest n (var i) xs b = b.1

    head : (n : ℕ) (x : Argument) (xs : List Argument) → VariablesBelow n (x ∷ xs) → VariablesBelow n (x ∷ [])
    head n (con c) xs b = tt
    head n (var i) xs b = (b.0, tt)

    go : (o : Option (List Binding)) → unify base (dereference_argument B base h) (dereference_argument B goal_base g) ≡ o
        → ((M : List Binding) → Sane (B ++ M) → BoundBelow k (B ++ M) → unify_head (B ++ M) base hs goal_base gs ≡ some B' → BoundBelow k B') → BoundBelow k B'
    go none q ih = absurd (some-none e (rw (q, unify_head) refl))
    go (some M) q ih =
        let m = unify-made B base (dereference_argument B base h) (dereference_argument B goal_base g) (dereference_argument-shows B base h s (dereference_argument B base h) refl) (dereference_argument-shows B goal_base g s (dereference_argument B goal_base g) refl) M q in
        ih M (made-sane B M m s) (unify-low k base B M (dereference_argument B base h) (dereference_argument B goal_base g) (dereference_argument-under k B base head_variables h s x (head head_variables h hs vh) (dereference_argument B base h) refl) (dereference_argument-under k B goal_base goal_variables g s y (head goal_variables g gs vg) (dereference_argument B goal_base g) refl) q l) (rw (q, unify_head) at e)
