-- Unifying keeps bindings sane: it binds only what dereferencing found unbound, and of two variables the higher to the lower.
-- Serves "Unifying" of document 01's steps. Assumes nothing.
use Rattle.std.specs.Prelude.{Bool, false, true, List, [], ◌++◌, ◌∷◌, ◌≡◌, refl, ◌+◌, ◌<◌, suc, ℕ, eqb, ltb}
use Rattle.std.proofs.Common.{append_assoc, append-nil, ◌∙◌, sym, arith, eqb-true, ltb-false, ltb-true}
use Rattle.std.proofs.Math.Option.{Option, none, some}
use Rattle.std.proofs.lemmas.Bool.{eqb-false}
use Rattle.model.specs.Definition.{Binding, Dereferenced, Value, binding, const, constant, dereference, dereference_argument, lookup, ref, unbound, unify, unify_head}
use Rattle.model.specs.Rules.{Argument, con, var}
use Rattle.theory.proofs.Definition.Lookup.{dereference_in-unbound, lookup-append-none, lookup-append-some, lookup-here, lookup-next}
use Rattle.theory.specs.Definition.Sane.{BoundOnce, Continues, Made, ReferencesFall, Sane, Shows, nothing, one, shows-constant, shows-unbound}
use Rattle.theory.proofs.Kit.Maps.{some-none}

bound_once-snoc : (B : List Binding) (b : Binding) → lookup B b.number ≡ none → BoundOnce B → BoundOnce (B ++ (b ∷ []))
unfolding BoundOnce lookup
bound_once-snoc [] b e d = (refl, tt)
bound_once-snoc (x ∷ B) b e (h, d) = go (eqb b.number x.number) refl (bound_once-snoc B b)
  where
    go : (t : Bool) → eqb b.number x.number ≡ t → (lookup B b.number ≡ none → BoundOnce B → BoundOnce (B ++ (b ∷ [])))
        → (lookup (B ++ (b ∷ [])) x.number ≡ none) × BoundOnce (B ++ (b ∷ []))
    go true q ih = absurd (some-none (lookup-here x B b.number (eqb-true b.number x.number q)) e)
    go false q ih =
        let z = eqb-false b.number x.number q in
        (lookup-append-none B (b ∷ []) x.number h ∙ lookup-next b [] x.number (λ y. z (sym y)), ih (sym (lookup-next x B b.number z) ∙ e) d)

pub made-sane : (B M : List Binding) → Made B M → Sane B → Sane (B ++ M)
unfolding lookup
made-sane B [] nothing s = rw append-nil s
made-sane B (b ∷ (c ∷ M)) m s = elim m [ ]
made-sane B (b ∷ []) (one e f) s = record { falls = λ n m q. go n m q (lookup B n) refl; bound_once = bound_once-snoc B b e s.bound_once }
  where
    new : (n m : ℕ) → lookup (b ∷ []) n ≡ some (ref m) → (t : Bool) → eqb n b.number ≡ t → m < n
    new n m q true h = let z = eqb-true n b.number h in rw z (f m (cc (lookup-here b [] n z)))
    new n m q false h = absurd (some-none q (lookup-next b [] n (eqb-false n b.number h)))

    go : (n m : ℕ) → lookup (B ++ (b ∷ [])) n ≡ some (ref m) → (o : Option Value) → lookup B n ≡ o → m < n
    go n m q none h = new n m (sym (lookup-append-none B (b ∷ []) n h) ∙ q) (eqb n b.number) refl
    go n m q (some v) h = s.falls n m (h ∙ sym (lookup-append-some B (b ∷ []) n v h) ∙ q)

pub dereference_argument-shows : (B : List Binding) (b : ℕ) (a : Argument) → Sane B → (r : Dereferenced) → dereference_argument B b a ≡ r → Shows B r
unfolding dereference_argument dereference ReferencesFall
dereference_argument-shows B b a s (constant c) e = shows-constant
dereference_argument-shows B b (con c) s (unbound n) e = let z : ◌≡◌ {A = ℕ} 0 1 = cc in absurd (omega arith)
dereference_argument-shows B b (var i) s (unbound n) e = shows-unbound (dereference_in-unbound (suc (b + i)) B (b + i) n s.falls (omega arith) e).missing

-- one pair
made-is : (B N M : List Binding) → Made B N → some N ≡ some M → Made B M
made-is B N M h e = let z : N ≡ M = cc in rw (← z) h

one-const : (B : List Binding) (base n c : ℕ) → lookup B n ≡ none → Made B (binding base n (const c) ∷ [])
one-const B base n c u = one {b = binding base n (const c)} u (λ m q. let z : ◌≡◌ {A = ℕ} 0 1 = cc in absurd (omega arith))

one-ref : (B : List Binding) (base n m : ℕ) → lookup B n ≡ none → m < n → Made B (binding base n (ref m) ∷ [])
one-ref B base n m u l = one {b = binding base n (ref m)} u (λ k q. let z : m ≡ k = cc in omega arith)

pub unify-made : (B : List Binding) (base : ℕ) (r s : Dereferenced) → Shows B r → Shows B s → (M : List Binding) → unify base r s ≡ some M → Made B M
unfolding unify
unify-made B base (constant a) (constant b) p q M e = go (eqb a b) refl
  where
    go : (t : Bool) → eqb a b ≡ t → Made B M
    go true h = made-is B [] M nothing (rw (h, unify) at e)
    go false h = absurd (some-none e (rw (h, unify) refl))
unify-made B base (constant a) (unbound m) p (shows-unbound u) M e = made-is B (binding base m (const a) ∷ []) M (one-const B base m a u) e
unify-made B base (unbound n) (constant b) (shows-unbound u) q M e = made-is B (binding base n (const b) ∷ []) M (one-const B base n b u) e
unify-made B base (unbound n) (unbound m) (shows-unbound u) (shows-unbound v) M e = go (eqb n m) refl (ltb n m) refl
  where
    go : (t : Bool) → eqb n m ≡ t → (t' : Bool) → ltb n m ≡ t' → Made B M
    go true h t' k = made-is B [] M nothing (rw (h, unify) at e)
    go false h true k = made-is B (binding base m (ref n) ∷ []) M (one-ref B base m n v (ltb-true n m k)) (rw (h, unify, k, unify) at e)
    go false h false k = made-is B (binding base n (ref m) ∷ []) M (one-ref B base n m u (let y = ltb-false n m k in let z = eqb-false n m h in omega arith)) (rw (h, unify, k, unify) at e)

pub unify_head-sane : (B : List Binding) (base : ℕ) (hs : List Argument) (goal_base : ℕ) (gs : List Argument) (B' : List Binding) → Sane B
    → unify_head B base hs goal_base gs ≡ some B' → Continues B B'
unfolding unify_head
unify_head-sane B base [] goal_base [] B' s e = let z : B ≡ B' = cc in record { made = []; is = sym z ∙ sym (append-nil B); sane = rw (← z) s }
unify_head-sane B base [] goal_base (g ∷ gs) B' s e = absurd (some-none e refl)
unify_head-sane B base (h ∷ hs) goal_base [] B' s e = absurd (some-none e refl)
unify_head-sane B base (h ∷ hs) goal_base (g ∷ gs) B' s e = go (unify base (dereference_argument B base h) (dereference_argument B goal_base g)) refl (λ M. unify_head-sane (B ++ M) base hs goal_base gs B')
  where
    go : (o : Option (List Binding)) → unify base (dereference_argument B base h) (dereference_argument B goal_base g) ≡ o
        → ((M : List Binding) → Sane (B ++ M) → unify_head (B ++ M) base hs goal_base gs ≡ some B' → Continues (B ++ M) B') → Continues B B'
    go none q ih = absurd (some-none e (rw (q, unify_head) refl))
    go (some M) q ih =
        let m = unify-made B base (dereference_argument B base h) (dereference_argument B goal_base g) (dereference_argument-shows B base h s (dereference_argument B base h) refl) (dereference_argument-shows B goal_base g s (dereference_argument B goal_base g) refl) M q in
        let x = ih M (made-sane B M m s) (rw (q, unify_head) at e) in
        record { made = M ++ x.made; is = x.is ∙ append_assoc B M x.made; sane = x.sane }
