-- Facts of looking up and dereferencing by variable number: where references fall, a chain ends unbound or at a constant, and more looks change nothing.
-- Serves "both dereferenced" of document 01's rule 7. Assumes nothing.
use Rattle.std.specs.Prelude.{Bool, false, true, List, [], ◌++◌, ◌∷◌, ◌≢◌, ◌≡◌, refl, ◌<◌, suc, zero, ℕ, eqb}
use Rattle.std.proofs.Math.Option.{Option, none, some}
use Rattle.std.proofs.Common.{◌∙◌, sym, arith, eq-eqb, eqb-true, ne_eqb}
use Rattle.std.proofs.lemmas.Bool.{eqb-false}
use Rattle.model.specs.Definition.{Binding, Value, const, constant, dereference_in, lookup, ref, unbound}
use Rattle.theory.specs.Definition.Sane.{ReferencesFall, Unbound}
use Rattle.theory.proofs.Kit.Maps.{some-none}

pub dereference_in-none : (f : ℕ) (B : List Binding) (n : ℕ) → lookup B n ≡ none → dereference_in (suc f) B n ≡ unbound n
unfolding dereference_in
dereference_in-none f B n e = rw (e, dereference_in)

pub dereference_in-const : (f : ℕ) (B : List Binding) (n c : ℕ) → lookup B n ≡ some (const c) → dereference_in (suc f) B n ≡ constant c
unfolding dereference_in
dereference_in-const f B n c e = rw (e, dereference_in)

pub dereference_in-ref : (f : ℕ) (B : List Binding) (n m : ℕ) → lookup B n ≡ some (ref m) → dereference_in (suc f) B n ≡ dereference_in f B m
unfolding dereference_in
dereference_in-ref f B n m e = rw (e, dereference_in)

-- what is found unbound is unbound, and no higher than where the chain began
pub dereference_in-unbound : (f : ℕ) (B : List Binding) (n m : ℕ) → ReferencesFall B → n < f → dereference_in f B n ≡ unbound m → Unbound B n m
unfolding ReferencesFall
dereference_in-unbound zero B n m fa l e = absurd (omega arith)
dereference_in-unbound (suc f) B n m fa l e = go (lookup B n) refl (λ k h. dereference_in-unbound f B k m fa h)
  where
    found : (v : Value) → lookup B n ≡ some v → ((k : ℕ) → k < f → dereference_in f B k ≡ unbound m → Unbound B k m) → Unbound B n m
    found (const c) q ih = let z : ◌≡◌ {A = ℕ} 0 1 = cc (dereference_in-const f B n c q) in absurd (omega arith)
    found (ref k) q ih =
        let d = fa n k q in
        let u = ih k (omega arith) (sym (dereference_in-ref f B n k q) ∙ e) in
        record { missing = u.missing; low = omega (arith, u.low) }

    go : (o : Option Value) → lookup B n ≡ o → ((k : ℕ) → k < f → dereference_in f B k ≡ unbound m → Unbound B k m) → Unbound B n m
    go none q ih = let h : n ≡ m = cc (dereference_in-none f B n q) in record { missing = rw (← h) q; low = omega arith }
    go (some v) q ih = found v q ih

-- more fuel changes nothing
pub dereference_in-fuel : (f g : ℕ) (B : List Binding) (n : ℕ) → ReferencesFall B → n < f → n < g → dereference_in f B n ≡ dereference_in g B n
unfolding ReferencesFall
dereference_in-fuel zero g B n fa l k = absurd (omega arith)
dereference_in-fuel (suc f) zero B n fa l k = absurd (omega arith)
dereference_in-fuel (suc f) (suc g) B n fa l k = go (lookup B n) refl (λ m h j. dereference_in-fuel f g B m fa h j)
  where
    go : (o : Option Value) → lookup B n ≡ o → ((m : ℕ) → m < f → m < g → dereference_in f B m ≡ dereference_in g B m)
        → dereference_in (suc f) B n ≡ dereference_in (suc g) B n
    go none q ih = dereference_in-none f B n q ∙ sym (dereference_in-none g B n q)
    go (some (const c)) q ih = dereference_in-const f B n c q ∙ sym (dereference_in-const g B n c q)
    go (some (ref m)) q ih = let d = fa n m q in dereference_in-ref f B n m q ∙ ih m (omega arith) (omega arith) ∙ sym (dereference_in-ref g B n m q)

pub lookup-here : (b : Binding) (B : List Binding) (n : ℕ) → n ≡ b.number → lookup (b ∷ B) n ≡ some b.value
unfolding lookup
lookup-here b B n q = rw (eq-eqb n b.number q, lookup)

pub lookup-next : (b : Binding) (B : List Binding) (n : ℕ) → n ≢ b.number → lookup (b ∷ B) n ≡ lookup B n
unfolding lookup
lookup-next b B n q = rw (ne_eqb n b.number q, lookup)

pub lookup-append-none : (B M : List Binding) (n : ℕ) → lookup B n ≡ none → lookup (B ++ M) n ≡ lookup M n
lookup-append-none [] M n e = refl
lookup-append-none (b ∷ B) M n e = go (eqb n b.number) refl (lookup-append-none B M n)
  where
    go : (t : Bool) → eqb n b.number ≡ t → (lookup B n ≡ none → lookup (B ++ M) n ≡ lookup M n) → lookup (b ∷ (B ++ M)) n ≡ lookup M n
    go true q ih = absurd (some-none (lookup-here b B n (eqb-true n b.number q)) e)
    go false q ih = let z = eqb-false n b.number q in lookup-next b (B ++ M) n z ∙ ih (sym (lookup-next b B n z) ∙ e)

pub lookup-append-some : (B M : List Binding) (n : ℕ) (v : Value) → lookup B n ≡ some v → lookup (B ++ M) n ≡ some v
unfolding lookup
lookup-append-some [] M n v e = absurd (some-none e refl)
lookup-append-some (b ∷ B) M n v e = go (eqb n b.number) refl (lookup-append-some B M n v)
  where
    go : (t : Bool) → eqb n b.number ≡ t → (lookup B n ≡ some v → lookup (B ++ M) n ≡ some v) → lookup (b ∷ (B ++ M)) n ≡ some v
    go true q ih = let z = eqb-true n b.number q in lookup-here b (B ++ M) n z ∙ sym (lookup-here b B n z) ∙ e
    go false q ih = let z = eqb-false n b.number q in lookup-next b (B ++ M) n z ∙ ih (sym (lookup-next b B n z) ∙ e)
