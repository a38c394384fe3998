-- A move over the common entries gives the walk from the root and changes only what is trailed below them; undoing takes out what was installed;
-- the order of installing does not matter; and each word of a walk is the value that its trail has for that number.
-- Serves demand 3. Assumes nothing.
use Rattle.std.specs.Prelude.{Bool, false, true, List, [], ◌++◌, ◌∷◌, ◌≢◌, ◌≡◌, ◌<◌, suc, zero, ℕ, eqb, get_or, length, set}
use Rattle.std.proofs.Common.{inl, inr, ◌∙◌, sym, length-set, get_or-set_other, get_or-set_same, set-set, eq-eqb, eqb-true, ne_eqb}
use Rattle.std.proofs.Math.Path.{refl}
use Rattle.std.proofs.lemmas.List.{length-replicate, set_comm, set-get_or}
use Rattle.std.proofs.lemmas.Bool.{eqb-false}
use Rattle.theory.specs.Memory.Arrays.{Clear, OnTrail, TrailOnce, WordEntry, Words, install, install_up, moved, trail_value, undo, walk_words, zeros}

pub install-append : (s t : List WordEntry) (a : Words) → install (s ++ t) a ≡ install t (install s a)
unfolding install
install-append [] t a = refl
install-append (e ∷ s) t a = install-append s t (set a e.number e.value)

pub install-elsewhere : (t : List WordEntry) (a : Words) (n : ℕ) → (OnTrail n t → ⊥) → get_or (install t a) n 0 ≡ get_or a n 0
unfolding install OnTrail
install-elsewhere [] a n h = refl
install-elsewhere (e ∷ t) a n h = install-elsewhere t (set a e.number e.value) n (λ o. h (inr o)) ∙ get_or-set_other a e.number n e.value 0 (λ q. h (inl q))

pub undo-elsewhere : (t : List WordEntry) (a : Words) (n : ℕ) → (OnTrail n t → ⊥) → get_or (undo t a) n 0 ≡ get_or a n 0
unfolding undo OnTrail
undo-elsewhere [] a n h = refl
undo-elsewhere (e ∷ t) a n h = get_or-set_other (undo t a) e.number n 0 0 (λ q. h (inl q)) ∙ undo-elsewhere t a n (λ o. h (inr o))

-- undoing what was installed over unbound words gives the array back
pub undo-install : (t : List WordEntry) (a : Words) → TrailOnce t → Clear t a → undo t (install t a) ≡ a
unfolding undo install TrailOnce OnTrail
undo-install [] a d c = refl
undo-install (e ∷ t) a (h, d) c =
    let ih = undo-install t (set a e.number e.value) d (λ n o. get_or-set_other a e.number n e.value 0 (λ q. h (rw q at o)) ∙ c n (inr o)) in
    rw ih (set-set a e.number e.value 0 ∙ rw (← (c e.number (inl refl))) (set-get_or a e.number 0))

pub on_trail-right : (s t : List WordEntry) (n : ℕ) → OnTrail n t → OnTrail n (s ++ t)
unfolding OnTrail
on_trail-right [] t n o = o
on_trail-right (e ∷ s) t n o = inr (on_trail-right s t n o)

pub trail_once-right : (s t : List WordEntry) → TrailOnce (s ++ t) → TrailOnce t
unfolding TrailOnce
trail_once-right [] t d = d
trail_once-right (e ∷ s) t (h, d) = trail_once-right s t d

pub trail_once-apart : (s t : List WordEntry) → TrailOnce (s ++ t) → (n : ℕ) → OnTrail n s → OnTrail n t → ⊥
unfolding TrailOnce OnTrail
trail_once-apart [] t d n o p = o
trail_once-apart (e ∷ s) t (h, d) n (inl q) p = h (on_trail-right s t e.number (rw q at p))
trail_once-apart (e ∷ s) t (h, d) n (inr o) p = trail_once-apart s t d n o p

pub zeros-get_or : (n i : ℕ) → get_or (zeros n) i 0 ≡ 0
zeros-get_or zero i = refl
zeros-get_or (suc n) zero = refl
zeros-get_or (suc n) (suc i) = zeros-get_or n i

pub walk_words-clear : (n : ℕ) (s t : List WordEntry) → TrailOnce (s ++ t) → Clear t (walk_words n s)
unfolding walk_words
walk_words-clear n s t d i o = install-elsewhere s (zeros n) i (λ p. trail_once-apart s t d i p o) ∙ zeros-get_or n i

-- Demand 3: from the walk to c ++ x a move over c gives the walk to c ++ y
pub moved-walk_words : (n : ℕ) (c x y : List WordEntry) → TrailOnce (c ++ x) → moved x y (walk_words n (c ++ x)) ≡ walk_words n (c ++ y)
unfolding moved walk_words
moved-walk_words n c x y d =
    rw (install-append c x (zeros n), install-append c y (zeros n), undo-install x (install c (zeros n)) (trail_once-right c x d) (unfold walk_words in (walk_words-clear n c x d))) refl

pub moved-elsewhere : (x y : List WordEntry) (a : Words) (n : ℕ) → (OnTrail n x → ⊥) → (OnTrail n y → ⊥) → get_or (moved x y a) n 0 ≡ get_or a n 0
unfolding moved
moved-elsewhere x y a n h k = install-elsewhere y (undo x a) n k ∙ undo-elsewhere x a n h

-- the order of installing does not matter
install_up-set : (t : List WordEntry) (a : Words) (n v : ℕ) → (OnTrail n t → ⊥) → install_up t (set a n v) ≡ set (install_up t a) n v
unfolding install_up OnTrail
install_up-set [] a n v h = refl
install_up-set (e ∷ t) a n v h = rw (install_up-set t a n v (λ o. h (inr o))) (set_comm (install_up t a) n e.number v e.value (λ q. h (inl q)))

pub install_up-install : (t : List WordEntry) (a : Words) → TrailOnce t → install_up t a ≡ install t a
unfolding install_up install TrailOnce
install_up-install [] a d = refl
install_up-install (e ∷ t) a (h, d) = sym (install_up-set t a e.number e.value h) ∙ install_up-install t (set a e.number e.value) d

-- the array word by word: exactly the bindings of the path, and zero elsewhere
trail_value-here : (e : WordEntry) (t : List WordEntry) (n : ℕ) → n ≡ e.number → trail_value (e ∷ t) n ≡ e.value
unfolding trail_value
trail_value-here e t n q = rw (eq-eqb n e.number q, trail_value)

trail_value-next : (e : WordEntry) (t : List WordEntry) (n : ℕ) → n ≢ e.number → trail_value (e ∷ t) n ≡ trail_value t n
unfolding trail_value
trail_value-next e t n q = rw (ne_eqb n e.number q, trail_value)

pub install-trail_value : (t : List WordEntry) (a : Words) (i : ℕ) → TrailOnce t → Clear t a → i < length a → get_or a i 0 ≡ 0 → get_or (install t a) i 0 ≡ trail_value t i
unfolding install TrailOnce OnTrail trail_value
install-trail_value [] a i d c l z = z
install-trail_value (e ∷ t) a i (h, d) c l z = go (eqb i e.number) refl (λ p q. install-trail_value t (set a e.number e.value) i d p (rw (length-set a e.number e.value) l) q)
  where
    clear : Clear t (set a e.number e.value)
    clear n o = get_or-set_other a e.number n e.value 0 (λ q. h (rw q at o)) ∙ c n (inr o)

    go : (b : Bool) → eqb i e.number ≡ b
        → (Clear t (set a e.number e.value) → get_or (set a e.number e.value) i 0 ≡ 0 → get_or (install t (set a e.number e.value)) i 0 ≡ trail_value t i)
        → get_or (install t (set a e.number e.value)) i 0 ≡ trail_value (e ∷ t) i
    go true q ih =
        let y = eqb-true i e.number q in
        install-elsewhere t (set a e.number e.value) i (λ o. h (rw y at o)) ∙ rw y (get_or-set_same a e.number e.value 0 (rw y at l)) ∙ sym (trail_value-here e t i y)
    go false q ih =
        let y = eqb-false i e.number q in
        ih clear (get_or-set_other a e.number i e.value 0 y ∙ z) ∙ sym (trail_value-next e t i y)

pub walk_words-trail_value : (n : ℕ) (t : List WordEntry) (i : ℕ) → TrailOnce t → i < n → get_or (walk_words n t) i 0 ≡ trail_value t i
unfolding walk_words
walk_words-trail_value n t i d l = install-trail_value t (zeros n) i d (λ k o. zeros-get_or n k) (rw (length-replicate {A = ℕ} n 0) l) (zeros-get_or n i)
