-- What is recalled is true, what is kept stays true, and of nothing all is true: of any keys and anything that is told of them. Assumes nothing.
use Rattle.std.proofs.Common.{◌≡◌, refl, sym, ap, subst, ◌∙◌, Bool, true, false, cond, List, Some, None, ℕ, ◌+◌, ◌*◌, ◌≤◌, ◌<◌, arith, eqb, ltb, length, length-set, set}
use borrow.Author.Tests.{eqb-true, eqb-false, ltb-true, ltb-false}
use Rattle.std.proofs.Math.ListN.{get_or-eq_default}
use Rattle.std.proofs.Math.Seq.{get_or-set_same, get_or-set_other}
use Rattle.memory.specs.Wiped.{Wiped}
use Rattle.recall.specs.Recall.{key_at, found_at, recalled, kept, Recalls}

module _ (tells : ℕ → ℕ → Type 0) (memo : List ℕ) where
  pub recall-true : (slot key found : ℕ) → Recalls tells memo → recalled memo slot key ≡ Some found → tells key found
  unfolding recalled
  recall-true slot key found told is = go (eqb (key_at memo slot) key) refl (eqb (found_at memo slot) 0) refl is
    where
      go : (b : Bool) → eqb (key_at memo slot) key ≡ b → (z : Bool) → eqb (found_at memo slot) 0 ≡ z → cond b (cond z None (Some (found_at memo slot))) None ≡ Some found → tells key found
      go true q true r e = absurd (cc)
      go true q false r e =
          let same : found_at memo slot ≡ found = cc in
          subst (λ (k : ℕ). tells k found) (eqb-true (key_at memo slot) key q) (subst (λ (f : ℕ). tells (key_at memo slot) f) same (told slot (eqb-false (found_at memo slot) 0 r)))
      go false q z r e = absurd (cc)

  -- where nothing was found, all that was found is true
  pub nothing-kept : Wiped memo → Recalls tells memo
  nothing-kept none slot some = absurd (some (none (2 * slot + 1)))

  pub keep-true : (slot key found : ℕ) → Recalls tells memo → tells key found → Recalls tells (kept memo slot key found)
  unfolding kept
  keep-true slot key found told new other some = go (eqb other slot) refl
    where
      keyed : List ℕ
      keyed = set memo (2 * slot) key

      after : List ℕ
      after = set (set memo (2 * slot) key) (2 * slot + 1) found

      -- what was found stands in the list
      outside : other ≡ slot → length memo ≤ 2 * slot + 1 → ⊥
      outside e short =
          some (ap (λ (s : ℕ). found_at after s) e ∙ get_or-eq_default after 0 (omega (arith, length-set keyed (2 * slot + 1) found, length-set memo (2 * slot) key)))

      here : other ≡ slot → 2 * slot + 1 < length memo → tells (key_at after other) (found_at after other)
      here e long =
          let k = ap (λ (s : ℕ). key_at after s) e ∙ get_or-set_other keyed (2 * slot + 1) (2 * slot) found 0 (λ q. omega arith) ∙ get_or-set_same memo (2 * slot) key 0 (omega arith) in
          let f = ap (λ (s : ℕ). found_at after s) e ∙ get_or-set_same keyed (2 * slot + 1) found 0 (omega (arith, length-set memo (2 * slot) key)) in
          subst (λ (n : ℕ). tells n (found_at after other)) (sym k) (subst (λ (n : ℕ). tells key n) (sym f) new)

      there : (other ≡ slot → ⊥) → tells (key_at after other) (found_at after other)
      there ne =
          let k = get_or-set_other keyed (2 * slot + 1) (2 * other) found 0 (λ q. omega arith) ∙ get_or-set_other memo (2 * slot) (2 * other) key 0 (λ q. ne (omega arith)) in
          let f = get_or-set_other keyed (2 * slot + 1) (2 * other + 1) found 0 (λ q. ne (omega arith)) ∙ get_or-set_other memo (2 * slot) (2 * other + 1) key 0 (λ q. omega arith) in
          subst (λ (n : ℕ). tells n (found_at after other)) (sym k) (subst (λ (n : ℕ). tells (key_at memo other) n) (sym f) (told other (λ z. some (f ∙ z))))

      within : (b : Bool) → ltb (2 * slot + 1) (length memo) ≡ b → other ≡ slot → tells (key_at after other) (found_at after other)
      within true q e = here e (ltb-true (2 * slot + 1) (length memo) q)
      within false q e = absurd (outside e (ltb-false (2 * slot + 1) (length memo) q))

      go : (b : Bool) → eqb other slot ≡ b → tells (key_at after other) (found_at after other)
      go true q = within (ltb (2 * slot + 1) (length memo)) refl (eqb-true other slot q)
      go false q = there (eqb-false other slot q)
