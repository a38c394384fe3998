-- What `all`, `any` and `find` over a range of numbers give, as definitions say it that go from a number on, one number at a turn. Assumes nothing.
-- A definition `from left k` looks at so many numbers from k on. Its equations are given: none left, a number that passes, a number that does not.
use Rattle.std.proofs.Common.{◌≡◌, refl, sym, ap, ap₂, subst, ◌∙◌, ℕ, zero, suc, ◌+◌, ◌-◌, ◌≤◌, ◌<◌, List, length, Bool, true, false, Option, Some, None, arith, Bor, eqb}
use Rattle.std.proofs.iter.Yields.{nat_range_steps}
use Rattle.std.proofs.lemmas.Bool.{true≢false, false≢true}
use Rattle.std.proofs.lemmas.Iterator.{cases_from_all, cases_from_any, first_from_Range, YieldsList-from_range}
use Rattle.std.proofs.lemmas.List.FromFn.{length-range_with_len, get_or-range_with_len}
use Rattle.std.specs.declared.ops.Range.{Range}
use Rattle.std.specs.Bool.{⊤, MatchBool}
use Rattle.std.specs.Fn.{Called, CalledAt}
use Rattle.std.specs.Iterator.{YieldsThen}
use Rattle.std.specs.List.{range_with_len, FoldsTo, AllWithin, HoldsAt}
use Rattle.std.specs.Option.{MatchOption}
use Rattle.model.specs.Damage.{each}
use borrow.Author.Tests.{eqb-true, eqb-false}
use denote.Param.Members.{Mut}

-- what is left of a count before a turn and after it, and at the end
pub left-after : (i n : ℕ) → i < n → n - i ≡ suc (n - (i + 1))
left-after i n h = omega arith

pub none-left : (i n : ℕ) → n ≤ i → n - i ≡ 0
none-left i n h = omega arith

-- all of the numbers pass, or one of them fails
module _ (test : ℕ → Bool) where
  each-step : (left k : ℕ) → test k ≡ true → each (suc left) test k ≡ each left test (k + 1)
  unfolding each
  each-step left k e = rw (e, each) refl

  each-stop : (left k : ℕ) → test k ≡ false → each (suc left) test k ≡ false
  unfolding each
  each-stop left k e = rw (e, each) refl

  pub each-true : (count k : ℕ) → ((j : ℕ) → k ≤ j → j < k + count → test j ≡ true) → each count test k ≡ true
  unfolding each
  each-true zero k h = refl
  each-true (suc count) k h = each-step count k (h k (omega arith) (omega arith)) ∙ each-true count (k + 1) (λ j l u. h j (omega arith) (omega arith))

  pub each-false : (count k j : ℕ) → k ≤ j → j < k + count → test j ≡ false → each count test k ≡ false
  each-false zero k j l u e = absurd (omega arith)
  each-false (suc count) k j l u e = go (test k) refl (λ apart. each-false count (k + 1) j (omega (arith, apart)) (omega arith) e)
    where
      go : (b : Bool) → test k ≡ b → (((k ≡ j) → ⊥) → each count test (k + 1) ≡ false) → each (suc count) test k ≡ false
      go true t rest = each-step count k t ∙ rest (λ q. true≢false (sym t ∙ ap test q ∙ e))
      go false f rest = each-stop count k f

  -- two tests that agree on the numbers
  pub each-same : (other : ℕ → Bool) (count k : ℕ) → ((j : ℕ) → k ≤ j → j < k + count → test j ≡ other j) → each count test k ≡ each count other k
  unfolding each
  each-same other zero k h = refl
  each-same other (suc count) k h =
      ap₂ (λ (t rest : Bool). elim t [ true ↦ rest | false ↦ false ]) (h k (omega arith) (omega arith)) (each-same other count (k + 1) (λ j l u. h j (omega arith) (omega arith)))

  each-from : (r : Bool) (a n : ℕ) → MatchBool r (AllWithin (λ k. test k ≡ true) (range_with_len a n) 0 (length (range_with_len a n)))
      ((k : ℕ) × (k < length (range_with_len a n)) × HoldsAt (λ k. test k ≡ false) (range_with_len a n) k) → r ≡ each n test a
  each-from true a n m =
      let long = length-range_with_len a n in
      sym (each-true n a (λ j l u. subst (λ (x : ℕ). test x ≡ true) (get_or-range_with_len a n (j - a) 0 (omega (arith, l, u)) ∙ (let e : a + (j - a) ≡ j = omega (arith, l) in e))
      (m (j - a) 0 (omega arith) (omega (arith, long, l, u)))))
  each-from false a n (k, within, here) =
      let long = length-range_with_len a n in
      let inside : k < n = omega (arith, long, within) in
      sym (each-false n a (a + k) (omega arith) (omega (arith, inside)) (subst (λ (x : ℕ). test x ≡ false) (get_or-range_with_len a n k 0 inside) (here 0)))

-- `(a..b).all(..)`: where the closure answers as the test does and keeps what it borrows
pub each-from_all : {F : Type 0} {g : Mut F (ℕ × Unit {0}) Bool} {s : Range ℕ} (u : Range ℕ) (f : F) (r : Bool) (test : ℕ → Bool) (a b n : ℕ) → s ≡ record { start = a; end = b } → b - a ≡ n
    → (xs : List ℕ) × (o : Option ℕ) × (j : F) × YieldsThen nat_range_steps s xs o u × FoldsTo (λ p x q. Called g p (x, tt) true q) f xs j
    × MatchOption o (r ≡ true) (λ x. (r ≡ false) × ((h : F) × Called g j (x, tt) false h))
    → ((x : ℕ) (q : F) → Called g f (x, tt) true q → (q ≡ f) × (test x ≡ true)) → ((x : ℕ) (q : F) → Called g f (x, tt) false q → test x ≡ false) → r ≡ each n test a
each-from_all u f r test a b n e long ran passes fails =
    each-from test r a n (cases_from_all u f r (λ k. test k ≡ true) (λ k. test k ≡ false) ran (YieldsList-from_range a b n e long) passes fails)

-- one of the numbers passes, or none of them: `from` is the definition
module _ (from : ℕ → ℕ → Bool) (test : ℕ → Bool) (none : (k : ℕ) → from 0 k ≡ false)
    (hit : (left k : ℕ) → test k ≡ true → from (suc left) k ≡ true) (miss : (left k : ℕ) → test k ≡ false → from (suc left) k ≡ from left (k + 1)) where
  pub some-false : (count k : ℕ) → ((j : ℕ) → k ≤ j → j < k + count → test j ≡ false) → from count k ≡ false
  some-false zero k h = none k
  some-false (suc count) k h = miss count k (h k (omega arith) (omega arith)) ∙ some-false count (k + 1) (λ j l u. h j (omega arith) (omega arith))

  pub some-true : (count k j : ℕ) → k ≤ j → j < k + count → test j ≡ true → from count k ≡ true
  some-true zero k j l u e = absurd (omega arith)
  some-true (suc count) k j l u e = go (test k) refl (λ apart. some-true count (k + 1) j (omega (arith, apart)) (omega arith) e)
    where
      go : (b : Bool) → test k ≡ b → (((k ≡ j) → ⊥) → from count (k + 1) ≡ true) → from (suc count) k ≡ true
      go true t rest = hit count k t
      go false f rest = miss count k f ∙ rest (λ q. false≢true (sym f ∙ ap test q ∙ e))

  some-from : (r : Bool) (a n : ℕ) → MatchBool r ((k : ℕ) × (k < length (range_with_len a n)) × HoldsAt (λ k. test k ≡ true) (range_with_len a n) k)
      (AllWithin (λ k. test k ≡ false) (range_with_len a n) 0 (length (range_with_len a n))) → r ≡ from n a
  some-from false a n m =
      let long = length-range_with_len a n in
      sym (some-false n a (λ j l u. subst (λ (x : ℕ). test x ≡ false) (get_or-range_with_len a n (j - a) 0 (omega (arith, l, u)) ∙ (let e : a + (j - a) ≡ j = omega (arith, l) in e))
      (m (j - a) 0 (omega arith) (omega (arith, long, l, u)))))
  some-from true a n (k, within, here) =
      let long = length-range_with_len a n in
      let inside : k < n = omega (arith, long, within) in
      sym (some-true n a (a + k) (omega arith) (omega (arith, inside)) (subst (λ (x : ℕ). test x ≡ true) (get_or-range_with_len a n k 0 inside) (here 0)))

  -- `(a..b).any(..)`
  pub some-from_any : {F : Type 0} {g : Mut F (ℕ × Unit {0}) Bool} {s : Range ℕ} (u : Range ℕ) (f : F) (r : Bool) (a b n : ℕ) → s ≡ record { start = a; end = b } → b - a ≡ n
      → (xs : List ℕ) × (o : Option ℕ) × (j : F) × YieldsThen nat_range_steps s xs o u × FoldsTo (λ p x q. Called g p (x, tt) false q) f xs j
      × MatchOption o (r ≡ false) (λ x. (r ≡ true) × ((h : F) × Called g j (x, tt) true h))
      → ((x : ℕ) (q : F) → Called g f (x, tt) true q → test x ≡ true) → ((x : ℕ) (q : F) → Called g f (x, tt) false q → (q ≡ f) × (test x ≡ false)) → r ≡ from n a
  some-from_any u f r a b n e long ran passes fails =
      some-from r a n (cases_from_any u f r (λ k. test k ≡ true) (λ k. test k ≡ false) ran (YieldsList-from_range a b n e long) passes fails)

-- the first of the numbers that passes, or none: `from` is the definition, and `said` what it says of what `find` gives
module _ {X : Type 0} (from : ℕ → ℕ → X) (said : Option ℕ → X) (test : ℕ → Bool)
    (hit : (left k : ℕ) → test k ≡ true → from (suc left) k ≡ said (Some k)) (miss : (left k : ℕ) → test k ≡ false → from (suc left) k ≡ from left (k + 1)) where
  first-none : (count k : ℕ) → from 0 (k + count) ≡ said None → ((j : ℕ) → k ≤ j → j < k + count → test j ≡ false) → from count k ≡ said None
  first-none zero k none h = ap (from 0) (let e : k ≡ k + 0 = omega arith in e) ∙ none
  first-none (suc count) k none h =
      miss count k (h k (omega arith) (omega arith))
      ∙ first-none count (k + 1) (ap (from 0) (let e : k + 1 + count ≡ k + suc count = omega arith in e) ∙ none) (λ j l u. h j (omega arith) (omega arith))

  first-some : (count k j : ℕ) → k ≤ j → j < k + count → test j ≡ true → ((i : ℕ) → k ≤ i → i < j → test i ≡ false) → from count k ≡ said (Some j)
  first-some zero k j l u e h = absurd (omega arith)
  first-some (suc count) k j l u e h = go (test k) refl (λ apart. first-some count (k + 1) j (omega (arith, apart)) (omega arith) e (λ i m v. h i (omega arith) v))
    where
      go : (b : Bool) → test k ≡ b → (((k ≡ j) → ⊥) → from count (k + 1) ≡ said (Some j)) → from (suc count) k ≡ said (Some j)
      go true t rest = hit count k t ∙ ap (λ (i : ℕ). said (Some i)) (same (eqb k j) refl)
        where
          same : (b : Bool) → eqb k j ≡ b → k ≡ j
          same true q = eqb-true k j q
          same false q = let n = eqb-false k j q in absurd (true≢false (sym t ∙ h k (omega arith) (omega (arith, n))))
      go false f rest = miss count k f ∙ rest (λ q. false≢true (sym f ∙ ap test q ∙ e))

  first-from : (r : Option ℕ) (a b n : ℕ) → b - a ≡ n → from 0 (a + n) ≡ said None
      → MatchOption r ((k : ℕ) → a ≤ k → k < b → test k ≡ false) (λ i. (a ≤ i) × (i < b) × (test i ≡ true) × ((k : ℕ) → a ≤ k → k < i → test k ≡ false)) → said r ≡ from n a
  first-from None a b n long none m = sym (first-none n a none (λ j l u. m j l (omega arith)))
  first-from (Some i) a b n long none (low, high, here, before) = sym (first-some n a i low (omega arith) here before)

  -- `(a..b).find(..)`
  pub first-from_find : {F : Type 0} {g : Mut F (Bor ℕ × Unit {0}) Bool} (s u : Range ℕ) (f : F) (r : Option ℕ) (a b n : ℕ) → s ≡ record { start = a; end = b } → b - a ≡ n → from 0 (a + n) ≡ said None
      → (xs : List ℕ) × (j : F) × YieldsThen nat_range_steps s xs r u × FoldsTo (λ p x q. CalledAt g p x false q) f xs j × MatchOption r ⊤ (λ x. (h : F) × CalledAt g j x true h)
      → ((x : ℕ) (q : F) → CalledAt g f x true q → test x ≡ true) → ((x : ℕ) (q : F) → CalledAt g f x false q → (q ≡ f) × (test x ≡ false)) → said r ≡ from n a
  first-from_find s u f r a b n e long none ran passes fails =
      let m = first_from_Range s u f r (λ k. test k ≡ true) (λ k. test k ≡ false) ran passes fails in
      first-from r a b n long none (subst (λ (t : Range ℕ). MatchOption r ((k : ℕ) → t.start ≤ k → k < t.end → test k ≡ false)
      (λ i. (t.start ≤ i) × (i < t.end) × (test i ≡ true) × ((k : ℕ) → t.start ≤ k → k < i → test k ≡ false))) e m)
