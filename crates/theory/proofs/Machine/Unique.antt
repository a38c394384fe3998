-- Two lists in clause order with the same members are one list: the order of the reports admits a single outcome.
-- Serves demand 2, "depth first in clause order". Assumes nothing.
use mathlib.Core.List.Memᴰ
use mathlib.Core.List.{List, Memᴰ, [], ◌++◌, ◌∷◌}
use Rattle.std.specs.Prelude.{◌⊎◌, ◌≡◌, refl, ◌<◌, ℕ}
use Rattle.std.proofs.Common.{inl, inr, ◌∙◌, sym, arith}
use Rattle.model.specs.Demands.{Before, ClauseOrder, Exactly, order-more}
use Rattle.model.specs.Search.{ClausePath, Search}

-- the same order by recursion, for proofs
Precedes : ClausePath → ClausePath → Type 0
Precedes [] d = ⊥
Precedes (x ∷ a) [] = ⊥
Precedes (x ∷ a) (y ∷ b) = (x < y) ⊎ ((x ≡ y) × Precedes a b)

precedes-asym : (a b : ClausePath) → Precedes a b → Precedes b a → ⊥
unfolding Precedes
precedes-asym [] b p q = p
precedes-asym (x ∷ a) [] p q = p
precedes-asym (x ∷ a) (y ∷ b) (inl h) (inl k) = omega arith
precedes-asym (x ∷ a) (y ∷ b) (inl h) (inr (e, k)) = omega arith
precedes-asym (x ∷ a) (y ∷ b) (inr (e, h)) (inl k) = omega arith
precedes-asym (x ∷ a) (y ∷ b) (inr (e, h)) (inr (f, k)) = precedes-asym a b h k

precedes-fork : (c : ClausePath) (i j : ℕ) (r s : ClausePath) → i < j → Precedes (c ++ (i ∷ r)) (c ++ (j ∷ s))
unfolding Precedes
precedes-fork [] i j r s h = inl h
precedes-fork (x ∷ c) i j r s h = inr (refl, precedes-fork c i j r s h)

precedes : (a b : ClausePath) → Before a b → Precedes a b
precedes a b l = rw (l.left, l.right) (precedes-fork l.common l.earlier l.later l.rest_earlier l.rest_later l.less)

pub before-asym : (a b : ClausePath) → Before a b → Before b a → ⊥
before-asym a b p q = precedes-asym a b (precedes a b p) (precedes b a q)

pub record SameMembers (l k : List ClausePath) : Type 0 where
  pub to : (d : ClausePath) → Memᴰ d l → Memᴰ d k
  pub from : (d : ClausePath) → Memᴰ d k → Memᴰ d l

record Heads (d : ClausePath) (l : List ClausePath) : Type 0 where
  above : (r : ClausePath) → Memᴰ r l → Before r d
  rest : ClauseOrder l

heads : {d : ClausePath} {l : List ClausePath} → ClauseOrder (d ∷ l) → Heads d l
heads (order-more h r) = record { above = h; rest = r }

pub order-unique : (l k : List ClausePath) → ClauseOrder l → ClauseOrder k → SameMembers l k → l ≡ k
order-unique [] [] p q s = refl
order-unique [] (y ∷ k) p q s = absurd (Memᴰ.not-nil (s.from y (Memᴰ.head refl)))
order-unique (x ∷ l) [] p q s = absurd (Memᴰ.not-nil (s.to x (Memᴰ.head refl)))
order-unique (x ∷ l) (y ∷ k) p q s = go (heads p) (heads q) (λ a b c. order-unique l k a b c)
  where
    go : Heads x l → Heads y k → (ClauseOrder l → ClauseOrder k → SameMembers l k → l ≡ k) → ◌≡◌ {A = List ClausePath} (x ∷ l) (y ∷ k)
    go hp hq ih =
        let e = same (Memᴰ.cases_cons (s.to x (Memᴰ.head refl))) (Memᴰ.cases_cons (s.from y (Memᴰ.head refl))) in
        let t = ih hp.rest hq.rest (record {
          to = λ d m. left d m e (Memᴰ.cases_cons (s.to d (Memᴰ.tail m)));
          from = λ d m. right d m e (Memᴰ.cases_cons (s.from d (Memᴰ.tail m)));
        }) in
        cc
      where
        same : (x ≡ y) ⊎ Memᴰ x k → (y ≡ x) ⊎ Memᴰ y l → x ≡ y
        same (inl e) m = e
        same (inr m) (inl e) = sym e
        same (inr m) (inr n) = absurd (before-asym x y (hq.above x m) (hp.above y n))

        left : (d : ClausePath) → Memᴰ d l → x ≡ y → (d ≡ y) ⊎ Memᴰ d k → Memᴰ d k
        left d m e (inl h) = let b = hp.above d m in let z : d ≡ x = h ∙ sym e in absurd (before-asym d x b (rw z (rw z at b)))
        left d m e (inr h) = h

        right : (d : ClausePath) → Memᴰ d k → x ≡ y → (d ≡ x) ⊎ Memᴰ d l → Memᴰ d l
        right d m e (inl h) = let b = hq.above d m in let z : d ≡ y = h ∙ e in absurd (before-asym d y b (rw z (rw z at b)))
        right d m e (inr h) = h

-- one list and no other has exactly the derivations in clause order
pub exactly-unique : (T : Search) (l k : List ClausePath) → Exactly T l → Exactly T k → ClauseOrder l → ClauseOrder k → l ≡ k
exactly-unique T l k x y p q = order-unique l k p q (record { to = λ d m. y.complete d (x.sound d m); from = λ d m. x.complete d (y.sound d m) })
