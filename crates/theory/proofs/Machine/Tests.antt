-- What the machine's tests mean: a slot is used or free, has a child or none, another worker is there or none; and a worker's going keeps it good.
-- Serves "A step by worker w at node N" of document 01. Assumes nothing.
use Rattle.std.specs.Prelude.{Bool, ◌&&◌, false, ◌≢◌, ◌≡◌, ◌<◌, ℕ}
use Rattle.std.proofs.Math.Bool.{not, true}
use Rattle.std.proofs.Math.Option.{Option, none, some}
use Rattle.std.proofs.Common.{◌∙◌, sym}
use Rattle.std.proofs.Math.Path.{refl}
use Rattle.std.proofs.Math.Dec.{eqb}
use borrow.Author.Tests.{eq-eqb, eqb-false, eqb-true, ne_eqb}
use Rattle.model.specs.Machine.{Machine, Size, Slots, UsedSlot, another_there, child_slot, free, goes, grow, has_child, is_child, is_free, raise}
use Rattle.model.specs.Maps.{put}
use Rattle.model.specs.Search.{Search}
use Rattle.theory.proofs.Kit.Bounded.{any_below-none}
use Rattle.theory.proofs.Kit.Maps.{put_other, put_same, some-none, true-false}
use Rattle.theory.specs.Machine.Invariants.{Good, InUse}
use Rattle.theory.proofs.Tree.Shapes.{raise-grows}
use Rattle.theory.specs.Tree.Slots.{Later}

module _ (T : Search) where
  -- a worker stands on a used slot after its own slot changed to s and the slots grew
  pub put-in_use : (S S' : Slots T) (at : ℕ → ℕ) (w s : ℕ) → ((t : ℕ) → InUse T S t → InUse T S' t) → InUse T S' s → (v : ℕ) → InUse T S (at v) → InUse T S' (put at w s v)
  put-in_use S S' at w s keep here v u = go (eqb v w) refl
    where
      go : (b : Bool) → eqb v w ≡ b → InUse T S' (put at w s v)
      go true q = rw (eqb-true v w q, put_same at w s) here
      go false q = rw (put_other at w v s (eqb-false v w q)) (keep (at v) u)

  pub grow-in_use : (S : Slots T) (s : ℕ) (e : UsedSlot T) (c : ℕ) (m : T.Node) → S s ≡ some e → S c ≡ none → (t : ℕ) → InUse T S t → InUse T (grow T S s e c m) t
  unfolding grow
  grow-in_use S s e c m here free t u = go ((raise-grows T S s e here).forth t u.0 u.1)
    where
      off : t ≢ c
      off h = some-none u.1 (cc (free))

      go : Later T (raise T S s e) t u.0 → InUse T (grow T S s e c m) t
      go n = (n.ent, put_other (raise T S s e) c t (some (child_slot T s e m)) off ∙ n.used)

  pub free-in_use : (S : Slots T) (s t : ℕ) → t ≢ s → InUse T S t → InUse T (free T S s) t
  unfolding free
  free-in_use S s t h u = (u.0, put_other S s t none h ∙ u.1)

  pub is_free-none : (o : Option (UsedSlot T)) → is_free T o ≡ true → o ≡ none
  unfolding is_free
  is_free-none none q = refl
  is_free-none (some e) q = true-false true refl (sym q)

module _ (T : Search) (Z : Size) where
  pub has_child-false : (M : Machine T) (s : ℕ) → has_child T Z M s ≡ false → (t : ℕ) (f : UsedSlot T) → M.slots t ≡ some f → t < Z.slots → t ≢ 0 → f.parent ≡ s → ⊥
  unfolding has_child is_child
  has_child-false M s h t f u l z q =
      true-false (is_child T (M.slots t) s t) (rw (u, is_child, ne_eqb t 0 z, eq-eqb f.parent s q) refl) (any_below-none Z.slots (λ x. is_child T (M.slots x) s x) h t l)

  pub another_there-false : (M : Machine T) (w s : ℕ) → another_there T Z M w s ≡ false → (v : ℕ) → v < Z.workers → v ≢ w → M.at v ≡ s → ⊥
  unfolding another_there
  another_there-false M w s h v l z q =
      true-false (not (eqb v w) && eqb (M.at v) s) (rw (ne_eqb v w z, eq-eqb (M.at v) s q) refl) (any_below-none Z.workers (λ x. not (eqb x w) && eqb (M.at x) s) h v l)

  pub goes-good : (M : Machine T) (w s : ℕ) → Good T Z M → InUse T M.slots s → Good T Z (goes T M w s)
  unfolding goes
  goes-good M w s g u =
      record { shape = g.shape; books = g.books; low = g.low; stands = λ v l. put-in_use T M.slots M.slots M.at w s (λ t x. x) u v (g.stands v l) }
