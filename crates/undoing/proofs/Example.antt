-- What `Ready` asks can be had, and a failure can come late: a head p(X, c5, X) against a goal p(V, V, c7) of the root. X takes a REF to V's cell,
-- V takes c5 by an entry of the child's trail, and X is c5 then, not c7. Document 01, rule 7, "Failure". Assumes nothing.
use Rattle.std.specs.Prelude.{◌≡◌, refl, List, [], ◌∷◌, ℕ, zero, suc, ◌+◌, ◌<◌, get_or, replicate, Err}
use Rattle.std.proofs.Common.{sym, subst, inl, arith}
use Rattle.model.specs.Fields.{widths_of, total, below, field, join, op, variable_number}
use Rattle.model.specs.Memory.{cut_to, word_of, cell_of, cleared}
use Rattle.model.specs.Terms.{Store, found_said, dereference, argument_of, bind, pairing, unify_pair, unify_words, unify_head, clash}
use Rattle.model.specs.Steps.{undone, laid}
use Rattle.undoing.specs.Failure.{PathCell, Ready}
use Rattle.undoing.proofs.Failure.{failure-undone}

-- the head's words and the goal's: a variable's number 0 is the word 0x10000000, a constant c the word 0x20000000 + c
abbrev head_words : List ℕ
head_words = 0x10000000 ∷ 0x20000005 ∷ 0x10000000 ∷ []

abbrev goal_words : List ℕ
goal_words = 0x10000000 ∷ 0x10000000 ∷ 0x20000007 ∷ []

-- V's cell is the one that can be come to: its VNO, of number 0, is the word 0
abbrev Root : ℕ → Type 0
Root address = address ≡ 0

root-cell : PathCell Root 1 1 1 (replicate 2 0) (replicate 64 0) 0
unfolding field widths_of below total
root-cell = record {
  fits = omega arith;
  aside = inl (omega arith);
  linked = λ link. absurd (omega (arith, link));
  below = λ vno. omega arith;
  bound = λ vno link. absurd (omega (arith, link));
}

goals-reach : (k : ℕ) → k < 3 → op (get_or goal_words (0 + k) 0) ≡ 1 → Root (cell_of 0 (variable_number (get_or goal_words (0 + k) 0)))
unfolding field widths_of below total
goals-reach zero h variable = refl
goals-reach (suc zero) h variable = refl
goals-reach (suc (suc zero)) h variable = absurd (omega (arith, variable))
goals-reach (suc (suc (suc k))) h variable = absurd (omega arith)

heads-own : (k : ℕ) → k < 3 → op (get_or head_words (0 + k) 0) ≡ 1 → variable_number (get_or head_words (0 + k) 0) < 1
unfolding field widths_of below total
heads-own zero h variable = omega arith
heads-own (suc zero) h variable = absurd (omega (arith, variable))
heads-own (suc (suc zero)) h variable = omega arith
heads-own (suc (suc (suc k))) h variable = absurd (omega arith)

zero-at : (n k : ℕ) → ◌≡◌ {A = ℕ} (get_or (replicate n 0) k 0) 0
zero-at zero k = refl
zero-at (suc n) zero = refl
zero-at (suc n) (suc k) = zero-at n k

pub example-ready : Ready Root head_words goal_words 1 1 0 1 3 0 0 (replicate 2 0) (replicate 64 0) (replicate 64 0)
example-ready = record {
  closed = λ address e. subst (PathCell Root 1 1 1 (replicate 2 0) (replicate 64 0)) (sym e) root-cell;
  goals = goals-reach;
  heads = heads-own;
  unbound = λ k h. zero-at 2 (1 + k);
  bare = λ k h. zero-at 64 (32 + k);
  blank = λ k h. zero-at 64 (32 + k);
  cells_reach = omega arith;
  trail_reaches = omega arith;
  numbers_fit = omega arith;
  cells_fit = omega arith;
}

-- the store that the failure leaves: one word of the array, one cell and one entry are to be undone
abbrev failed_store : Store
failed_store = unify_head 3 head_words goal_words 1 1 0 0 0 (replicate 2 0) (laid 1 32 1 (replicate 64 0)) (replicate 64 0) 0

pub example-fails : (failed_store.unified ≡ Err (clash 1)) × (failed_store.array ≡ 0x40000005 ∷ 0 ∷ []) × (get_or failed_store.cells 32 0 ≡ 0x20000000) × (get_or failed_store.trail 33 0 ≡ 0x40000005)
unfolding field widths_of below total join cut_to word_of found_said dereference argument_of bind pairing unify_pair unify_words unify_head laid
example-fails = (refl, refl, refl, refl)

pub example-undone : (undone 1 failed_store.trail 32 failed_store.array ≡ replicate 2 0) × (cleared 1 32 failed_store.cells ≡ replicate 64 0) × (cleared 2 32 failed_store.trail ≡ replicate 64 0)
example-undone = failure-undone Root head_words goal_words 1 1 0 1 3 0 0 (replicate 2 0) (replicate 64 0) (replicate 64 0) example-ready failed_store 1 refl example-fails.0
