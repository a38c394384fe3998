-- The lowest free slot, by what a search from a slot on found. Assumes nothing.
use Rattle.std.proofs.Common.{◌≡◌, ◌∙◌, refl, List, ℕ, zero, suc, ◌+◌, ◌≤◌, ◌<◌, ◌≢◌, Option, Some, None, unwrap_or, inl, inr, arith, add-zero}
use Rattle.std.proofs.lemmas.Bool.{cases_lt}
use borrow.Author.Tests.{eq-eqb, ne_eqb}
use Rattle.std.specs.Option.{MatchOption}
use Rattle.model.specs.Memory.{used}
use Rattle.model.specs.Steps.{free_from}

module _ (nodes : List ℕ) where
  free_from-used : (left slot : ℕ) → used nodes slot ≡ 1 → free_from left nodes (slot + 1) ≡ free_from (suc left) nodes slot
  unfolding free_from
  free_from-used left slot e = rw (eq-eqb (used nodes slot) 1 e, free_from) refl

  -- all of so many slots are used
  free_from-none : (left slot : ℕ) → ((k : ℕ) → slot ≤ k → k < slot + left → used nodes k ≡ 1) → slot + left ≡ free_from left nodes slot
  unfolding free_from
  free_from-none zero slot all = add-zero slot
  free_from-none (suc left) slot all =
      let s : slot + suc left ≡ slot + 1 + left = omega arith in
      s ∙ free_from-none left (slot + 1) (λ k l u. all k (omega arith) (omega arith)) ∙ free_from-used left slot (all slot (omega arith) (omega arith))

  -- the first that is not
  free_from-free : (left slot : ℕ) → used nodes slot ≢ 1 → slot ≡ free_from (suc left) nodes slot
  unfolding free_from
  free_from-free left slot e = rw (ne_eqb (used nodes slot) 1 e, free_from) refl

  free_from-first : (left slot first : ℕ) → slot ≤ first → first < slot + left → used nodes first ≢ 1 → ((k : ℕ) → slot ≤ k → k < first → used nodes k ≡ 1) → first ≡ free_from left nodes slot
  free_from-first zero slot first l u free below = absurd (omega arith)
  free_from-first (suc left) slot first l u free below =
      elim (cases_lt slot first) [
        | inl lt ↦ free_from-first left (slot + 1) first (omega arith) (omega arith) free (λ k l u. below k (omega arith) u) ∙ free_from-used left slot (below slot (omega arith) lt)
        | inr ge ↦
            let e : slot ≡ first = omega arith in
            rw e (free_from-free left first free)
      ]

  -- the answer of the search, over all slots
  pub free_from-found : (found : Option ℕ) → MatchOption found ((k : ℕ) → 0 ≤ k → k < 64 → used nodes k ≡ 1) (λ first. (0 ≤ first) × (first < 64) × (used nodes first ≢ 1) × ((k : ℕ) → 0 ≤ k → k < first → used nodes k ≡ 1))
      → unwrap_or found 64 ≡ free_from 64 nodes 0
  free_from-found None all = free_from-none 64 0 all
  free_from-found (Some first) (low, high, free, below) = free_from-first 64 0 first low high free below
