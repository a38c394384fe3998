-- Where words stand in a slice: read at a place, one behind the other. Everything about an encoding in an image goes by this. Assumes nothing.
use Rattle.std.specs.Prelude.{◌≡◌, refl, List, [], ◌∷◌, ◌++◌, ℕ, suc, ◌+◌, ◌≤◌, length, drop}
use Rattle.std.proofs.Common.{sym, ◌∙◌, arith, zero-add, add-zero, add-one, length-append, drop_of_length-le, drop-cons}
use Rattle.std.proofs.Math.Seq.{append_snoc, get_or-append_seam}
use Rattle.meaning.specs.Stands.{Stands}

module _ (words : List ℕ) where
  pub stands-append : (first second : List ℕ) (at : ℕ) {next : ℕ} → Stands words at first → next ≡ at + length first → Stands words next second → Stands words at (first ++ second)
  stands-append [] second at h e k = rw (e ∙ add-zero at) at k
  stands-append (word ∷ first) second at h e k =
      let shift : at + suc (length first) ≡ at + 1 + length first = omega arith in
      (h.0, h.1, stands-append first second (at + 1) h.2 (e ∙ shift) k)

  pub stands-left : (first second : List ℕ) (at : ℕ) → Stands words at (first ++ second) → Stands words at first
  stands-left [] second at h = tt
  stands-left (word ∷ first) second at h = (h.0, h.1, stands-left first second (at + 1) h.2)

  pub stands-right : (first second : List ℕ) (at : ℕ) → Stands words at (first ++ second) → Stands words (at + length first) second
  stands-right [] second at h = rw add-zero h
  stands-right (word ∷ first) second at h =
      let e : at + suc (length first) ≡ at + 1 + length first = omega arith in
      rw e (stands-right first second (at + 1) h.2)

  -- code stays within the slice
  pub stands-within : (code : List ℕ) (at : ℕ) → at ≤ length words → Stands words at code → at + length code ≤ length words
  stands-within [] at l h = omega arith
  stands-within (word ∷ code) at l h = omega (arith, stands-within code (at + 1) (omega (arith, h.0)) h.2)

  -- what stands at the first place and is as long as the slice is the slice
  pub stands-whole : (code : List ℕ) → length words ≡ length code → Stands words 0 code → code ≡ words
  stands-whole code e h = from code 0 (sym (e ∙ sym (zero-add (length code)))) h
    where
      from : (code : List ℕ) (at : ℕ) → at + length code ≡ length words → Stands words at code → code ≡ drop at words
      from [] at l h = sym (drop_of_length-le words {i = at} (omega arith))
      from (word ∷ code) at l h =
          let rest : code ≡ drop (suc at) words = rw add-one at (from code (at + 1) (omega arith) h.2) in
          rw (drop-cons words at 0 h.0, h.1, rest) refl

-- a slice stands in itself, and behind whatever is put before it
pub stands-behind : (before code : List ℕ) → Stands (before ++ code) (length before) code
stands-behind before [] = tt
stands-behind before (word ∷ code) =
    let e : length (before ++ (word ∷ [])) ≡ length before + 1 = length-append before (word ∷ []) in
    let next = rw (append_snoc, e) at (stands-behind (before ++ (word ∷ [])) code) in
    (rw length-append (omega arith), get_or-append_seam before word code 0, next)
