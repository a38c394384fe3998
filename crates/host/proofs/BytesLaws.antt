-- The words that a list of bytes spells, cut short; and that a verdict on so many words is near. Document 01, "Rule image".
-- Assumes nothing.
use mathlib.Core.Path.{◌≡◌, refl, sym, ap, ◌∙◌}
use mathlib.Core.Bool.{Bool, true, false}
use mathlib.Core.List.{List, ◌∷◌}
use Prim.Native.Nat.{ℕ, zero, suc, ◌/◌, ◌%◌, ◌≤◌, min}
use native.Mathlib.Omega.{arith}
use lib.Dec.{ltb}
use lib.ListN.{length, take}
use borrow.Author.Tests.{eq-eqb, ne_eqb, ltb-true, ltb-false}
use Rattle.model.specs.declared.Fault.TheVariants.{EndsEarly}
use Rattle.model.specs.declared.Refusal.TheVariants.{Image}
use Rattle.model.specs.Answers.{Verdict, refused_at}
use Rattle.std.proofs.Common.{Ok, Err}
use Rattle.model.specs.Numbers.{verdict_number}
use Rattle.model.specs.Image.{check_image}
use Rattle.model.specs.Bytes.{word_of_bytes, words_from, words_of_bytes, check_bytes}
use Rattle.image.specs.Positions.{check_image-position}
use Rattle.image.specs.LongImages.{check_image-long}
use Rattle.host.specs.Near.{Near}

pub length-words_from : (bytes : List ℕ) (count k : ℕ) → length (words_from bytes count k) ≡ count
unfolding words_from
length-words_from bytes zero k = refl
length-words_from bytes (suc count) k = ap suc (length-words_from bytes count (suc k))

take-words_from : (bytes : List ℕ) (few count k : ℕ) → few ≤ count → take few (words_from bytes count k) ≡ words_from bytes few k
unfolding words_from
take-words_from bytes zero count k h = refl
take-words_from bytes (suc few) zero k h = absurd (omega arith)
take-words_from bytes (suc few) (suc count) k h = ap (λ (l : List ℕ). word_of_bytes bytes k ∷ l) (take-words_from bytes few count (suc k) (omega arith))

-- a verdict on so few words is reported at a small position
pub check_image-near : (image : List ℕ) (found : Verdict) → found ≡ check_image image → length image ≤ 131072 → Near found
unfolding Near
check_image-near image (Ok u) e h = tt
check_image-near image (Err stop) e h = let p = check_image-position image stop.0 stop.1 (sym e) in omega arith

-- the first 131,072 words are judged as all of them
check_image-first : (bytes : List ℕ) (whole count : ℕ) → count ≡ min whole 131072 → check_image (words_from bytes count 0) ≡ check_image (words_from bytes whole 0)
check_image-first bytes whole count e = go (ltb whole 131072) refl
  where
    go : (short? : Bool) → ltb whole 131072 ≡ short? → check_image (words_from bytes count 0) ≡ check_image (words_from bytes whole 0)
    go true q =
        let h = ltb-true whole 131072 q in
        ap (λ (n : ℕ). check_image (words_from bytes n 0)) (omega arith)
    go false q =
        let h = ltb-false whole 131072 q in
        ap (λ (n : ℕ). check_image (words_from bytes n 0)) (omega arith)
        ∙ ap check_image (sym (take-words_from bytes 131072 whole 0 h))
        ∙ check_image-long (words_from bytes whole 0) (rw (length-words_from bytes whole 0) h)

module _ (bytes : List ℕ) (count answer : ℕ) (cut : count ≡ min (length bytes / 4) 131072) where
  pub check_bytes-whole : length bytes % 4 ≡ 0 → answer ≡ verdict_number (check_image (words_from bytes count 0)) → answer ≡ check_bytes bytes
  unfolding check_bytes words_of_bytes
  check_bytes-whole w e = simp (eq-eqb (length bytes % 4) 0 w) (e ∙ ap verdict_number (check_image-first bytes (length bytes / 4) count cut))

  -- "a byte length that isn't a multiple of four gives 6 at the count of whole words, or at 131,072 if that is less"
  pub check_bytes-broken : (length bytes % 4 ≡ 0 → ⊥) → answer ≡ verdict_number (refused_at (Image EndsEarly) count) → answer ≡ check_bytes bytes
  unfolding check_bytes
  check_bytes-broken w e = simp (ne_eqb (length bytes % 4) 0 w) (e ∙ ap (λ (n : ℕ). verdict_number (refused_at (Image EndsEarly) n)) cut)
