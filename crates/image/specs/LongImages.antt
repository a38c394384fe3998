-- An image has at most 131,071 words, the most that its header's length field of 17 bits can say.
-- A longer list is refused for its header alone, so its first 131,072 words are judged as it is. Document 01, "Rule image". Assumes nothing.
use Rattle.std.specs.Prelude.{◌≡◌, refl, Bool, true, false, cond, List, ℕ, ◌≤◌, ◌<◌, eqb, length, get_or, take}
use Rattle.std.proofs.Common.{ap, ◌∙◌, sym, arith, length-take-le, get_or-take, ne_eqb}
use Rattle.model.specs.declared.Kind.TheVariants.{Header}
use Rattle.model.specs.declared.Fault.{Fault}
use Rattle.model.specs.declared.Fault.TheVariants.{WrongEdition, NoPredicates, ZeroField, LengthField}
use Rattle.model.specs.Answers.{Walk, met, refused_at}
use Rattle.model.specs.declared.Refusal.TheVariants.{Image}
use Rattle.model.specs.Fields.{widths_of, edition, predicate_count, header_zero, image_length}
use Rattle.model.specs.Image.{onward, predicates, header, ending, image_walk, verdict, check_image}
use Rattle.words.proofs.FieldLaws.{field_lt}

image_length-lt : (word : ℕ) → image_length word < 131072
unfolding widths_of
image_length-lt word = field_lt (widths_of Header) word 3

-- the fault of every image that has 131,072 words or more and begins with this word
unfoldable pub long_fault : ℕ → Fault
long_fault word =
    cond (eqb (edition word) 1)
    (cond (eqb (predicate_count word) 0) NoPredicates
    (cond (eqb (header_zero word) 0) LengthField
    ZeroField))
    WrongEdition

header-long : (image : List ℕ) → 131072 ≤ length image → header image ≡ met (long_fault (get_or image 0 0)) 0
unfolding header long_fault
header-long image h =
    simp (ne_eqb (length image) 0 (omega arith), ne_eqb (image_length (get_or image 0 0)) (length image) (omega (arith, image_length-lt (get_or image 0 0))))
    (go (eqb (edition (get_or image 0 0)) 1) (eqb (predicate_count (get_or image 0 0)) 0) (eqb (header_zero (get_or image 0 0)) 0))
  where
    go : (edition? none? zero? : Bool)
        → cond edition? (cond none? (met NoPredicates 0) (cond zero? (met LengthField 0) (met ZeroField 0))) (met WrongEdition 0)
        ≡ met {A = ℕ × ℕ} (cond edition? (cond none? NoPredicates (cond zero? LengthField ZeroField)) WrongEdition) 0
    go false n z = refl
    go true true z = refl
    go true false true = refl
    go true false false = refl

pub check_image-fault : (image : List ℕ) → 131072 ≤ length image → check_image image ≡ refused_at (Image (long_fault (get_or image 0 0))) 0
unfolding check_image image_walk
check_image-fault image h =
    ap (λ (walk : Walk). verdict Image (onward (ending image) (onward (predicates (predicate_count (get_or image 0 0)) image 0) walk))) (header-long image h)

pub check_image-long : (image : List ℕ) → 131072 ≤ length image → check_image (take 131072 image) ≡ check_image image
check_image-long image h =
    let l : 131072 ≤ length (take 131072 image) = rw (length-take-le 131072 image h) (omega arith) in
    check_image-fault (take 131072 image) l ∙ ap (λ (word : ℕ). refused_at (Image (long_fault word)) 0) (get_or-take 131072 image 0 0 (omega arith)) ∙ sym (check_image-fault image h)
