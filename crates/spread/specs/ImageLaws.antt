-- The words of a legal image, one by one: each is of the kind that stands at its number, with its zero field 0. Assumes nothing.
use Rattle.std.specs.Prelude.{◌≡◌, Bool, true, false, cond, List, [], ◌∷◌, eqb, ltb, leb, length, get_or, drop, Ok, Err}
use Rattle.std.proofs.Math.Path.{refl}
use Rattle.std.proofs.Common.{sym, ap, subst, ◌∙◌, arith, drop_of_length-le, drop-cons, eqb-true, leb-false, ltb-false}
use Prim.Native.Nat.{ℕ, zero, suc, ◌+◌, ◌≤◌, ◌<◌}
use Rattle.std.proofs.lemmas.Bool.{eqb-false}
use Rattle.model.specs.declared.Fault.{Fault}
use Rattle.model.specs.declared.Fault.TheVariants.{EmptyImage, WrongEdition, NoPredicates, ZeroField, LengthField, EndsEarly, LeftOver}
use Rattle.model.specs.declared.Refusal.TheVariants.{Image}
use Rattle.model.specs.Answers.{Verdict, Walk, met}
use Rattle.model.specs.Fields.{op, edition, predicate_count, header_zero, image_length}
use Rattle.model.specs.Image.{onward, predicates, header, ending, image_walk, verdict, check_image}
use Rattle.model.specs.Encoding.{Words}
use Rattle.model.specs.Spread.{kind_at, op_known}
use Rattle.spread.specs.WordLaws.{ZeroFields}
use Rattle.spread.specs.LegalLaws.{Fine, Checked, predicates-checked}

abbrev IsLegal : Verdict → Type 0
IsLegal (Ok u) = Unit {0}
IsLegal (Err stop) = ⊥

refused-legal : (fault : Fault) (at : ℕ) → verdict Image (met fault at) ≡ Ok tt → ⊥
refused-legal fault at e = subst IsLegal (sym e) tt

-- a walk that ends legally has gone on at each step
gone-on : (next : ℕ → ℕ → Walk) (walk : Walk) → verdict Image (onward next walk) ≡ Ok tt
    → (at : ℕ) × (seen : ℕ) × (walk ≡ Ok (at, seen)) × (verdict Image (next at seen) ≡ Ok tt)
gone-on next (Ok (at, seen)) e = (at, seen, refl, e)
gone-on next (Err stop) e = absurd (refused-legal stop.0 stop.1 e)

abbrev IsMet : Walk → Type 0
IsMet (Ok (at, seen)) = ⊥
IsMet (Err stop) = Unit {0}

not_on : {A : Type 0} {fault : Fault} {place at seen : ℕ} → ◌≡◌ {A = Walk} (met fault place) (Ok (at, seen)) → A
not_on e = absurd (subst IsMet e tt)

abbrev at_of : Walk → ℕ
at_of (Ok (at, seen)) = at
at_of (Err stop) = stop.1

-- what the header's tests say
record Begun (image : List ℕ) (first : ℕ) : Type 0 where
  starts : first ≡ 1 + predicate_count (get_or image 0 0)
  zero : header_zero (get_or image 0 0) ≡ 0
  some : 0 < length image

header-begun : (image : List ℕ) (first seen : ℕ) → header image ≡ Ok (first, seen) → Begun image first
unfolding header
header-begun image first seen e =
    go (eqb (length image) 0) refl (eqb (edition word) 1) (eqb (predicate_count word) 0) (eqb (header_zero word) 0) refl (eqb (image_length word) (length image)) (leb (1 + predicate_count word) (length image)) e
  where
    word : ℕ
    word = get_or image 0 0

    go : (empty? : Bool) → eqb (length image) 0 ≡ empty? → (edition? none? zero? : Bool) → eqb (header_zero word) 0 ≡ zero? → (length? long? : Bool)
        → cond {A = Walk} empty? (met EmptyImage 0) (cond edition? (cond none? (met NoPredicates 0) (cond zero? (cond length? (cond long? (Ok (1 + predicate_count word, 0)) (met EndsEarly (length image))) (met LengthField 0)) (met ZeroField 0))) (met WrongEdition 0)) ≡ Ok (first, seen)
        → Begun image first
    go true p d n z q l m f = not_on f
    go false p false n z q l m f = not_on f
    go false p true true z q l m f = not_on f
    go false p true false false q l m f = not_on f
    go false p true false true q false m f = not_on f
    go false p true false true q true false f = not_on f
    go false p true false true q true true f =
        let n = eqb-false (length image) 0 p in
        record { starts = ap at_of (sym f); zero = eqb-true (header_zero word) 0 q; some = omega arith }

ending-done : (image : List ℕ) (at seen : ℕ) → verdict Image (ending image at seen) ≡ Ok tt → length image ≤ at
unfolding ending
ending-done image at seen e = go (ltb at (length image)) refl e
  where
    go : (left? : Bool) → ltb at (length image) ≡ left? → verdict Image (cond left? (met LeftOver at) (Ok (at, seen))) ≡ Ok tt → length image ≤ at
    go true q f = absurd (refused-legal LeftOver at f)
    go false q f = ltb-false at (length image) q

-- a word of the kind that stands at its number, with its zero field 0
pub record Stands (count number word : ℕ) : Type 0 where
  pub known : op_known count number (op word) ≡ true
  pub zero : ZeroFields (kind_at count number (op word)) word

-- every word of a list does, from a number on, and is below 2^32
pub data Stand (count : ℕ) : ℕ → List ℕ → Type 0 where
  none : {number : ℕ} → Stand count number []
  more : {number word : ℕ} {words : List ℕ} → word < 4294967296 → Stands count number word → Stand count (suc number) words → Stand count number (word ∷ words)

-- what the walk over a legal image says: how it begins, and that every word after the predicates is fine
pub record Walked (image : List ℕ) : Type 0 where
  pub zero : header_zero (get_or image 0 0) ≡ 0
  pub some : 0 < length image
  pub fine : (i : ℕ) → predicate_count (get_or image 0 0) < i → i < length image → Fine (get_or image i 0)

pub walked : (image : List ℕ) → check_image image ≡ Ok tt → Walked image
unfolding check_image image_walk
walked image legal =
    let count = predicate_count (get_or image 0 0) in
    let g = gone-on (ending image) (onward (predicates count image 0) (header image)) legal in
    let h = gone-on (predicates count image 0) (header image) (ap (verdict Image) g.2) in
    let b = header-begun image h.0 h.1 h.2 in
    let f = subst (Checked image h.0) (sym (ap (onward (predicates count image 0)) h.2) ∙ g.2) (predicates-checked image count 0 h.0 h.1) in
    let d = ending-done image g.0 g.1 g.3 in
    record { zero = b.zero; some = b.some; fine = λ i l m. f i (omega (arith, b.starts)) (omega arith) }

module _ (image : List ℕ) (legal : check_image image ≡ Ok tt) where
  word_stands : (i : ℕ) → i < length image → Stands (predicate_count (get_or image 0 0)) i (get_or image i 0)
  unfolding op_known kind_at ZeroFields Fine
  word_stands i l = go (eqb i 0) refl (leb i count) refl
    where
      count : ℕ
      count = predicate_count (get_or image 0 0)

      go : (first? : Bool) → eqb i 0 ≡ first? → (declared? : Bool) → leb i count ≡ declared? → Stands count i (get_or image i 0)
      go true q true r =
          let z : header_zero (get_or image i 0) ≡ 0 = rw (eqb-true i 0 q) (walked image legal).zero in
          record { known = rw r refl; zero = rw q z }
      go true q false r = absurd (omega (arith, eqb-true i 0 q, leb-false i count r))
      go false q true r = record { known = rw r refl; zero = rw (q, r) tt }
      go false q false r =
          let f = (walked image legal).fine i (leb-false i count r) l in
          record { known = rw r f.0; zero = rw (q, r) f.1 }

  stand-from : (left i : ℕ) → left + i ≡ length image → Words image → Stand (predicate_count (get_or image 0 0)) i (drop i image)
  stand-from zero i e w =
      let h : length image ≤ i = omega arith in
      rw (drop_of_length-le image h) none
  stand-from (suc left) i e w =
      let h : i < length image = omega arith in
      rw (drop-cons image i 0 h) (more (w i) (word_stands i h) (stand-from left (suc i) (omega arith) w))

  -- every word of a legal image stands where its kind is expected
  pub image-stands : Words image → Stand (predicate_count (get_or image 0 0)) 0 image
  image-stands w = stand-from (length image) 0 (omega arith) w
