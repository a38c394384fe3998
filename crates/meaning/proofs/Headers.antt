-- The header, and what header and predicate words say of the rule set: how many predicates, and their arities. Document 01, "Rule image", header, faults 1 to 6. Assumes nothing.
use Rattle.std.specs.Prelude.{◌≡◌, refl, ℕ, zero, suc, ◌+◌, ◌≤◌, ◌<◌, eqb, leb, length, get_or}
use Rattle.std.proofs.Common.{sym, ap, arith, add-zero, zero-add, length-append, eqb-true, eq-eqb, ne_eqb, leb-true, le-leb, Ok}
use mathlib.Core.List.{List, [], ◌∷◌, flat_map}
use Rattle.std.proofs.lemmas.Bool.{eqb-false}
use Rattle.model.specs.declared.Kind.TheVariants.{Header, Predicate as PredicateWord}
use Rattle.model.specs.declared.Fault.TheVariants.{EmptyImage, WrongEdition, NoPredicates, ZeroField, LengthField, EndsEarly}
use Rattle.model.specs.Answers.{met}
use Rattle.model.specs.Fields.{widths_of, total, below, field, join, edition, predicate_count, header_zero, image_length, arity}
use Rattle.model.specs.Image.{predicate_word, header}
use Rattle.model.specs.Rules.{Rules}
use Rattle.model.specs.Encoding.{Word, Each, arity_of, encode_clauses, encode_predicates, WellFormedPred}
use Rattle.model.specs.Decoding.{decode, decode_predicate, decode_predicates}
use Rattle.words.specs.FieldLaws.{fields_from}
use Rattle.words.proofs.FieldLaws.{field-join, field_lt, join-field}
use Rattle.meaning.specs.Stands.{Stands}
use Rattle.meaning.proofs.Walks.{cond-held, cond-failed, same_place}
use Rattle.meaning.proofs.Goals.{Declares}
use Rattle.meaning.proofs.Predicates.{predicate-fields}

-- the fields of a header
pub record HeaderFields (word count size : ℕ) : Type 0 where
  pub is_edition : edition word ≡ 1
  pub is_count : predicate_count word ≡ count
  pub is_zero : header_zero word ≡ 0
  pub is_size : image_length word ≡ size

pub header-fields : (count size : ℕ) → count ≤ 1023 → size ≤ 131071 → HeaderFields (join (widths_of Header) (1 ∷ count ∷ 0 ∷ size ∷ [])) count size
unfolding widths_of field below total
header-fields count size h k =
    let read = field-join (widths_of Header) (1 ∷ count ∷ 0 ∷ size ∷ []) (omega arith) in
    record { is_edition = read 0; is_count = read 1; is_zero = read 2; is_size = read 3 }

pub header-word : (word : ℕ) → Word word → edition word ≡ 1 → header_zero word ≡ 0 → word ≡ join (widths_of Header) (1 ∷ predicate_count word ∷ 0 ∷ image_length word ∷ [])
unfolding widths_of field below total fields_from
header-word word h e z = sym (rw (e, z) at (join-field (widths_of Header) word h))

-- the walk finds no fault at a header with these fields and as many predicate words as it says
pub header-complete : (image : List ℕ) (count : ℕ) → HeaderFields (get_or image 0 0) count (length image) → 1 ≤ count → 1 + count ≤ length image → header image ≡ Ok (1 + count, 0)
unfolding header
header-complete image count f h l =
    rw (
      ne_eqb (length image) 0 (omega arith),
      f.is_edition,
      f.is_count,
      ne_eqb count 0 (omega arith),
      f.is_zero,
      f.is_size,
      eq-eqb (length image) (length image) refl,
      le-leb (1 + count) (length image) l,
    ) refl

-- a header at which no fault was met
pub record HeaderFound (image : List ℕ) (end after : ℕ) : Type 0 where
  pub fields : HeaderFields (get_or image 0 0) (predicate_count (get_or image 0 0)) (length image)
  pub nonempty : 1 ≤ predicate_count (get_or image 0 0)
  pub words : 1 + predicate_count (get_or image 0 0) ≤ length image
  pub ends : end ≡ 1 + predicate_count (get_or image 0 0)
  pub counted : after ≡ 0

pub header-sound : (image : List ℕ) {end after : ℕ} → header image ≡ Ok (end, after) → HeaderFound image end after
unfolding header
header-sound image e =
    let word = get_or image 0 0 in
    let there = cond-failed (eqb (length image) 0) EmptyImage 0 e in
    let one = cond-held (eqb (edition word) 1) WrongEdition 0 there.1 in
    let some = cond-failed (eqb (predicate_count word) 0) NoPredicates 0 one.1 in
    let zeros = cond-held (eqb (header_zero word) 0) ZeroField 0 some.1 in
    let size = cond-held (eqb (image_length word) (length image)) LengthField 0 zeros.1 in
    let words = cond-held (leb (1 + predicate_count word) (length image)) EndsEarly (length image) size.1 in
    let none = eqb-false (predicate_count word) 0 some.0 in
    let s = same_place words.1 in
    record {
      fields = record {
        is_edition = eqb-true (edition word) 1 one.0;
        is_count = refl;
        is_zero = eqb-true (header_zero word) 0 zeros.0;
        is_size = eqb-true (image_length word) (length image) size.0;
      };
      nonempty = omega arith;
      words = leb-true (1 + predicate_count word) (length image) words.0;
      ends = s.0;
      counted = s.1;
    }

-- arities of well-formed predicates have four bits
pub arity_of-narrow : (program all : Rules) → Each (WellFormedPred program) all → (number : ℕ) → arity_of all number ≤ 15
unfolding arity_of
arity_of-narrow program [] good number = omega arith
arity_of-narrow program (one ∷ all) good zero = good.0.arity
arity_of-narrow program (one ∷ all) good (suc number) = arity_of-narrow program all good.1 number

-- and are read back from their words
pub arity_of-encoded : (image : List ℕ) (program all : Rules) (number at : ℕ) → Each (WellFormedPred program) all → at + length (flat_map encode_clauses all) ≤ 131071
    → Stands image (1 + number) (encode_predicates at all) → (k : ℕ) → k < length all → arity (predicate_word image (number + k)) ≡ arity_of all k
unfolding encode_predicates arity_of flat_map
arity_of-encoded image program [] number at good h words k l = absurd (omega arith)
arity_of-encoded image program (one ∷ all) number at good h words zero l =
    rw (add-zero, words.1) (predicate-fields program one at good.0 (omega arith)).is_arity
arity_of-encoded image program (one ∷ all) number at good h words (suc k) l =
    let sum = length-append (encode_clauses one) (flat_map encode_clauses all) in
    let shift : 1 + number + 1 ≡ 1 + suc number = omega arith in
    let next : suc number + k ≡ number + suc k = omega arith in
    rw next at (arity_of-encoded image program all (suc number) (at + length (encode_clauses one)) good.1 (omega arith) (rw shift at words.2) k (omega arith))

pub length-decode_predicates : (count : ℕ) (image : List ℕ) (number : ℕ) → length (decode_predicates count image number) ≡ count
unfolding decode_predicates
length-decode_predicates zero image number = refl
length-decode_predicates (suc count) image number = ap suc (length-decode_predicates count image (suc number))

-- what the words decode to has the arities that stand there
pub arity_of-decoded : (count : ℕ) (image : List ℕ) (number k : ℕ) → k < count → arity_of (decode_predicates count image number) k ≡ arity (predicate_word image (number + k))
unfolding decode_predicates decode_predicate arity_of
arity_of-decoded zero image number k h = absurd (omega arith)
arity_of-decoded (suc count) image number zero h = rw add-zero refl
arity_of-decoded (suc count) image number (suc k) h =
    let shift : suc number + k ≡ number + suc k = omega arith in
    rw shift at (arity_of-decoded count image (suc number) k (omega arith))

arity_of-decoded-narrow : (count : ℕ) (image : List ℕ) (number k : ℕ) → arity_of (decode_predicates count image number) k ≤ 15
unfolding decode_predicates decode_predicate arity_of widths_of
arity_of-decoded-narrow zero image number k = omega arith
arity_of-decoded-narrow (suc count) image number zero = omega (arith, field_lt (widths_of PredicateWord) (predicate_word image number) 0)
arity_of-decoded-narrow (suc count) image number (suc k) = arity_of-decoded-narrow count image (suc number) k

pub declares-decoded : (image : List ℕ) → Declares image (decode image)
unfolding decode widths_of
declares-decoded image =
    let count = predicate_count (get_or image 0 0) in
    let same : length (decode_predicates count image 0) ≡ count = length-decode_predicates count image 0 in
    record {
      count = sym same;
      few = omega (arith, field_lt (widths_of Header) (get_or image 0 0) 1);
      narrow = arity_of-decoded-narrow count image 0;
      arities = λ predicate h. sym (rw zero-add at (arity_of-decoded count image 0 predicate (omega arith)));
    }
