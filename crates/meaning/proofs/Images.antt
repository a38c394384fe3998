-- A whole image: the check finds it legal exactly if it is the encoding of a well-formed rule set, the one that it decodes to. Document 01, "Rule image". Assumes nothing.
use Rattle.std.specs.Prelude.{◌≡◌, refl, ℕ, suc, ◌+◌, ◌≤◌, ◌<◌, ltb, length, get_or}
use Rattle.std.proofs.Common.{sym, ap, ◌∙◌, arith, zero-add, length-append, ltb-false, le-ltb, Ok, Err}
use mathlib.Core.List.{List, [], ◌∷◌, flat_map}
use Rattle.model.specs.declared.Kind.TheVariants.{Header}
use Rattle.model.specs.declared.Fault.{Fault}
use Rattle.model.specs.declared.Fault.TheVariants.{LeftOver}
use Rattle.model.specs.Answers.{Walk, met}
use Rattle.model.specs.declared.Refusal.{Refusal}
use Rattle.model.specs.declared.Refusal.TheVariants.{Image}
use Rattle.model.specs.Fields.{widths_of, join, predicate_count, image_length}
use Rattle.model.specs.Image.{onward, predicates, header, ending, image_walk, verdict, check_image}
use Rattle.model.specs.Rules.{Rules}
use Rattle.model.specs.Encoding.{Words, encode_clauses, encode_predicates, encoded_length, encode, WellFormed}
use Rattle.model.specs.Decoding.{decode_predicates, decode}
use Rattle.words.proofs.FieldLaws.{field_lt}
use Rattle.meaning.specs.Stands.{Stands}
use Rattle.meaning.proofs.Stands.{stands-append, stands-left, stands-right, stands-within, stands-whole, stands-behind}
use Rattle.meaning.proofs.Walks.{cond-failed, onward-passed}
use Rattle.meaning.proofs.Goals.{Declares}
use Rattle.meaning.proofs.Predicates.{PredicatesStand, predicates-complete, predicates-decode, predicates-sound}
use Rattle.meaning.proofs.Headers.{HeaderFields, HeaderFound, header-fields, header-word, header-complete, header-sound, arity_of-narrow, arity_of-encoded, declares-decoded}

pub length-encode_predicates : (at : ℕ) (all : Rules) → length (encode_predicates at all) ≡ length all
unfolding encode_predicates
length-encode_predicates at [] = refl
length-encode_predicates at (one ∷ all) = ap suc (length-encode_predicates (at + length (encode_clauses one)) all)

pub length-encode : (program : Rules) → length (encode program) ≡ encoded_length program
unfolding encode encoded_length
length-encode program =
    omega (arith, length-append (encode_predicates (1 + length program) program) (flat_map encode_clauses program), length-encode_predicates (1 + length program) program)

pub encode-fits : (program : Rules) → WellFormed program → 1 + length program + length (flat_map encode_clauses program) ≤ 131071
unfolding encoded_length
encode-fits program good = omega (arith, length-encode program, good.image_length)

-- the parts of an encoding, where it stands
pub record Parts (image : List ℕ) (program : Rules) : Type 0 where
  pub there : 0 < length image
  pub first : HeaderFields (get_or image 0 0) (length program) (encoded_length program)
  pub words : Stands image 1 (encode_predicates (1 + length program) program)
  pub clauses : Stands image (1 + length program) (flat_map encode_clauses program)

pub encode-parts : (image : List ℕ) (program : Rules) → WellFormed program → Stands image 0 (encode program) → Parts image program
unfolding encode encoded_length
encode-parts image program good h = record {
  there = h.0;
  first = rw h.1 (header-fields (length program) (encoded_length program) good.predicate_count (encode-fits program good));
  words = stands-left image (encode_predicates (1 + length program) program) (flat_map encode_clauses program) 1 h.2;
  clauses =
      rw (length-encode_predicates (1 + length program) program) at (stands-right image (encode_predicates (1 + length program) program) (flat_map encode_clauses program) 1 h.2);
}

pub declares-encoded : (image : List ℕ) (program : Rules) → WellFormed program → Parts image program → Declares image program
unfolding encoded_length
declares-encoded image program good parts = record {
  count = parts.first.is_count;
  few = good.predicate_count;
  narrow = arity_of-narrow program program good.predicates;
  arities = λ predicate h.
      rw zero-add at (arity_of-encoded image program program 0 (1 + length program) good.predicates (encode-fits program good) parts.words predicate h);
}

-- a walk that met no fault is a legal verdict, and no other is
pub verdict-legal : (whose : Fault → Refusal) (walk : Walk) → verdict whose walk ≡ Ok tt → (end : ℕ) × (after : ℕ) × (walk ≡ Ok (end, after))
verdict-legal whose (Ok (at, seen)) e = (at, seen, refl)
verdict-legal whose (Err stop) e = let z : ◌≡◌ {A = ℕ} 0 1 = cc in absurd (omega arith)

-- at the end no word is left over
pub ending-complete : (words : List ℕ) (at : ℕ) → at ≡ length words → ending words at 0 ≡ Ok (at, 0)
unfolding ending
ending-complete words at e = rw (le-ltb at (length words) (omega arith)) refl

pub ending-sound : (words : List ℕ) (at seen : ℕ) {end after : ℕ} → ending words at seen ≡ Ok (end, after) → length words ≤ at
unfolding ending
ending-sound words at seen e = ltb-false at (length words) (cond-failed (ltb at (length words)) LeftOver at e).0

-- the encoding of a well-formed rule set is legal
pub image-complete : (program : Rules) → WellFormed program → check_image (encode program) ≡ Ok tt
unfolding check_image image_walk encoded_length
image-complete program good =
    let image = encode program in
    let parts = encode-parts image program good (stands-behind [] image) in
    let known = declares-encoded image program good parts in
    let size = length-encode program in
    let first : header image ≡ Ok (1 + length program, 0) = header-complete image (length program) (rw size parts.first) good.nonempty (omega arith) in
    let all = predicates-complete known program 0 (1 + length program) good.predicates (encode-fits program good) parts.words parts.clauses in
    let last = ending-complete image (1 + length program + length (flat_map encode_clauses program)) (sym size) in
    rw (parts.first.is_count, first, all, last) refl

-- and decodes to that rule set
pub image-decode : (program : Rules) → WellFormed program → decode (encode program) ≡ program
unfolding decode encoded_length
image-decode program good =
    let image = encode program in
    let parts = encode-parts image program good (stands-behind [] image) in
    let known = declares-encoded image program good parts in
    ap (λ (n : ℕ). decode_predicates n image 0) parts.first.is_count
    ∙ predicates-decode known program 0 (1 + length program) good.predicates (encode-fits program good) parts.words parts.clauses

-- the parts that the walk passed, put together
image-joined : {image : List ℕ} {program : Rules} (known : Declares image program) → Words image → {place start at end after : ℕ} → HeaderFound image place start
    → at ≡ 1 + length program → PredicatesStand known program 0 at end after → length image ≤ end → (encode program ≡ image) × WellFormed program
unfolding encode encoded_length widths_of
image-joined {image} {program} known small h e all l =
    let within = stands-within image (flat_map encode_clauses program) (1 + length program) (omega (arith, h.words, known.count)) (rw e at all.stands) in
    let size : 1 + length program + length (flat_map encode_clauses program) ≡ image_length (get_or image 0 0) = omega (arith, h.fields.is_size, all.ends) in
    let word : get_or image 0 0 ≡ join (widths_of Header) (1 ∷ length program ∷ 0 ∷ (1 + length program + length (flat_map encode_clauses program)) ∷ []) =
    rw (size, ← known.count) (header-word (get_or image 0 0) (small 0) h.fields.is_edition h.fields.is_zero) in
    let words = length-encode_predicates (1 + length program) program in
    let stands : Stands image 0 (encode program) = (
      omega (arith, h.words),
      word,
      stands-append image (encode_predicates (1 + length program) program) (flat_map encode_clauses program) 1 (rw e at all.words) (omega arith) (rw e at all.stands),
    ) in (
      stands-whole image (encode program) (omega (arith, length-encode program, h.fields.is_size)) stands,
      record {
        nonempty = omega (arith, h.nonempty, known.count);
        predicate_count = known.few;
        predicates = all.good;
        image_length = omega (arith, length-encode program, field_lt (widths_of Header) (get_or image 0 0) 3);
      },
    )

-- a legal image is the encoding of the rule set that it decodes to, and that is well formed
pub image-sound : (image : List ℕ) → Words image → check_image image ≡ Ok tt → (encode (decode image) ≡ image) × WellFormed (decode image)
unfolding check_image image_walk decode
image-sound image small e =
    let legal = verdict-legal Image (image_walk image) e in
    let count = predicate_count (get_or image 0 0) in
    let last = onward-passed (ending image) (onward (predicates count image 0) (header image)) legal.2 in
    let middle = onward-passed (predicates count image 0) (header image) last.before in
    let first = header-sound image middle.before in
    let all = predicates-sound (declares-decoded image) small count 0 (1 + count) first.words (rw (first.ends, first.counted) at middle.behind) in
    image-joined (declares-decoded image) small first (ap (λ (n : ℕ). 1 + n) (declares-decoded image).count) all (ending-sound image last.place last.seen last.behind)
