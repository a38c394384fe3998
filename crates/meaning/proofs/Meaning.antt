-- What a legal image means: the theorems of this crate, together. Document 01, "Rule image".
-- A reader who believes `encode` and `WellFormed` of the model need not believe the walk of the check: it accepts exactly the encodings of well-formed rule sets. Assumes nothing.
use Rattle.std.specs.Prelude.{◌≡◌, ◌↔◌, List, [], ℕ, ◌≤◌, ◌<◌, length, get_or}
use Rattle.std.proofs.Common.{sym, ap, ◌∙◌, arith, Ok}
use Rattle.std.proofs.Math.Option.{some}
use Rattle.std.proofs.Math.ListN.{get_elem?}
use Rattle.model.specs.Fields.{predicate_count, arity, clause_count}
use Rattle.model.specs.Image.{predicate_word, check_image, check_query}
use Rattle.model.specs.Rules.{Clause, Predicate, Rules}
use Rattle.model.specs.Encoding.{Words, encode, encode_query, WellFormed, WellFormedQuery}
use Rattle.model.specs.Decoding.{clause_at, decode_clause, decode_predicate, decode, decode_query}
use Rattle.meaning.specs.Stands.{Stands}
use Rattle.meaning.proofs.Stands.{stands-behind}
use Rattle.meaning.proofs.ClauseLengths.{clause-short}
use Rattle.meaning.proofs.Decoded.{decode-at, clauses-decoded-at}
use Rattle.meaning.specs.ClausePlaces.{ClausePlace}
use Rattle.meaning.proofs.ClausePlaces.{clause-place}
use Rattle.meaning.proofs.Headers.{declares-decoded}
use Rattle.meaning.proofs.Images.{image-complete, image-decode, image-sound, length-encode, encode-parts}
use Rattle.meaning.proofs.Queries.{query-image, query-complete, query-decode, query-sound}
use Rattle.meaning.proofs.EncodedWords.{encode-words, encode_query-words}
use Rattle.meaning.specs.PredicatePlaces.{PredicatePlace}
use Rattle.meaning.proofs.PredicatePlaces.{predicate-place}

-- an image is legal exactly if it is the encoding of a well-formed rule set
pub legal-encodes : (image : List ℕ) → Words image → (check_image image ≡ Ok tt) ↔ ((program : Rules) × WellFormed program × (encode program ≡ image))
legal-encodes image words = (
  λ legal. let s = image-sound image words legal in (decode image, s.1, s.0),
  λ encoded. ap check_image (sym encoded.2) ∙ image-complete encoded.0 encoded.1,
)

-- that rule set is the one that it decodes to
pub legal-decodes : (image : List ℕ) → Words image → check_image image ≡ Ok tt → (encode (decode image) ≡ image) × WellFormed (decode image)
legal-decodes = image-sound

-- and an encoding, which is a list of words, decodes to nothing else
pub encode-decodes : (program : Rules) → WellFormed program → (decode (encode program) ≡ program) × Words (encode program)
encode-decodes program good = (image-decode program good, encode-words program good)

pub encode-unique : (image : List ℕ) (program : Rules) → WellFormed program → encode program ≡ image → decode image ≡ program
encode-unique image program good e = ap decode (sym e) ∙ image-decode program good

-- the same for a query against a legal image
pub legal-query-encodes : (image query : List ℕ) → check_image image ≡ Ok tt → Words query
    → (check_query image query ≡ Ok tt) ↔ ((clause : Clause) × WellFormedQuery (decode image) clause × (encode_query clause ≡ query))
legal-query-encodes image query legal words = (
  λ e. let s = query-sound image query words e in (decode_query image query, s.1, s.0),
  λ encoded. ap (check_query image) (sym encoded.2) ∙ query-complete image encoded.0 legal encoded.1,
)

-- a query is legal only against a legal image
pub legal-query-image : (image query : List ℕ) → check_query image query ≡ Ok tt → check_image image ≡ Ok tt
legal-query-image = query-image

pub legal-query-decodes : (image query : List ℕ) → Words query → check_query image query ≡ Ok tt
    → (encode_query (decode_query image query) ≡ query) × WellFormedQuery (decode image) (decode_query image query)
legal-query-decodes = query-sound

pub encode_query-decodes : (image : List ℕ) (query : Clause) → WellFormedQuery (decode image) query → (decode_query image (encode_query query) ≡ query) × Words (encode_query query)
encode_query-decodes image query good = (query-decode image query good, encode_query-words image query good)

-- positions in an image have 17 bits; a query has at most 257 words
pub legal-short : (image : List ℕ) → Words image → check_image image ≡ Ok tt → length image ≤ 131071
legal-short image words legal = let s = image-sound image words legal in omega (arith, ap length s.0, s.1.image_length)

pub legal-query-short : (image query : List ℕ) → Words query → check_query image query ≡ Ok tt → length query ≤ 257
unfolding encode_query
legal-query-short image query words legal =
    let s = query-sound image query words legal in
    omega (arith, ap length s.0, clause-short (declares-decoded image) 0 (omega arith) (decode_query image query) s.1.clause)

-- each predicate of a legal image stands in it, with its clauses, their goals and arguments
pub legal-places : (image : List ℕ) → Words image → check_image image ≡ Ok tt → (number : ℕ) (predicate : Predicate) → get_elem? (decode image) number ≡ some predicate
    → PredicatePlace image (decode image) number predicate
legal-places image words legal number predicate e =
    let s = image-sound image words legal in
    let size = sym (ap length s.0) ∙ length-encode (decode image) in
    let stands : Stands image 0 (encode (decode image)) = rw s.0 (stands-behind [] image) in
    predicate-place image (decode image) s.1 size (encode-parts image (decode image) s.1 stands) number predicate e

-- the same by the numbers that the image's words have
pub legal-clauses : (image : List ℕ) → Words image → check_image image ≡ Ok tt → (number k : ℕ) → number < predicate_count (get_or image 0 0) → k < clause_count (predicate_word image number)
    → ClausePlace image image (decode image) (arity (predicate_word image number)) (clause_at image number k)
    (decode_clause image image (arity (predicate_word image number)) (clause_at image number k))
unfolding decode_predicate
legal-clauses image words legal number k h l =
    (legal-places image words legal number (decode_predicate image number) (decode-at image number h)).clauses k
    (decode_clause image image (arity (predicate_word image number)) (clause_at image number k)) (clauses-decoded-at image number k l)

-- and so does a legal query
pub legal-query-places : (image query : List ℕ) → Words query → check_query image query ≡ Ok tt → ClausePlace image query (decode image) 0 0 (decode_query image query)
unfolding encode_query
legal-query-places image query words legal =
    let s = query-sound image query words legal in
    let stands : Stands query 0 (encode_query (decode_query image query)) = rw s.0 (stands-behind [] query) in
    clause-place (declares-decoded image) query 0 (omega arith) (decode_query image query) 0 s.1.clause stands
