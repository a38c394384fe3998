-- A query against a legal image: the check finds it legal exactly if it is the encoding of a well-formed query, the one that it decodes to. Document 01, "Rule image", "A query is one clause of arity 0". Assumes nothing.
use Rattle.std.specs.Prelude.{◌≡◌, refl, List, [], ℕ, ◌+◌, length}
use Rattle.std.proofs.Common.{arith, zero-add, Ok, Err}
use Rattle.model.specs.declared.Refusal.TheVariants.{Query}
use Rattle.model.specs.Answers.{Verdict}
use Rattle.model.specs.Image.{clause, ending, query_walk, verdict, if_legal, check_image, check_query}
use Rattle.model.specs.Rules.{Clause}
use Rattle.model.specs.Encoding.{Words, encode_clause, encode_query, WellFormedQuery}
use Rattle.model.specs.Decoding.{decode, decode_clause, decode_query}
use Rattle.meaning.proofs.Stands.{stands-within, stands-whole, stands-behind}
use Rattle.meaning.proofs.Walks.{onward-passed}
use Rattle.meaning.proofs.Clauses.{clause-decode, clause-complete, clause-sound}
use Rattle.meaning.proofs.Headers.{declares-decoded}
use Rattle.meaning.proofs.Images.{verdict-legal, ending-complete, ending-sound}

-- the image is judged first
if_legal-both : (first next : Verdict) → if_legal first next ≡ Ok tt → (first ≡ Ok tt) × (next ≡ Ok tt)
if_legal-both (Ok u) next e = (refl, e)
if_legal-both (Err stop) next e = let z : ◌≡◌ {A = ℕ} 0 1 = cc in absurd (omega arith)

pub query-image : (image query : List ℕ) → check_query image query ≡ Ok tt → check_image image ≡ Ok tt
unfolding check_query
query-image image query e = (if_legal-both (check_image image) (verdict Query (query_walk image query)) e).0

-- the encoding of a well-formed query is legal
pub query-complete : (image : List ℕ) (query : Clause) → check_image image ≡ Ok tt → WellFormedQuery (decode image) query → check_query image (encode_query query) ≡ Ok tt
unfolding check_query query_walk encode_query
query-complete image query legal good =
    let words = encode_clause query in
    let walked = clause-complete (declares-decoded image) 0 (omega arith) words query 1 0 good.clause good.nonempty (stands-behind [] words) in
    let last = ending-complete words (0 + length words) (zero-add (length words)) in
    rw (legal, walked, last) refl

-- and decodes to that query
pub query-decode : (image : List ℕ) (query : Clause) → WellFormedQuery (decode image) query → decode_query image (encode_query query) ≡ query
unfolding decode_query encode_query
query-decode image query good = clause-decode (declares-decoded image) 0 (omega arith) (encode_clause query) query 0 good.clause (stands-behind [] (encode_clause query))

-- a legal query is the encoding of the query that it decodes to, and that is well formed
pub query-sound : (image query : List ℕ) → Words query → check_query image query ≡ Ok tt
    → (encode_query (decode_query image query) ≡ query) × WellFormedQuery (decode image) (decode_query image query)
unfolding check_query query_walk decode_query encode_query
query-sound image query small e =
    let legal = verdict-legal Query (query_walk image query) (if_legal-both (check_image image) (verdict Query (query_walk image query)) e).1 in
    let last = onward-passed (ending query) (clause image query 1 0 0) legal.2 in
    let found = clause-sound (declares-decoded image) 0 (omega arith) query small 1 0 last.before in
    let code = encode_clause (decode_clause image query 0 0) in
    let over = ending-sound query last.place last.seen last.behind in
    let within = stands-within query code 0 (omega arith) found.stands in
    (stands-whole query code (omega (arith, found.ends)) found.stands, record { nonempty = found.enough; clause = found.good })
