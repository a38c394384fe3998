-- Decoding by place, for any words: element k of what is decoded is what is decoded at place k. With the places of a legal image this ties an index to the word that a search reads. Document 01, "Rule image". Assumes nothing.
use Rattle.std.specs.Prelude.{◌≡◌, refl, List, ℕ, zero, suc, ◌+◌, ◌<◌, get_or}
use Rattle.std.proofs.Math.Option.{some}
use Rattle.std.proofs.Common.{arith, add-zero, zero-add}
use Rattle.std.proofs.Math.ListN.{get_elem?}
use Rattle.model.specs.Fields.{predicate_count, arity, clause_count, goal_count}
use Rattle.model.specs.Image.{predicate_word}
use Rattle.model.specs.Decoding.{decode_arg, decode_args, goal_next, goal_from, goal_at, decode_goal, decode_goals, clause_next, clause_from, clause_at, decode_clause, decode_clauses, decode_predicate, decode_predicates, decode}

pub decode_args-at : (count : ℕ) (words : List ℕ) (at i : ℕ) → i < count → get_elem? (decode_args count words at) i ≡ some (decode_arg (get_or words (at + i) 0))
unfolding decode_args
decode_args-at zero words at i h = absurd (omega arith)
decode_args-at (suc count) words at zero h = rw add-zero refl
decode_args-at (suc count) words at (suc i) h =
    let shift : at + 1 + i ≡ at + suc i = omega arith in
    rw shift at (decode_args-at count words (at + 1) i (omega arith))

decode_goals-at : (count : ℕ) (image words : List ℕ) (at j : ℕ) → j < count → get_elem? (decode_goals count image words at) j ≡ some (decode_goal image words (goal_from image words at j))
unfolding decode_goals goal_from
decode_goals-at zero image words at j h = absurd (omega arith)
decode_goals-at (suc count) image words at zero h = refl
decode_goals-at (suc count) image words at (suc j) h = decode_goals-at count image words (goal_next image words at) j (omega arith)

decode_clauses-at : (count : ℕ) (image : List ℕ) (head_arity at k : ℕ) → k < count
    → get_elem? (decode_clauses count image head_arity at) k ≡ some (decode_clause image image head_arity (clause_from image at k))
unfolding decode_clauses clause_from
decode_clauses-at zero image head_arity at k h = absurd (omega arith)
decode_clauses-at (suc count) image head_arity at zero h = refl
decode_clauses-at (suc count) image head_arity at (suc k) h = decode_clauses-at count image head_arity (clause_next image at) k (omega arith)

decode_predicates-at : (count : ℕ) (image : List ℕ) (number k : ℕ) → k < count → get_elem? (decode_predicates count image number) k ≡ some (decode_predicate image (number + k))
unfolding decode_predicates
decode_predicates-at zero image number k h = absurd (omega arith)
decode_predicates-at (suc count) image number zero h = rw add-zero refl
decode_predicates-at (suc count) image number (suc k) h =
    let shift : suc number + k ≡ number + suc k = omega arith in
    rw shift at (decode_predicates-at count image (suc number) k (omega arith))

-- predicate number n of an image
pub decode-at : (image : List ℕ) (number : ℕ) → number < predicate_count (get_or image 0 0) → get_elem? (decode image) number ≡ some (decode_predicate image number)
unfolding decode
decode-at image number h = rw zero-add at (decode_predicates-at (predicate_count (get_or image 0 0)) image 0 number h)

-- its clause number k
pub clauses-decoded-at : (image : List ℕ) (number k : ℕ) → k < clause_count (predicate_word image number)
    → get_elem? (decode_predicate image number).clauses k ≡ some (decode_clause image image (arity (predicate_word image number)) (clause_at image number k))
unfolding decode_predicate clause_at
clauses-decoded-at image number k h = decode_clauses-at (clause_count (predicate_word image number)) image (arity (predicate_word image number)) _ k h

-- a clause's goal number j, and head argument number i
pub goals-decoded-at : (image words : List ℕ) (head_arity at j : ℕ) → j < goal_count (get_or words at 0)
    → get_elem? (decode_clause image words head_arity at).goals j ≡ some (decode_goal image words (goal_at image words head_arity at j))
unfolding decode_clause goal_at
goals-decoded-at image words head_arity at j h = decode_goals-at (goal_count (get_or words at 0)) image words (at + 1 + head_arity) j h

pub heads-decoded-at : (image words : List ℕ) (head_arity at i : ℕ) → i < head_arity
    → get_elem? (decode_clause image words head_arity at).head i ≡ some (decode_arg (get_or words (at + 1 + i) 0))
unfolding decode_clause
heads-decoded-at image words head_arity at i h = decode_args-at head_arity words (at + 1) i h
