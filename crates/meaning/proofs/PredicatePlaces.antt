-- The places of clauses in a legal image: following the length fields from a predicate's first position visits exactly its clauses, each where its encoding stands, and ends where the next predicate's begin.
-- Document 01, "Rule image", "position of first clause", "length in words with this one". Assumes nothing.
use Rattle.std.proofs.Math.Path.{◌≡◌, refl}
use Rattle.std.proofs.Common.{sym, ap, ◌∙◌, ⊎_elim, zero-add, eq-or-lt_of_le, le_of_suc-le-suc}
use Rattle.std.proofs.Math.Option.{some}
use mathlib.Core.List.{List, [], ◌∷◌, ◌++◌, flat_map}
use Prim.Native.Nat.{ℕ, zero, suc, ◌+◌, ◌≤◌, ◌<◌}
use native.Mathlib.Omega.{arith}
use Rattle.std.proofs.Math.Nat.{add-zero}
use Rattle.std.proofs.Math.ListN.{length, get_elem?, length-append}
use Rattle.model.specs.Fields.{first_clause}
use Rattle.model.specs.Image.{predicate_word}
use Rattle.model.specs.Rules.{Clause, Predicate, Rules}
use Rattle.model.specs.Encoding.{Each, encode_clause, encode_clauses, encode_predicate, encode_predicates, encoded_length, WellFormedClause, WellFormedPred, WellFormed}
use Rattle.model.specs.Decoding.{clause_next, clause_from, clause_at}
use Rattle.meaning.specs.Stands.{Stands}
use Rattle.meaning.proofs.Stands.{stands-left, stands-right}
use Rattle.meaning.proofs.Goals.{Declares}
use Rattle.meaning.proofs.ClauseLists.{clause_next-is}
use Rattle.meaning.specs.Predicates.{PredicateFields}
use Rattle.meaning.proofs.Predicates.{predicate-fields}
use Rattle.meaning.proofs.Images.{encode-fits, Parts, declares-encoded}
use Rattle.meaning.specs.ClausePlaces.{ClausePlace}
use Rattle.meaning.proofs.ClausePlaces.{clause-place}
use Rattle.meaning.specs.PredicatePlaces.{PredicatePlace}

length-encode_clause : (one : Clause) → 1 ≤ length (encode_clause one)
unfolding encode_clause
length-encode_clause one = omega arith

-- what rises at each step rises
rises : (f : ℕ → ℕ) (bound : ℕ) → ((k : ℕ) → k < bound → f k < f (suc k)) → (j k : ℕ) → j < k → k ≤ bound → f j < f k
rises f bound up j zero h l = absurd (omega arith)
rises f bound up j (suc k) h l =
    ⊎_elim (λ (e : j ≡ k). rw e (up k l)) (λ (less : j < k). omega (arith, rises f bound up j k less (omega arith), up k l)) (eq-or-lt_of_le (le_of_suc-le-suc h))

-- clauses one behind the other: each where the length fields lead, and behind the last the end
pub record ClausesPlace (image : List ℕ) (program : Rules) (head_arity at : ℕ) (all : List Clause) : Type 0 where
  pub clauses : (k : ℕ) (clause : Clause) → get_elem? all k ≡ some clause → ClausePlace image image program head_arity (clause_from image at k) clause
  pub grows : (k : ℕ) → k < length all → clause_from image at k < clause_from image at (suc k)
  pub ends : clause_from image at (length all) ≡ at + length (flat_map encode_clause all)

clauses-place : {image : List ℕ} {program : Rules} → Declares image program → (head_arity : ℕ) → head_arity ≤ 15 → (all : List Clause) (at : ℕ) → Each (WellFormedClause program head_arity) all
    → Stands image at (flat_map encode_clause all) → ClausesPlace image program head_arity at all
unfolding flat_map clause_from
clauses-place known head_arity narrow [] at good h = record {
  clauses = λ k clause e. let z : ◌≡◌ {A = ℕ} 0 1 = cc in absurd (omega arith);
  grows = λ k l. absurd (omega arith);
  ends = sym (add-zero at);
}
clauses-place {image} {program} known head_arity narrow (one ∷ all) at good h =
    let stands = stands-left image (encode_clause one) (flat_map encode_clause all) at h in
    let next = clause_next-is known head_arity narrow one at good.0 stands in
    let rest = clauses-place known head_arity narrow all (at + length (encode_clause one)) good.1 (stands-right image (encode_clause one) (flat_map encode_clause all) at h) in
    go stands next rest
  where
    go : Stands image at (encode_clause one) → clause_next image at ≡ at + length (encode_clause one) → ClausesPlace image program head_arity (at + length (encode_clause one)) all
        → ClausesPlace image program head_arity at (one ∷ all)
    go stands next rest = record { clauses = each; grows = up; ends = ap (λ (n : ℕ). clause_from image n (length all)) next ∙ rest.ends ∙ sum }
      where
        sum : at + length (encode_clause one) + length (flat_map encode_clause all) ≡ at + length (encode_clause one ++ flat_map encode_clause all)
        sum = omega (arith, length-append (encode_clause one) (flat_map encode_clause all))

        each : (k : ℕ) (clause : Clause) → get_elem? (one ∷ all) k ≡ some clause → ClausePlace image image program head_arity (clause_from image at k) clause
        each zero clause e = let same : one ≡ clause = cc in rw (← same) (clause-place known image head_arity narrow one at good.0 stands)
        each (suc k) clause e = rw next (rest.clauses k clause e)

        up : (k : ℕ) → k < suc (length all) → clause_from image at k < clause_from image at (suc k)
        up zero l = omega (arith, length-encode_clause one)
        up (suc k) l = rw next (rest.grows k (omega arith))

-- a predicate's word says where its clauses begin, and behind them stand the next one's, or the image ends
record Begun (image : List ℕ) (program all : Rules) (number at k : ℕ) (one : Predicate) : Type 0 where
  place : ℕ
  there : 1 + (number + k) < length image
  word : predicate_word image (number + k) ≡ encode_predicate place one
  stands : Stands image place (encode_clauses one)
  good : WellFormedPred program one
  behind : at ≤ place
  within : place + length (encode_clauses one) ≤ at + length (flat_map encode_clauses all)
  next : suc k < length all → first_clause (predicate_word image (number + suc k)) ≡ place + length (encode_clauses one)
  last : suc k ≡ length all → place + length (encode_clauses one) ≡ at + length (flat_map encode_clauses all)

module _ (image : List ℕ) (program : Rules) where
  predicates-first : (all : Rules) (number at : ℕ) → Each (WellFormedPred program) all → at ≤ 131071 → Stands image (1 + number) (encode_predicates at all) → 0 < length all
      → first_clause (predicate_word image number) ≡ at
  unfolding encode_predicates
  predicates-first [] number at good h words l = absurd (omega arith)
  predicates-first (one ∷ all) number at good h words l = rw words.1 (predicate-fields program one at good.0 h).is_first

  predicates-begin : (all : Rules) (number at : ℕ) → Each (WellFormedPred program) all → at + length (flat_map encode_clauses all) ≤ 131071 → Stands image (1 + number) (encode_predicates at all)
      → Stands image at (flat_map encode_clauses all) → (k : ℕ) (one : Predicate) → get_elem? all k ≡ some one → Begun image program all number at k one
  unfolding encode_predicates flat_map
  predicates-begin [] number at good h words stands k one e = let z : ◌≡◌ {A = ℕ} 0 1 = cc in absurd (omega arith)
  predicates-begin (this ∷ all) number at good h words stands zero one e =
      let same : this ≡ one = cc in
      let sum = length-append (encode_clauses this) (flat_map encode_clauses all) in
      let shift : 1 + number + 1 ≡ 1 + suc number = omega arith in
      let here : number + 1 ≡ suc number = omega arith in
      rw (← same) (record {
        place = at;
        there = omega (arith, words.0);
        word = rw add-zero words.1;
        stands = stands-left image (encode_clauses this) (flat_map encode_clauses all) at stands;
        good = good.0;
        behind = omega arith;
        within = omega arith;
        next = λ l. rw here (predicates-first all (suc number) (at + length (encode_clauses this)) good.1 (omega arith) (rw shift at words.2) (omega arith));
        last = λ l. omega (arith, none_left all (omega arith));
      })
    where
      none_left : (all : Rules) → length all ≡ 0 → length (flat_map encode_clauses all) ≡ 0
      none_left [] l = refl
      none_left (two ∷ all) l = absurd (omega arith)
  predicates-begin (this ∷ all) number at good h words stands (suc k) one e =
      let sum = length-append (encode_clauses this) (flat_map encode_clauses all) in
      let shift : 1 + number + 1 ≡ 1 + suc number = omega arith in
      let here : number + suc k ≡ suc number + k = omega arith in
      let there : number + suc (suc k) ≡ suc number + suc k = omega arith in
      let rest =
      predicates-begin all (suc number) (at + length (encode_clauses this)) good.1 (omega arith) (rw shift at words.2)
      (stands-right image (encode_clauses this) (flat_map encode_clauses all) at stands) k one e in
      record {
        place = rest.place;
        there = rw here rest.there;
        word = rw here rest.word;
        stands = rest.stands;
        good = rest.good;
        behind = omega (arith, rest.behind);
        within = omega (arith, rest.within);
        next = λ l. rw there (rest.next (omega arith));
        last = λ l. omega (arith, rest.last (omega arith));
      }

pub predicate-place : (image : List ℕ) (program : Rules) → WellFormed program → length image ≡ encoded_length program → Parts image program → (number : ℕ) (one : Predicate)
    → get_elem? program number ≡ some one → PredicatePlace image program number one
unfolding clause_at clause_from encoded_length encode_clauses
predicate-place image program good size parts number one e =
    let known = declares-encoded image program good parts in
    let b = predicates-begin image program program 0 (1 + length program) good.predicates (encode-fits program good) parts.words parts.clauses number one e in
    let word : predicate_word image number ≡ encode_predicate b.place one = rw zero-add at b.word in
    let f : PredicateFields (predicate_word image number) one b.place = rw word (predicate-fields program one b.place b.good (omega (arith, b.within, encode-fits program good))) in
    let c = clauses-place known one.arity b.good.arity one.clauses b.place b.good.clauses b.stands in
    let first = f.is_first in
    let all : ClausesPlace image program one.arity (first_clause (predicate_word image number)) one.clauses = rw first c in
    record {
      there = omega (arith, b.there);
      good = b.good;
      fields = rw first f;
      clauses = all.clauses;
      behind = omega (arith, b.behind, first);
      rising = rises (clause_from image (first_clause (predicate_word image number))) (length one.clauses) all.grows;
      next = λ l. all.ends ∙ ap (λ (n : ℕ). n + length (flat_map encode_clause one.clauses)) first ∙ sym (rw zero-add at (b.next l));
      last = λ l. all.ends ∙ ap (λ (n : ℕ). n + length (flat_map encode_clause one.clauses)) first ∙ b.last l ∙ sym size;
    }
