-- Predicates: the walk over their words and clauses finds no fault exactly where the encoding of well-formed predicates stands, and decoding gives them back.
-- Document 01, "Rule image", predicate words, fault 7. Assumes nothing.
use Rattle.std.specs.Prelude.{◌≡◌, Bool, true, false, eqb}
use Rattle.std.proofs.Math.Path.{refl, sym, ap, ap₂}
use Rattle.std.proofs.Common.{◌∙◌, Ok}
use mathlib.Core.List.{List, [], ◌∷◌, ◌++◌, flat_map}
use Prim.Native.Nat.{ℕ, zero, suc, ◌+◌, ◌≤◌, ◌<◌}
use native.Mathlib.Omega.{arith}
use Rattle.std.proofs.Math.Nat.{add-zero}
use Rattle.std.proofs.Math.ListN.{length, length-append}
use borrow.Author.Tests.{eqb-true, eq-eqb}
use Rattle.model.specs.declared.Kind.TheVariants.{Predicate as PredicateWord}
use Rattle.model.specs.declared.Fault.TheVariants.{FirstClause}
use Rattle.model.specs.Fields.{widths_of, total, below, field, join, arity, sequential, clause_count, first_clause}
use Rattle.model.specs.Image.{onward, predicate_word, predicate, predicates}
use Rattle.model.specs.Rules.{Predicate, Rules}
use Rattle.model.specs.Encoding.{Word, Words, Each, encode_mark, encode_clauses, encode_predicate, encode_predicates, WellFormedPred}
use Rattle.model.specs.Decoding.{decode_clauses, decode_predicate, decode_predicates}
use Rattle.words.specs.FieldLaws.{fields_from}
use Rattle.words.proofs.FieldLaws.{field-join, field_lt, join-field}
use Rattle.meaning.specs.Stands.{Stands}
use Rattle.meaning.proofs.Stands.{stands-append, stands-left, stands-right}
use Rattle.meaning.proofs.Walks.{cond-held, onward-passed, same_place}
use Rattle.meaning.proofs.Goals.{Declares}
use Rattle.meaning.proofs.ClauseLists.{length-decode_clauses, clauses-complete, clauses-decode, clauses-sound}
use Rattle.meaning.specs.Predicates.{PredicateFields}

pub mark-lt : (mark : Bool) → encode_mark mark < 2
unfolding encode_mark
mark-lt true = omega arith
mark-lt false = omega arith

mark-decode : (mark : Bool) → eqb (encode_mark mark) 1 ≡ mark
unfolding encode_mark
mark-decode true = refl
mark-decode false = refl

mark-encode : (n : ℕ) → n < 2 → encode_mark (eqb n 1) ≡ n
unfolding encode_mark
mark-encode zero h = refl
mark-encode (suc zero) h = refl
mark-encode (suc (suc n)) h = absurd (omega arith)

pub predicate-fields : (program : Rules) (one : Predicate) (at : ℕ) → WellFormedPred program one → at ≤ 131071 → PredicateFields (encode_predicate at one) one at
unfolding widths_of field below total
predicate-fields program one at good h =
    let mark = mark-lt one.sequential in
    let read = field-join (widths_of PredicateWord) (one.arity ∷ encode_mark one.sequential ∷ length one.clauses ∷ at ∷ []) (omega (arith, good.arity, good.clause_count)) in
    record { is_arity = read 0; is_mark = ap (λ (n : ℕ). eqb n 1) (read 1) ∙ mark-decode one.sequential; is_count = read 2; is_first = read 3 }

predicate-joined : (word : ℕ) → Word word → word ≡ join (widths_of PredicateWord) (arity word ∷ sequential word ∷ clause_count word ∷ first_clause word ∷ [])
unfolding widths_of field below total fields_from
predicate-joined word h = sym (join-field (widths_of PredicateWord) word h)

-- a predicate word is the encoding's, of the predicate that it decodes to
pub predicate-word : (image : List ℕ) (number at : ℕ) → Word (predicate_word image number) → first_clause (predicate_word image number) ≡ at
    → predicate_word image number ≡ encode_predicate at (decode_predicate image number)
unfolding decode_predicate widths_of
predicate-word image number at h e =
    let word = predicate_word image number in
    let mark = mark-encode (sequential word) (field_lt (widths_of PredicateWord) word 1) in
    let count = length-decode_clauses (clause_count word) image (arity word) (first_clause word) in
    rw (mark, count, ← e) (predicate-joined word h)

module _ {image : List ℕ} {program : Rules} (known : Declares image program) where
  pub predicate-complete : (one : Predicate) (number at : ℕ) → WellFormedPred program one → at ≤ 131071 → predicate_word image number ≡ encode_predicate at one
      → Stands image at (encode_clauses one) → predicate image number at 0 ≡ Ok (at + length (encode_clauses one), 0)
  unfolding predicate encode_clauses
  predicate-complete one number at good h word stands =
      let f : PredicateFields (predicate_word image number) one at = rw word (predicate-fields program one at good h) in
      rw (f.is_first, eq-eqb at at refl, f.is_count, f.is_arity) (clauses-complete known one.arity good.arity one.clauses at good.clauses stands)

  pub predicate-decode : (one : Predicate) (number at : ℕ) → WellFormedPred program one → at ≤ 131071 → predicate_word image number ≡ encode_predicate at one
      → Stands image at (encode_clauses one) → decode_predicate image number ≡ one
  unfolding decode_predicate encode_clauses
  predicate-decode one number at good h word stands =
      let f : PredicateFields (predicate_word image number) one at = rw word (predicate-fields program one at good h) in
      let all : decode_clauses (clause_count (predicate_word image number)) image (arity (predicate_word image number)) (first_clause (predicate_word image number)) ≡ one.clauses =
      rw (f.is_first, f.is_count, f.is_arity) (clauses-decode known one.arity good.arity one.clauses at good.clauses stands) in
      λ i. record { arity = f.is_arity i; sequential = f.is_mark i; clauses = all i }

  -- the walk finds no fault where the encoding of well-formed predicates stands: their words from predicate `number` on, their clauses at `at`
  pub predicates-complete : (all : Rules) (number at : ℕ) → Each (WellFormedPred program) all → at + length (flat_map encode_clauses all) ≤ 131071
      → Stands image (1 + number) (encode_predicates at all) → Stands image at (flat_map encode_clauses all) → predicates (length all) image number at 0 ≡ Ok (at + length (flat_map encode_clauses all), 0)
  unfolding predicates encode_predicates flat_map
  predicates-complete [] number at good h words stands = rw add-zero refl
  predicates-complete (one ∷ all) number at good h words stands =
      let sum = length-append (encode_clauses one) (flat_map encode_clauses all) in
      let shift : 1 + number + 1 ≡ 1 + suc number = omega arith in
      let first = predicate-complete one number at good.0 (omega arith) words.1 (stands-left image (encode_clauses one) (flat_map encode_clauses all) at stands) in
      let rest =
      predicates-complete all (suc number) (at + length (encode_clauses one)) good.1 (omega arith) (rw shift at words.2)
      (stands-right image (encode_clauses one) (flat_map encode_clauses all) at stands) in
      let e : at + length (encode_clauses one) + length (flat_map encode_clauses all) ≡ at + length (encode_clauses one ++ flat_map encode_clauses all) = omega arith in
      ap (onward (predicates (length all) image (suc number))) first ∙ rest ∙ ap (λ (n : ℕ). Ok (n, 0)) e

  pub predicates-decode : (all : Rules) (number at : ℕ) → Each (WellFormedPred program) all → at + length (flat_map encode_clauses all) ≤ 131071
      → Stands image (1 + number) (encode_predicates at all) → Stands image at (flat_map encode_clauses all) → decode_predicates (length all) image number ≡ all
  unfolding decode_predicates encode_predicates flat_map
  predicates-decode [] number at good h words stands = refl
  predicates-decode (one ∷ all) number at good h words stands =
      let sum = length-append (encode_clauses one) (flat_map encode_clauses all) in
      let shift : 1 + number + 1 ≡ 1 + suc number = omega arith in
      ap₂ (λ (d : Predicate) (l : Rules). d ∷ l)
      (predicate-decode one number at good.0 (omega arith) words.1 (stands-left image (encode_clauses one) (flat_map encode_clauses all) at stands))
      (predicates-decode all (suc number) (at + length (encode_clauses one)) good.1 (omega arith) (rw shift at words.2)
      (stands-right image (encode_clauses one) (flat_map encode_clauses all) at stands))

  -- where the walk found none at a predicate, its word and clauses are the encoding of the predicate that the words decode to, and it is well formed
  pub record PredicateStands (one : Predicate) (number at end after : ℕ) : Type 0 where
    pub word : predicate_word image number ≡ encode_predicate at one
    pub stands : Stands image at (encode_clauses one)
    pub ends : end ≡ at + length (encode_clauses one)
    pub counted : after ≡ 0
    pub good : WellFormedPred program one

  pub predicate-sound : Words image → (number at : ℕ) {end after : ℕ} → predicate image number at 0 ≡ Ok (end, after)
      → PredicateStands (decode_predicate image number) number at end after
  unfolding predicate encode_clauses decode_predicate widths_of
  predicate-sound small number at e =
      let word = predicate_word image number in
      let f = cond-held (eqb (first_clause word) at) FirstClause (1 + number) e in
      let first = eqb-true (first_clause word) at f.0 in
      let narrow : arity word ≤ 15 = omega (arith, field_lt (widths_of PredicateWord) word 0) in
      let all = clauses-sound known (arity word) narrow small (clause_count word) (first_clause word) (rw (← first) at f.1) in
      record {
        word = predicate-word image number at (small (1 + number)) first;
        stands = rw (← first) all.stands;
        ends = rw (← first) all.ends;
        counted = all.counted;
        good = record {
          arity = narrow;
          clause_count = omega (arith, field_lt (widths_of PredicateWord) word 2, length-decode_clauses (clause_count word) image (arity word) (first_clause word));
          clauses = all.good;
        };
      }

  -- the same for all predicates from one on
  pub record PredicatesStand (all : Rules) (number at end after : ℕ) : Type 0 where
    pub words : Stands image (1 + number) (encode_predicates at all)
    pub stands : Stands image at (flat_map encode_clauses all)
    pub ends : end ≡ at + length (flat_map encode_clauses all)
    pub counted : after ≡ 0
    pub good : Each (WellFormedPred program) all

  pub predicates-sound : Words image → (count number at : ℕ) {end after : ℕ} → 1 + number + count ≤ length image → predicates count image number at 0 ≡ Ok (end, after)
      → PredicatesStand (decode_predicates count image number) number at end after
  unfolding predicates decode_predicates flat_map encode_predicates
  predicates-sound small zero number at {end} {after} l e =
      let s = same_place e in
      let x : end ≡ at = s.0 in
      let y : after ≡ 0 = s.1 in
      record { words = tt; stands = tt; ends = x ∙ sym (add-zero at); counted = y; good = tt }
  predicates-sound small (suc count) number at l e =
      let p = onward-passed (predicates count image (suc number)) (predicate image number at 0) e in
      let one = decode_predicate image number in
      let all = decode_predicates count image (suc number) in
      let first = predicate-sound small number at p.before in
      let rest = predicates-sound small count (suc number) (at + length (encode_clauses one)) (omega arith) (rw (first.ends, first.counted) at p.behind) in
      let shift : 1 + suc number ≡ 1 + number + 1 = omega arith in
      record {
        words = (omega arith, first.word, rw shift at rest.words);
        stands = stands-append image (encode_clauses one) (flat_map encode_clauses all) at first.stands refl rest.stands;
        ends = omega (arith, rest.ends, length-append (encode_clauses one) (flat_map encode_clauses all));
        counted = rest.counted;
        good = (first.good, rest.good);
      }
