-- The clauses of a predicate, one behind the other: the walk over them, their decoding, and the places that following the length fields visits. Document 01, "Rule image", "then all clauses". Assumes nothing.
use Rattle.std.specs.Prelude.{◌≡◌}
use Rattle.std.proofs.Math.Path.{refl, sym, ap, ap₂}
use Rattle.std.proofs.Common.{◌∙◌, arith, Ok}
use mathlib.Core.List.{List, [], ◌∷◌, ◌++◌, flat_map}
use Prim.Native.Nat.{ℕ, zero, suc, ◌+◌, ◌≤◌}
use Rattle.std.proofs.Math.Nat.{add-zero}
use Rattle.std.proofs.Math.ListN.{length, length-append}
use Rattle.model.specs.Image.{onward, clause, clauses}
use Rattle.model.specs.Rules.{Clause, Rules}
use Rattle.model.specs.Encoding.{Words, Each, encode_clause, WellFormedClause}
use Rattle.model.specs.Decoding.{decode_clause, decode_clauses, clause_next}
use Rattle.meaning.specs.Stands.{Stands}
use Rattle.meaning.proofs.Stands.{stands-append, stands-left, stands-right}
use Rattle.meaning.proofs.Walks.{onward-passed, same_place}
use Rattle.meaning.proofs.Goals.{Declares}
use Rattle.meaning.proofs.Clauses.{clause-here, clause-decode, clause-complete, clause-sound}

pub length-decode_clauses : (count : ℕ) (image : List ℕ) (head_arity at : ℕ) → length (decode_clauses count image head_arity at) ≡ count
unfolding decode_clauses
length-decode_clauses zero image head_arity at = refl
length-decode_clauses (suc count) image head_arity at = ap suc (length-decode_clauses count image head_arity (clause_next image at))

module _ {image : List ℕ} {program : Rules} (known : Declares image program) (head_arity : ℕ) (narrow : head_arity ≤ 15) where
  -- the length field leads to where the encoding ends
  pub clause_next-is : (one : Clause) (at : ℕ) → WellFormedClause program head_arity one → Stands image at (encode_clause one) → clause_next image at ≡ at + length (encode_clause one)
  unfolding clause_next
  clause_next-is one at good h = ap (λ (n : ℕ). at + n) (clause-here known head_arity narrow image one at good h).is_size

  -- the walk finds no fault where the encoding of well-formed clauses stands
  pub clauses-complete : (all : List Clause) (at : ℕ) → Each (WellFormedClause program head_arity) all → Stands image at (flat_map encode_clause all)
      → clauses (length all) image head_arity at 0 ≡ Ok (at + length (flat_map encode_clause all), 0)
  unfolding clauses flat_map
  clauses-complete [] at good h = rw add-zero refl
  clauses-complete (one ∷ all) at good h =
      let first = clause-complete known head_arity narrow image one 0 at good.0 (omega arith) (stands-left image (encode_clause one) (flat_map encode_clause all) at h) in
      let rest = clauses-complete all (at + length (encode_clause one)) good.1 (stands-right image (encode_clause one) (flat_map encode_clause all) at h) in
      let e : at + length (encode_clause one) + length (flat_map encode_clause all) ≡ at + length (encode_clause one ++ flat_map encode_clause all) =
      omega (arith, length-append (encode_clause one) (flat_map encode_clause all)) in
      ap (onward (clauses (length all) image head_arity)) first ∙ rest ∙ ap (λ (n : ℕ). Ok (n, 0)) e

  pub clauses-decode : (all : List Clause) (at : ℕ) → Each (WellFormedClause program head_arity) all → Stands image at (flat_map encode_clause all)
      → decode_clauses (length all) image head_arity at ≡ all
  unfolding decode_clauses flat_map
  clauses-decode [] at good h = refl
  clauses-decode (one ∷ all) at good h =
      let first = stands-left image (encode_clause one) (flat_map encode_clause all) at h in
      let rest = clauses-decode all (at + length (encode_clause one)) good.1 (stands-right image (encode_clause one) (flat_map encode_clause all) at h) in
      ap₂ (λ (c : Clause) (l : List Clause). c ∷ l) (clause-decode known head_arity narrow image one at good.0 first)
      (ap (decode_clauses (length all) image head_arity) (clause_next-is one at good.0 first) ∙ rest)

  -- where the walk found none, the encoding stands of the clauses that the words decode to, and they are well formed
  pub record ClausesStand (all : List Clause) (at end after : ℕ) : Type 0 where
    pub stands : Stands image at (flat_map encode_clause all)
    pub ends : end ≡ at + length (flat_map encode_clause all)
    pub counted : after ≡ 0
    pub good : Each (WellFormedClause program head_arity) all

  pub clauses-sound : Words image → (count at : ℕ) {end after : ℕ} → clauses count image head_arity at 0 ≡ Ok (end, after)
      → ClausesStand (decode_clauses count image head_arity at) at end after
  unfolding clauses decode_clauses flat_map
  clauses-sound small zero at {end} {after} e =
      let s = same_place e in
      let x : end ≡ at = s.0 in
      let y : after ≡ 0 = s.1 in
      record { stands = tt; ends = x ∙ sym (add-zero at); counted = y; good = tt }
  clauses-sound small (suc count) at e =
      let p = onward-passed (clauses count image head_arity) (clause image image 0 head_arity at) e in
      let first = clause-sound known head_arity narrow image small 0 at p.before in
      let one = decode_clause image image head_arity at in
      let next = clause_next-is one at first.good first.stands in
      let place : p.place ≡ clause_next image at = first.ends ∙ sym next in
      let rest = clauses-sound small count (clause_next image at) (rw (place, first.counted) at p.behind) in
      let all = decode_clauses count image head_arity (clause_next image at) in
      record {
        stands = stands-append image (encode_clause one) (flat_map encode_clause all) at first.stands next rest.stands;
        ends = omega (arith, rest.ends, next, length-append (encode_clause one) (flat_map encode_clause all));
        counted = rest.counted;
        good = (first.good, rest.good);
      }
