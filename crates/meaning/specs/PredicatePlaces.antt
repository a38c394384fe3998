-- Definition: a predicate of a legal image with the places of its clauses: those that following the length fields from its first position visits, up to where the next predicate's begin.
-- Document 01, "Rule image", "position of first clause", "length in words with this one". Assumes nothing.
use Rattle.std.proofs.Math.Path.{◌≡◌}
use Rattle.std.proofs.Math.Option.{some}
use mathlib.Core.List.{List}
use Prim.Native.Nat.{ℕ, suc, ◌+◌, ◌≤◌, ◌<◌}
use Rattle.std.proofs.Math.ListN.{length, get_elem?}
use Rattle.model.specs.Image.{predicate_word}
use Rattle.model.specs.Rules.{Clause, Predicate, Rules}
use Rattle.model.specs.Encoding.{WellFormedPred}
use Rattle.model.specs.Decoding.{clause_at}
use Rattle.meaning.specs.Predicates.{PredicateFields}
use Rattle.meaning.specs.ClausePlaces.{ClausePlace}

-- a predicate of a legal image: its word's fields, and its clauses where following the length fields from its first position leads
pub record PredicatePlace (image : List ℕ) (program : Rules) (number : ℕ) (one : Predicate) : Type 0 where
  pub there : 1 + number < length image
  pub good : WellFormedPred program one
  pub fields : PredicateFields (predicate_word image number) one (clause_at image number 0)
  pub clauses : (k : ℕ) (clause : Clause) → get_elem? one.clauses k ≡ some clause → ClausePlace image image program one.arity (clause_at image number k) clause
  -- behind all predicate words, each behind the ones before it
  pub behind : 1 + length program ≤ clause_at image number 0
  pub rising : (j k : ℕ) → j < k → k ≤ length one.clauses → clause_at image number j < clause_at image number k
  -- and behind the last the next predicate's, or the image's end
  pub next : suc number < length program → clause_at image number (length one.clauses) ≡ clause_at image (suc number) 0
  pub last : suc number ≡ length program → clause_at image number (length one.clauses) ≡ length image
