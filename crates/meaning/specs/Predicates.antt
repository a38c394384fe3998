-- Definition: the fields of a predicate word. Document 01, "Rule image", predicate words. Assumes nothing.
use Rattle.std.specs.Prelude.{◌≡◌, eqb}
use Prim.Native.Nat.{ℕ}
use Rattle.std.proofs.Math.ListN.{length}
use Rattle.model.specs.Fields.{arity, sequential, clause_count, first_clause}
use Rattle.model.specs.Rules.{Predicate}

-- the fields of a predicate word
pub record PredicateFields (word : ℕ) (one : Predicate) (at : ℕ) : Type 0 where
  pub is_arity : arity word ≡ one.arity
  pub is_mark : eqb (sequential word) 1 ≡ one.sequential
  pub is_count : clause_count word ≡ length one.clauses
  pub is_first : first_clause word ≡ at
