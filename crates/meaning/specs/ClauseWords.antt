-- Definition: the fields of a CLAUSE word. Document 01, "Rule image", CLAUSE. Assumes nothing.
use Rattle.std.specs.Prelude.{◌≡◌, ℕ}
use Rattle.model.specs.Fields.{op, variables, goal_count, clause_length}

-- the fields of a CLAUSE word
pub record ClauseFields (word own count size : ℕ) : Type 0 where
  pub is_op : op word ≡ 8
  pub is_vars : variables word ≡ own
  pub is_count : goal_count word ≡ count
  pub is_size : clause_length word ≡ size
