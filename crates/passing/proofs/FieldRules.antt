-- The bounds on the fields that are read where clauses are passed over. Assumes nothing.
use Rattle.memory.proofs.FieldBounds.{arity-lt, clause_count-lt, own_variables-lt, base-lt, frame-lt}

pub ruleset field_bounds = (arity-lt, clause_count-lt, own_variables-lt, base-lt, frame-lt)
