-- Definition: the clause that is taken at a node. Document 01, "The steps", rule 7. Assumes nothing.
use Rattle.std.specs.Prelude.{List, ℕ}
use Rattle.model.specs.Decoding.{clause_at}
use Rattle.model.specs.Memory.{tried}
use Rattle.model.specs.Steps.{predicate_of}

-- the clause that is taken at a node, by its place in the image
abbrev pub clause_taken : List ℕ → List ℕ → List ℕ → ℕ → ℕ
clause_taken image query nodes node = clause_at image (predicate_of image query nodes node) (tried nodes node)
