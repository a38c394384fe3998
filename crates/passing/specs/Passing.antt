-- Clauses that are passed over one after the other because their heads are sure to fail. Document 01, rule 7. Assumes nothing.
use Rattle.std.specs.Prelude.{Bool, true, false, cond, List, ℕ, zero, suc, ◌+◌, ◌-◌, ◌*◌, min, leb, length, get_or}
use Rattle.model.specs.Fields.{arity, clause_count, clause_length}
use Rattle.model.specs.Image.{predicate_word}
use Rattle.model.specs.Memory.{base, own_variables, frame, tried, first_of}
use Rattle.model.specs.Goals.{clause_words}
use Rattle.model.specs.Damage.{zeros}
use Rattle.model.specs.Steps.{raised}
use Rattle.passing.specs.Clash.{fails_plainly}

-- the node words and the count after clauses were passed over
pub record Passing : Type 0 where
  pub nodes : List ℕ
  pub count : ℕ

abbrev pub passing : List ℕ → ℕ → Passing
passing nodes count = record { nodes = nodes; count = count }

-- at most so many clauses from a position on, as long as each is sure to fail; for each the node's tried count rises
unfoldable pub pass_over : ℕ → ℕ → List ℕ → List ℕ → List ℕ → List ℕ → ℕ → ℕ → ℕ → ℕ → ℕ → List ℕ → ℕ → Passing
pass_over arity node image words array cells slot child_base place zero count nodes position = passing nodes count
pass_over arity node image words array cells slot child_base place (suc most) count nodes position =
    elim (fails_plainly arity image words array cells slot child_base position place) [
      | true ↦ pass_over arity node image words array cells slot child_base place most (count + 1) (raised nodes node) (position + clause_length (get_or image position 0))
      | false ↦ passing nodes count
    ]

-- so many words from a place on stand in the list, and are 0
unfoldable pub blank : ℕ → List ℕ → ℕ → Bool
blank count words at = cond (leb (at + count) (length words)) (zeros count words at) false

-- the clauses that a live node's predicate has from a position on, passed over at most so often: only where the next is sure to fail and the child's trail is empty
unfoldable pub skipped : List ℕ → List ℕ → List ℕ → List ℕ → List ℕ → List ℕ → ℕ → ℕ → ℕ → ℕ → ℕ → ℕ → Passing
skipped image query nodes cells trail array node child predicate place position most =
    let word = predicate_word image predicate in
    let words = clause_words image query nodes (frame nodes node) in
    let child_base = base nodes node + own_variables nodes node in
    cond (fails_plainly (arity word) image words array cells (frame nodes node) child_base position place)
    (cond (blank (2 * arity word) trail (first_of child))
    (pass_over (arity word) node image words array cells (frame nodes node) child_base place (min most (clause_count word - tried nodes node)) 0 nodes position)
    (passing nodes 0))
    (passing nodes 0)
