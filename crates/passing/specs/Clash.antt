-- When a clause's head is sure to fail: it differs from the goal in a constant, and has no variable up to there. Document 01, rule 7, "Failure". Assumes nothing.
use Rattle.std.specs.Prelude.{Bool, true, false, cond, List, ℕ, zero, suc, ◌+◌, eqb, ltb, get_or}
use Rattle.model.specs.declared.Found.{Found}
use Rattle.model.specs.declared.Found.TheVariants.{Unbound, Constant}
use Rattle.model.specs.Fields.{op, constant, variables}
use Rattle.model.specs.Terms.{argument_of}
use Rattle.passing.specs.declared.Compared.{Compared}
use Rattle.passing.specs.declared.Compared.TheVariants.{Differ, Agree, Unsure}

-- a constant of a head with a goal's argument; an unbound variable takes it, and the binding is undone if it is conditional
unfoldable pub compared_with : ℕ → ℕ → Found → Compared
compared_with child_base a (Constant b) = cond (eqb a b) Agree Differ
compared_with child_base a (Unbound number address) = cond (ltb number.0 child_base) Agree Unsure

-- of a variable in the head nothing is said
unfoldable pub compare : ℕ → List ℕ → List ℕ → ℕ → ℕ → ℕ → Compared
compare child_base array cells slot head goal = cond (eqb (op head) 1) Unsure (compared_with child_base (constant head) (argument_of array cells slot goal))

-- the first of so many arguments in which head and goal differ decides
unfoldable pub clashes : ℕ → List ℕ → List ℕ → List ℕ → List ℕ → ℕ → ℕ → ℕ → ℕ → Bool
clashes zero image words array cells slot child_base head goal = false
clashes (suc arity) image words array cells slot child_base head goal =
    elim (compare child_base array cells slot (get_or image head 0) (get_or words goal 0)) [
      | Differ ↦ true
      | Agree ↦ clashes arity image words array cells slot child_base (head + 1) (goal + 1)
      | Unsure ↦ false
    ]

-- a clause without variables whose head clashes
unfoldable pub fails_plainly : ℕ → List ℕ → List ℕ → List ℕ → List ℕ → ℕ → ℕ → ℕ → ℕ → Bool
fails_plainly arity image words array cells slot child_base position place =
    cond (eqb (variables (get_or image position 0)) 0) (clashes arity image words array cells slot child_base (position + 1) (place + 1)) false
