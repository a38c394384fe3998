-- Passing over the clauses of a live node where none may be passed over. Assumes nothing.
use Rattle.std.proofs.Common.{◌≡◌, refl, ap, Bool, true, false, cond, List, ℕ, ◌+◌, ◌-◌, ◌*◌, min, arith}
use Rattle.model.specs.Fields.{arity, clause_count}
use Rattle.model.specs.Image.{predicate_word}
use Rattle.model.specs.Memory.{base, own_variables, frame, tried, first_of}
use Rattle.model.specs.Goals.{clause_words}
use Rattle.passing.specs.Clash.{fails_plainly}
use Rattle.passing.specs.Passing.{passing, pass_over, blank, skipped}

pub skipped-idle : (image query nodes cells trail array : List ℕ) (node child predicate place position most : ℕ) → most ≡ 0
    → passing nodes 0 ≡ skipped image query nodes cells trail array node child predicate place position most
unfolding skipped pass_over
skipped-idle image query nodes cells trail array node child predicate place position most none =
    go (fails_plainly count image words array cells slot child_base position place) (blank (2 * count) trail (first_of child))
  where
    slot : ℕ
    slot = frame nodes node

    words : List ℕ
    words = clause_words image query nodes slot

    child_base : ℕ
    child_base = base nodes node + own_variables nodes node

    count : ℕ
    count = arity (predicate_word image predicate)

    untried : ℕ
    untried = clause_count (predicate_word image predicate) - tried nodes node

    over : passing nodes 0 ≡ pass_over count node image words array cells slot child_base place (min most untried) 0 nodes position
    over = let z : 0 ≡ min most untried = omega arith in ap (λ (n : ℕ). pass_over count node image words array cells slot child_base place n 0 nodes position) z

    go : (fails empty : Bool) → passing nodes 0 ≡ cond fails (cond empty (pass_over count node image words array cells slot child_base place (min most untried) 0 nodes position) (passing nodes 0)) (passing nodes 0)
    go false empty = refl
    go true false = refl
    go true true = over

-- what the check goes by in `skip` where none may be passed over
pub ruleset idle = (skipped-idle)
