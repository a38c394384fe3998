-- The definition's tree keeps the three laws of a search tree.
-- Serves "one child for each clause that unifies" of document 01's steps, and a legal query's 1 to 16 goals. Assumes nothing.
use Rattle.std.specs.Prelude.{false, true, List, [], ◌∷◌, ◌≡◌, refl, ◌<◌, suc, zero, ℕ, length}
use Rattle.std.proofs.Math.Option.{Option, none, some}
use Rattle.std.proofs.Common.{arith}
use Rattle.std.proofs.Math.ListN.{get_elem?}
use Rattle.model.specs.Definition.{Node, Waiting, child_by_first, clauses_of_first, definition, extend, goal_child, goal_clauses, no_goals, root, waiting}
use Rattle.model.specs.Rules.{Argument, Clause, Goal, Rules, call, clauses_of}
use Rattle.theory.proofs.Kit.Maps.{some-none}
use Rattle.theory.specs.Tree.Laws.{Laws}

get_elem?-below : {A : Type 0} (l : List A) (k : ℕ) (a : A) → get_elem? l k ≡ some a → k < length l
get_elem?-below [] k a e = absurd (some-none e refl)
get_elem?-below (x ∷ l) zero a e = omega arith
get_elem?-below (x ∷ l) (suc k) a e = let h = get_elem?-below l k a e in omega arith

-- the query has a goal
pub definition-laws : (R : Rules) (q : Clause) → 0 < length q.goals → Laws (definition R q)
unfolding child_by_first goal_child clauses_of_first no_goals extend root goal_clauses
definition-laws R q h = record { child_counted = λ N m k e. low N k m N.goals e; count_without_goals = λ N e. none_left N.goals e; root_has_goal = some-goal q.goals h }
  where
    came : (N : Node) (ts : List Waiting) (goal_base : ℕ) (arguments : List Argument) (o : Option Clause) (m : Node) → extend N ts goal_base arguments o ≡ some m
        → (c : Clause) × (o ≡ some c)
    came N ts goal_base arguments none m e = absurd (some-none e refl)
    came N ts goal_base arguments (some c) m e = (c, refl)

    by : (N : Node) (k : ℕ) (m : Node) (ts : List Waiting) (goal_base : ℕ) (g : Goal) → goal_child R N ts goal_base g k ≡ some m → k < goal_clauses R g
    by N k m ts goal_base (call p arguments) e = let x = came N ts goal_base arguments (get_elem? (clauses_of R p) k) m e in get_elem?-below (clauses_of R p) k x.0 x.1

    low : (N : Node) (k : ℕ) (m : Node) (ts : List Waiting) → child_by_first R N ts k ≡ some m → k < clauses_of_first R ts
    low N k m [] e = absurd (some-none e refl)
    low N k m (t ∷ ts) e = by N k m ts t.base t.goal e

    none_left : (ts : List Waiting) → no_goals ts ≡ true → clauses_of_first R ts ≡ 0
    none_left [] e = refl
    none_left (t ∷ ts) e = let z : ◌≡◌ {A = ℕ} 0 1 = cc in absurd (omega arith)

    some-goal : (gs : List Goal) → 0 < length gs → no_goals (waiting 0 gs) ≡ false
    some-goal [] l = absurd (omega arith)
    some-goal (g ∷ gs) l = refl
