-- THE DEFINITION: "the tree that extension alone grows from the query: goal lists and bindings by variable number, with no slots or workers,
-- one child for each clause that unifies". Renders "The steps" of document 01, the paragraphs on nodes, on the definition, on unifying and on reading.
-- The page leaves open which of two arguments is dereferenced first; it makes no difference, and the head's is named first here. Assumes nothing.
use Rattle.std.specs.Prelude.{Bool, true, false, List, [], ◌∷◌, ◌++◌, map, ℕ, zero, suc, ◌+◌, eqb, ltb, length}
use Rattle.std.proofs.Math.Option.{Option, none, some}
use Rattle.std.proofs.Math.ListN.{get_elem?}
use Rattle.model.specs.Rules.{Argument, con, var, Goal, call, Clause, Rules, clauses_of, sequential_of}
use Rattle.model.specs.Search.{Search, ClausePath, node_at}

-- What a variable is bound to: a constant, or a variable by its number. "In comparisons a REF stands for its variable's number."
pub data Value : Type 0 where
  const : ℕ → Value
  ref : ℕ → Value

pub record Binding : Type 0 where
  pub number : ℕ
  pub value : Value
  pub conditional : Bool

-- "A binding is conditional if its number is below the child's base." The base is that of the child whose head is unified.
abbrev pub binding : ℕ → ℕ → Value → Binding
binding base n v = record { number = n; value = v; conditional = ltb n base }

-- "A node made by a clause numbers that clause's variables from its base on": variable i of a goal that waits has the number base + i.
pub record Waiting : Type 0 where
  pub goal : Goal
  pub base : ℕ

abbrev pub waiting : ℕ → List Goal → List Waiting
waiting base gs = map (λ g. record { goal = g; base = base }) gs

-- bindings: all that were made on the path, oldest first
pub record Node : Type 0 where
  pub goals : List Waiting
  pub bindings : List Binding
  pub base : ℕ
  pub variables : ℕ

-- "base is the parent's base plus the parent's variables"
abbrev pub child_base : Node → ℕ
child_base N = N.base + N.variables

unfoldable pub lookup : List Binding → ℕ → Option Value
lookup [] n = none
lookup (b ∷ B) n = elim (eqb n b.number) [ true ↦ some b.value | false ↦ lookup B n ]

-- "dereferencing answers an enum: unbound with number .., or constant"
pub data Dereferenced : Type 0 where
  constant : ℕ → Dereferenced
  unbound : ℕ → Dereferenced

-- at most f looks
unfoldable pub dereference_in : ℕ → List Binding → ℕ → Dereferenced
dereference_in zero B n = unbound n
dereference_in (suc f) B n =
    elim (lookup B n) [ none ↦ unbound n | some v ↦ elim v [ const c ↦ constant c | ref m ↦ dereference_in f B m ] ]

-- A variable refers to a lower number ("the one with the higher number takes a REF to the other"), so n + 1 looks are enough.
unfoldable pub dereference : List Binding → ℕ → Dereferenced
dereference B n = dereference_in (suc n) B n

unfoldable pub dereference_argument : List Binding → ℕ → Argument → Dereferenced
dereference_argument B base (con c) = constant c
dereference_argument B base (var i) = dereference B (base + i)

-- "Unifying: one unbound variable with itself binds nothing; constants must be equal; an unbound variable takes the constant;
-- of two, the one with the higher number takes a REF to the other." The result: the bindings made, or none on failure.
unfoldable pub unify : ℕ → Dereferenced → Dereferenced → Option (List Binding)
unify base (constant a) (constant b) = elim (eqb a b) [ true ↦ some [] | false ↦ none ]
unify base (constant a) (unbound m) = some (binding base m (const a) ∷ [])
unify base (unbound n) (constant b) = some (binding base n (const b) ∷ [])
unify base (unbound n) (unbound m) =
    elim (eqb n m) [
      | true ↦ some []
      | false ↦ elim (ltb n m) [ true ↦ some (binding base m (ref n) ∷ []) | false ↦ some (binding base n (ref m) ∷ []) ]
    ]

-- "Head arguments are unified with the first goal's, left to right, both dereferenced." B: all bindings so far; the result: all after.
-- Legal rules give a goal as many arguments as its predicate's heads have.
unfoldable pub unify_head : List Binding → ℕ → List Argument → ℕ → List Argument → Option (List Binding)
unify_head B base [] goal_base [] = some B
unify_head B base [] goal_base (g ∷ gs) = none
unify_head B base (h ∷ hs) goal_base [] = none
unify_head B base (h ∷ hs) goal_base (g ∷ gs) =
    elim (unify base (dereference_argument B base h) (dereference_argument B goal_base g)) [
      | none ↦ none
      | some made ↦ unify_head (B ++ made) base hs goal_base gs
    ]

-- The child by a clause. "Its goals are the clause's goals, then the parent's goals without the first": others are those.
unfoldable pub extend : Node → List Waiting → ℕ → List Argument → Option Clause → Option Node
extend N others goal_base arguments none = none
extend N others goal_base arguments (some c) =
    elim (unify_head N.bindings (child_base N) c.head goal_base arguments) [
      | none ↦ none
      | some B ↦ some (record { goals = waiting (child_base N) c.goals ++ others; bindings = B; base = child_base N; variables = c.variables })
    ]

-- What each kind of goal asks: how many clauses it has, whether they are sequential, and the child by the k-th.
-- "A goal whose predicate has no clauses makes a dead node": its count is 0.
unfoldable pub goal_clauses : Rules → Goal → ℕ
goal_clauses R (call p arguments) = length (clauses_of R p)

unfoldable pub goal_sequential : Rules → Goal → Bool
goal_sequential R (call p arguments) = sequential_of R p

unfoldable pub goal_child : Rules → Node → List Waiting → ℕ → Goal → ℕ → Option Node
goal_child R N others goal_base (call p arguments) k = extend N others goal_base arguments (get_elem? (clauses_of R p) k)

-- The same of a node, by its first goal.
unfoldable pub clauses_of_first : Rules → List Waiting → ℕ
clauses_of_first R [] = 0
clauses_of_first R (g ∷ gs) = goal_clauses R g.goal

unfoldable pub sequential_of_first : Rules → List Waiting → Bool
sequential_of_first R [] = false
sequential_of_first R (g ∷ gs) = goal_sequential R g.goal

unfoldable pub child_by_first : Rules → Node → List Waiting → ℕ → Option Node
child_by_first R N [] k = none
child_by_first R N (g ∷ gs) k = goal_child R N gs g.base g.goal k

unfoldable pub no_goals : List Waiting → Bool
no_goals [] = true
no_goals (g ∷ gs) = false

-- "The root is slot 0, .. depth 0, .. base 0": it holds the query's goals and no binding.
unfoldable pub root : Clause → Node
root q = record { goals = waiting 0 q.goals; bindings = []; base = 0; variables = q.variables }

-- The tree of rules and a query; its derivations are the paths to nodes without goals.
abbrev pub definition : Rules → Clause → Search
definition R q =
    record {
      Node = Node;
      root = root q;
      clause_count = λ N. clauses_of_first R N.goals;
      without_goals = λ N. no_goals N.goals;
      sequential = λ N. sequential_of_first R N.goals;
      child = λ N k. child_by_first R N N.goals k;
    }

-- "Reading an answer writes one image word for each query variable: CON, or VAR renumbered by first appearance."
-- seen: the unbound variables so far, each once, in the order of their first appearance.
unfoldable pub index_in : List ℕ → ℕ → ℕ
index_in [] n = 0
index_in (m ∷ seen) n = elim (eqb n m) [ true ↦ 0 | false ↦ suc (index_in seen n) ]

unfoldable pub with_number : List ℕ → ℕ → List ℕ
with_number [] n = n ∷ []
with_number (m ∷ seen) n = elim (eqb n m) [ true ↦ m ∷ seen | false ↦ m ∷ with_number seen n ]

unfoldable pub renumber : List ℕ → List Dereferenced → List Argument
renumber seen [] = []
renumber seen (constant c ∷ rs) = con c ∷ renumber seen rs
renumber seen (unbound n ∷ rs) = var (index_in seen n) ∷ renumber (with_number seen n) rs

-- the count numbers from first on
unfoldable pub numbers_from : ℕ → ℕ → List ℕ
numbers_from first zero = []
numbers_from first (suc count) = first ∷ numbers_from (suc first) count

-- The query's variables have the numbers 0, 1, .., as the root's base is 0.
unfoldable pub answer_at : Clause → Node → List Argument
answer_at q N = renumber [] (map (dereference N.bindings) (numbers_from 0 q.variables))

-- The answer of a derivation, as reading gives it; of any other path, nothing that means something.
unfoldable pub answer : Rules → Clause → ClausePath → List Argument
answer R q d = elim (node_at (definition R q) (root q) d) [ none ↦ [] | some N ↦ answer_at q N ]

-- The conditional ones among bindings, in order: of those that a node made, its trail; of all on a path, what a worker's array there must hold.
unfoldable pub conditionals : List Binding → List Binding
conditionals [] = []
conditionals (b ∷ B) = elim b.conditional [ true ↦ b ∷ conditionals B | false ↦ conditionals B ]
