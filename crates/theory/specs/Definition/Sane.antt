-- Definitions: bindings of which every reference falls and no number is bound twice; what one pair of arguments adds to them; and that all numbers
-- bound, or met, are below a bound.
-- Serves "Unifying" and "numbers that clause's variables from its base on" of document 01's steps. Assumes nothing.
use Rattle.std.specs.Prelude.{List, [], ◌++◌, ◌∷◌, ◌≡◌, ◌+◌, ◌<◌, ◌≤◌, ℕ}
use Rattle.std.proofs.Math.Option.{none, some}
use Rattle.std.proofs.Math.ListN.{get_elem?}
use Rattle.model.specs.Definition.{Binding, Dereferenced, Node, Waiting, child_base, constant, lookup, ref, unbound, unify_head, waiting}
use Rattle.model.specs.Rules.{Argument, Clause, Goal, Rules, call, clauses_of, con, var}

unfoldable pub ReferencesFall : List Binding → Type 0
ReferencesFall B = (n m : ℕ) → lookup B n ≡ some (ref m) → m < n

pub record Unbound (B : List Binding) (n m : ℕ) : Type 0 where
  pub missing : lookup B m ≡ none
  pub low : m ≤ n

-- no number twice
unfoldable pub BoundOnce : List Binding → Type 0
BoundOnce [] = Unit {0}
BoundOnce (b ∷ B) = (lookup B b.number ≡ none) × BoundOnce B

pub record Sane (B : List Binding) : Type 0 where
  pub falls : (n m : ℕ) → lookup B n ≡ some (ref m) → m < n
  pub bound_once : BoundOnce B

-- what one pair of arguments adds
pub data Made (B : List Binding) : List Binding → Type 0 where
  nothing : Made B []
  one : {b : Binding} → lookup B b.number ≡ none → ((m : ℕ) → b.value ≡ ref m → m < b.number) → Made B (b ∷ [])

pub data Shows (B : List Binding) : Dereferenced → Type 0 where
  shows-constant : {c : ℕ} → Shows B (constant c)
  shows-unbound : {n : ℕ} → lookup B n ≡ none → Shows B (unbound n)

pub record Continues (B B' : List Binding) : Type 0 where
  pub made : List Binding
  pub is : B' ≡ B ++ made
  pub sane : Sane B'

-- bound numbers stay below k where all variables met do
unfoldable pub BoundBelow : ℕ → List Binding → Type 0
BoundBelow k B = (n : ℕ) → k ≤ n → lookup B n ≡ none

unfoldable pub Under : ℕ → Dereferenced → Type 0
Under k (constant c) = Unit {0}
Under k (unbound n) = n < k

unfoldable pub VariablesBelow : ℕ → List Argument → Type 0
VariablesBelow n [] = Unit {0}
VariablesBelow n (con c ∷ xs) = VariablesBelow n xs
VariablesBelow n (var i ∷ xs) = (i < n) × VariablesBelow n xs

unfoldable pub GoalBelow : ℕ → Goal → Type 0
GoalBelow n (call p arguments) = VariablesBelow n arguments

unfoldable pub GoalsBelow : ℕ → List Goal → Type 0
GoalsBelow n [] = Unit {0}
GoalsBelow n (g ∷ gs) = GoalBelow n g × GoalsBelow n gs

-- what the image check says of a clause: its variable numbers are below the declared count
pub record ClauseBelow (c : Clause) : Type 0 where
  pub head : VariablesBelow c.variables c.head
  pub goals : GoalsBelow c.variables c.goals

unfoldable pub RulesBelow : Rules → Type 0
RulesBelow R = (p k : ℕ) (c : Clause) → get_elem? (clauses_of R p) k ≡ some c → ClauseBelow c

-- what the image check says of every clause: at most 32 variables
unfoldable pub RulesSmall : Rules → Type 0
RulesSmall R = (p k : ℕ) (c : Clause) → get_elem? (clauses_of R p) k ≡ some c → c.variables ≤ 32

-- every variable of a goal that waits has a number below k
unfoldable pub WaitingBelow : ℕ → List Waiting → Type 0
WaitingBelow k [] = Unit {0}
WaitingBelow k (g ∷ gs) = ((n : ℕ) × (g.base + n ≤ k) × GoalBelow n g.goal) × WaitingBelow k gs

-- all numbers of a node, bound or waiting, are below the end of its variables
pub record NodeBelow (N : Node) : Type 0 where
  pub sane : Sane N.bindings
  pub bound : BoundBelow (N.base + N.variables) N.bindings
  pub waits : WaitingBelow (N.base + N.variables) N.goals

-- how a child came about: the first goal, the clause taken, and the bindings that its head gave
pub record ByClause (R : Rules) (N M : Node) (k : ℕ) : Type 0 where
  pub predicate : ℕ
  pub arguments : List Argument
  pub goal_base : ℕ
  pub others : List Waiting
  pub clause : Clause
  pub bindings : List Binding
  pub first : N.goals ≡ record { goal = call predicate arguments; base = goal_base } ∷ others
  pub taken : get_elem? (clauses_of R predicate) k ≡ some clause
  pub unified : unify_head N.bindings (child_base N) clause.head goal_base arguments ≡ some bindings
  pub is : M ≡ record { goals = waiting (child_base N) clause.goals ++ others; bindings = bindings; base = child_base N; variables = clause.variables }
