-- Rules as data: what a legal rule image and a legal query say, without their words.
-- Renders "Rule image" of document 01. That arities agree and variable numbers are in range is the image check's matter; nothing here asks for it.
-- Assumes nothing.
use Rattle.std.specs.Prelude.{Bool, false, List, [], ℕ}
use Rattle.std.proofs.Math.Option.{none, some}
use Rattle.std.proofs.Math.ListN.{get_elem?}

-- A VAR or CON word: variable i of its clause, or a constant.
pub data Argument : Type 0 where
  con : ℕ → Argument
  var : ℕ → Argument

-- A GOAL word with its arguments: predicate and arguments. A further kind of goal is a further constructor.
pub data Goal : Type 0 where
  call : ℕ → List Argument → Goal

-- "A clause is its CLAUSE word, its head arguments, then each GOAL word with its arguments." A query is a clause with an empty head.
pub record Clause : Type 0 where
  pub variables : ℕ
  pub head : List Argument
  pub goals : List Goal

pub record Predicate : Type 0 where
  pub arity : ℕ
  pub sequential : Bool
  pub clauses : List Clause

abbrev pub Rules : Type 0
Rules = List Predicate

unfoldable pub clauses_of : Rules → ℕ → List Clause
clauses_of R p = elim (get_elem? R p) [ none ↦ [] | some d ↦ d.clauses ]

unfoldable pub sequential_of : Rules → ℕ → Bool
sequential_of R p = elim (get_elem? R p) [ none ↦ false | some d ↦ d.sequential ]
