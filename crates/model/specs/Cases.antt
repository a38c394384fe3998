-- Rule sets and queries with what they give: the data of `Tried`. The numbers were made by an implementation that shares no code with this one and was
-- written from document 01 alone. Serves "The steps" and "Bench examples" of document 01. Assumes nothing.
use Rattle.std.specs.Prelude.{true, false, List, [], ◌∷◌, ℕ}
use Rattle.model.specs.Rules.{Argument, con, var, Goal, call, Clause, Predicate, Rules}
use Rattle.model.specs.Machine.{Size, base_size, Call, step_by, run_by, move_to}

abbrev clause : ℕ → List Argument → List Goal → Clause
clause variables head goals = record { variables = variables; head = head; goals = goals }

abbrev fact : ℕ → List Argument → Clause
fact variables head = clause variables head []

abbrev parallel : ℕ → List Clause → Predicate
parallel arity clauses = record { arity = arity; sequential = false; clauses = clauses }

abbrev sequential : ℕ → List Clause → Predicate
sequential arity clauses = record { arity = arity; sequential = true; clauses = clauses }

-- In depth-first clause order the derivations, by their paths; the answer of each, as the image words that reading writes; the conditional bindings on its
-- path, as number and value word, a REF by its variable's number; and what worker 0 alone reports, step by step.
pub record Case : Type 0 where
  pub rules : Rules
  pub query : Clause
  pub derivations : List (List ℕ)
  pub answers : List (List ℕ)
  pub conditionals : List (List ℕ)
  pub outcomes : List ℕ

-- The desk program's example: p(5). p(6). ?- p(X).
abbrev pub desk_example : Case
desk_example =
    record {
      rules = parallel 1 (fact 0 (con 5 ∷ []) ∷ fact 0 (con 6 ∷ []) ∷ []) ∷ [];
      query = clause 1 [] (call 0 (var 0 ∷ []) ∷ []);
      derivations = (0 ∷ []) ∷ (1 ∷ []) ∷ [];
      answers = (0x20000005 ∷ []) ∷ (0x20000006 ∷ []) ∷ [];
      conditionals = (0 ∷ 0x40000005 ∷ []) ∷ (0 ∷ 0x40000006 ∷ []) ∷ [];
      outcomes = 2 ∷ 3 ∷ 2 ∷ 3 ∷ 6 ∷ [];
    }

-- P10: q(A,A). ?- q(X,Y).
abbrev pub repeated_against_two : Case
repeated_against_two =
    record {
      rules = parallel 2 (fact 1 (var 0 ∷ var 0 ∷ []) ∷ []) ∷ [];
      query = clause 2 [] (call 0 (var 0 ∷ var 1 ∷ []) ∷ []);
      derivations = (0 ∷ []) ∷ [];
      answers = (0x10000000 ∷ 0x10000000 ∷ []) ∷ [];
      conditionals = (1 ∷ 0x20000000 ∷ []) ∷ [];
      outcomes = 2 ∷ 3 ∷ 6 ∷ [];
    }

-- P11: q(A,A). ?- q(X,X).
abbrev pub repeated_against_one : Case
repeated_against_one =
    record {
      rules = parallel 2 (fact 1 (var 0 ∷ var 0 ∷ []) ∷ []) ∷ [];
      query = clause 1 [] (call 0 (var 0 ∷ var 0 ∷ []) ∷ []);
      derivations = (0 ∷ []) ∷ [];
      answers = (0x10000000 ∷ []) ∷ [];
      conditionals = [] ∷ [];
      outcomes = 2 ∷ 3 ∷ 6 ∷ [];
    }

-- Constants clash at the second argument: r(1,2). r(1,3). r(4,3). ?- r(X,3).
abbrev pub second_argument_clash : Case
second_argument_clash =
    record {
      rules = parallel 2 (fact 0 (con 1 ∷ con 2 ∷ []) ∷ fact 0 (con 1 ∷ con 3 ∷ []) ∷ fact 0 (con 4 ∷ con 3 ∷ []) ∷ []) ∷ [];
      query = clause 1 [] (call 0 (var 0 ∷ con 3 ∷ []) ∷ []);
      derivations = (1 ∷ []) ∷ (2 ∷ []) ∷ [];
      answers = (0x20000001 ∷ []) ∷ (0x20000004 ∷ []) ∷ [];
      conditionals = (0 ∷ 0x40000001 ∷ []) ∷ (0 ∷ 0x40000004 ∷ []) ∷ [];
      outcomes = 0 ∷ 2 ∷ 3 ∷ 2 ∷ 3 ∷ 6 ∷ [];
    }

-- A repeated head variable meets two constants: q(A,A). q(A,B). ?- q(1,2), q(X,X).
abbrev pub repeated_against_constants : Case
repeated_against_constants =
    record {
      rules = parallel 2 (fact 1 (var 0 ∷ var 0 ∷ []) ∷ fact 2 (var 0 ∷ var 1 ∷ []) ∷ []) ∷ [];
      query = clause 1 [] (call 0 (con 1 ∷ con 2 ∷ []) ∷ call 0 (var 0 ∷ var 0 ∷ []) ∷ []);
      derivations = (1 ∷ 0 ∷ []) ∷ (1 ∷ 1 ∷ []) ∷ [];
      answers = (0x10000000 ∷ []) ∷ (0x10000000 ∷ []) ∷ [];
      conditionals = [] ∷ [] ∷ [];
      outcomes = 0 ∷ 1 ∷ 2 ∷ 3 ∷ 2 ∷ 3 ∷ 3 ∷ 6 ∷ [];
    }

-- An alias from the lower number and one from the higher: w(A,B). e(C,C). ?- w(X,Y), e(Y,X), e(Z,X).
abbrev pub alias_both_ways : Case
alias_both_ways =
    record {
      rules = parallel 2 (fact 2 (var 0 ∷ var 1 ∷ []) ∷ []) ∷ parallel 2 (fact 1 (var 0 ∷ var 0 ∷ []) ∷ []) ∷ [];
      query = clause 3 [] (call 0 (var 0 ∷ var 1 ∷ []) ∷ call 1 (var 1 ∷ var 0 ∷ []) ∷ call 1 (var 2 ∷ var 0 ∷ []) ∷ []);
      derivations = (0 ∷ 0 ∷ 0 ∷ []) ∷ [];
      answers = (0x10000000 ∷ 0x10000000 ∷ 0x10000000 ∷ []) ∷ [];
      conditionals = (1 ∷ 0x20000000 ∷ 2 ∷ 0x20000000 ∷ []) ∷ [];
      outcomes = 1 ∷ 1 ∷ 2 ∷ 3 ∷ 3 ∷ 3 ∷ 6 ∷ [];
    }

-- An alias that a later goal binds, through a clause: f(A,B) :- e(A,B), g(B). e(C,C). g(4). g(5). ?- f(X,Y).
abbrev pub alias_bound_later : Case
alias_bound_later =
    record {
      rules = parallel 2 (clause 2 (var 0 ∷ var 1 ∷ []) (call 1 (var 0 ∷ var 1 ∷ []) ∷ call 2 (var 1 ∷ []) ∷ []) ∷ []) ∷ parallel 2 (fact 1 (var 0 ∷ var 0 ∷ []) ∷ []) ∷ parallel 1 (fact 0 (con 4 ∷ []) ∷ fact 0 (con 5 ∷ []) ∷ []) ∷ [];
      query = clause 2 [] (call 0 (var 0 ∷ var 1 ∷ []) ∷ []);
      derivations = (0 ∷ 0 ∷ 0 ∷ []) ∷ (0 ∷ 0 ∷ 1 ∷ []) ∷ [];
      answers = (0x20000004 ∷ 0x20000004 ∷ []) ∷ (0x20000005 ∷ 0x20000005 ∷ []) ∷ [];
      conditionals = (1 ∷ 0x20000000 ∷ 0 ∷ 0x40000004 ∷ []) ∷ (1 ∷ 0x20000000 ∷ 0 ∷ 0x40000005 ∷ []) ∷ [];
      outcomes = 1 ∷ 1 ∷ 2 ∷ 3 ∷ 2 ∷ 3 ∷ 3 ∷ 3 ∷ 6 ∷ [];
    }

-- A predicate without clauses: a(X) :- b(X), c(X). a(2). b(1). ?- a(X).
abbrev pub clauseless_goal : Case
clauseless_goal =
    record {
      rules = parallel 1 (clause 1 (var 0 ∷ []) (call 1 (var 0 ∷ []) ∷ call 2 (var 0 ∷ []) ∷ []) ∷ fact 0 (con 2 ∷ []) ∷ []) ∷ parallel 1 (fact 0 (con 1 ∷ []) ∷ []) ∷ parallel 1 [] ∷ [];
      query = clause 1 [] (call 0 (var 0 ∷ []) ∷ []);
      derivations = (1 ∷ []) ∷ [];
      answers = (0x20000002 ∷ []) ∷ [];
      conditionals = (0 ∷ 0x40000002 ∷ []) ∷ [];
      outcomes = 1 ∷ 1 ∷ 3 ∷ 3 ∷ 2 ∷ 3 ∷ 6 ∷ [];
    }

-- The query's predicate has no clauses: p(1). ?- n(X).
abbrev pub clauseless_query : Case
clauseless_query =
    record {
      rules = parallel 1 (fact 0 (con 1 ∷ []) ∷ []) ∷ parallel 1 [] ∷ [];
      query = clause 1 [] (call 1 (var 0 ∷ []) ∷ []);
      derivations = [];
      answers = [];
      conditionals = [];
      outcomes = 6 ∷ [];
    }

-- A sequential predicate: s(1). s(2). s(3). t(3). t(1). ?- s(X), t(X).
abbrev pub sequential_goal : Case
sequential_goal =
    record {
      rules = sequential 1 (fact 0 (con 1 ∷ []) ∷ fact 0 (con 2 ∷ []) ∷ fact 0 (con 3 ∷ []) ∷ []) ∷ parallel 1 (fact 0 (con 3 ∷ []) ∷ fact 0 (con 1 ∷ []) ∷ []) ∷ [];
      query = clause 1 [] (call 0 (var 0 ∷ []) ∷ call 1 (var 0 ∷ []) ∷ []);
      derivations = (0 ∷ 1 ∷ []) ∷ (2 ∷ 0 ∷ []) ∷ [];
      answers = (0x20000001 ∷ []) ∷ (0x20000003 ∷ []) ∷ [];
      conditionals = (0 ∷ 0x40000001 ∷ []) ∷ (0 ∷ 0x40000003 ∷ []) ∷ [];
      outcomes = 1 ∷ 0 ∷ 2 ∷ 3 ∷ 3 ∷ 1 ∷ 0 ∷ 0 ∷ 3 ∷ 1 ∷ 2 ∷ 3 ∷ 0 ∷ 3 ∷ 6 ∷ [];
    }

-- Unbound answers, renumbered by first appearance: z(A,B,A,C). ?- z(V,W,X,Y).
abbrev pub unbound_answers : Case
unbound_answers =
    record {
      rules = parallel 4 (fact 3 (var 0 ∷ var 1 ∷ var 0 ∷ var 2 ∷ []) ∷ []) ∷ [];
      query = clause 4 [] (call 0 (var 0 ∷ var 1 ∷ var 2 ∷ var 3 ∷ []) ∷ []);
      derivations = (0 ∷ []) ∷ [];
      answers = (0x10000000 ∷ 0x10000001 ∷ 0x10000000 ∷ 0x10000002 ∷ []) ∷ [];
      conditionals = (2 ∷ 0x20000000 ∷ []) ∷ [];
      outcomes = 2 ∷ 3 ∷ 6 ∷ [];
    }

-- Constant 0 is no unbound variable: k(0,A). k(B,0). ?- k(X,Y), k(Y,X).
abbrev pub constant_zero : Case
constant_zero =
    record {
      rules = parallel 2 (fact 1 (con 0 ∷ var 0 ∷ []) ∷ fact 1 (var 0 ∷ con 0 ∷ []) ∷ []) ∷ [];
      query = clause 2 [] (call 0 (var 0 ∷ var 1 ∷ []) ∷ call 0 (var 1 ∷ var 0 ∷ []) ∷ []);
      derivations = (0 ∷ 0 ∷ []) ∷ (0 ∷ 1 ∷ []) ∷ (1 ∷ 0 ∷ []) ∷ (1 ∷ 1 ∷ []) ∷ [];
      answers = (0x20000000 ∷ 0x20000000 ∷ []) ∷ (0x20000000 ∷ 0x10000000 ∷ []) ∷ (0x10000000 ∷ 0x20000000 ∷ []) ∷ (0x20000000 ∷ 0x20000000 ∷ []) ∷ [];
      conditionals = (0 ∷ 0x40000000 ∷ 1 ∷ 0x40000000 ∷ []) ∷ (0 ∷ 0x40000000 ∷ []) ∷ (1 ∷ 0x40000000 ∷ []) ∷ (1 ∷ 0x40000000 ∷ 0 ∷ 0x40000000 ∷ []) ∷ [];
      outcomes = 1 ∷ 2 ∷ 3 ∷ 2 ∷ 3 ∷ 3 ∷ 1 ∷ 2 ∷ 3 ∷ 2 ∷ 3 ∷ 3 ∷ 6 ∷ [];
    }

-- Two derivations with one answer: o(1). o(1). ?- o(X).
abbrev pub equal_answers : Case
equal_answers =
    record {
      rules = parallel 1 (fact 0 (con 1 ∷ []) ∷ fact 0 (con 1 ∷ []) ∷ []) ∷ [];
      query = clause 1 [] (call 0 (var 0 ∷ []) ∷ []);
      derivations = (0 ∷ []) ∷ (1 ∷ []) ∷ [];
      answers = (0x20000001 ∷ []) ∷ (0x20000001 ∷ []) ∷ [];
      conditionals = (0 ∷ 0x40000001 ∷ []) ∷ (0 ∷ 0x40000001 ∷ []) ∷ [];
      outcomes = 2 ∷ 3 ∷ 2 ∷ 3 ∷ 6 ∷ [];
    }

-- The clause's goals before the others: g(X,Y) :- h(X), k(X,Y). h(1). h(2). k(1,5). k(2,6). k(2,7). m(7). m(6). ?- g(X,Y), m(Y).
abbrev pub goals_in_order : Case
goals_in_order =
    record {
      rules = parallel 2 (clause 2 (var 0 ∷ var 1 ∷ []) (call 1 (var 0 ∷ []) ∷ call 2 (var 0 ∷ var 1 ∷ []) ∷ []) ∷ []) ∷ parallel 1 (fact 0 (con 1 ∷ []) ∷ fact 0 (con 2 ∷ []) ∷ []) ∷ parallel 2 (fact 0 (con 1 ∷ con 5 ∷ []) ∷ fact 0 (con 2 ∷ con 6 ∷ []) ∷ fact 0 (con 2 ∷ con 7 ∷ []) ∷ []) ∷ parallel 1 (fact 0 (con 7 ∷ []) ∷ fact 0 (con 6 ∷ []) ∷ []) ∷ [];
      query = clause 2 [] (call 0 (var 0 ∷ var 1 ∷ []) ∷ call 3 (var 1 ∷ []) ∷ []);
      derivations = (0 ∷ 1 ∷ 1 ∷ 1 ∷ []) ∷ (0 ∷ 1 ∷ 2 ∷ 0 ∷ []) ∷ [];
      answers = (0x20000002 ∷ 0x20000006 ∷ []) ∷ (0x20000002 ∷ 0x20000007 ∷ []) ∷ [];
      conditionals = (0 ∷ 0x40000002 ∷ 1 ∷ 0x40000006 ∷ []) ∷ (0 ∷ 0x40000002 ∷ 1 ∷ 0x40000007 ∷ []) ∷ [];
      outcomes = 1 ∷ 1 ∷ 1 ∷ 0 ∷ 0 ∷ 3 ∷ 0 ∷ 0 ∷ 3 ∷ 1 ∷ 0 ∷ 1 ∷ 0 ∷ 2 ∷ 3 ∷ 3 ∷ 1 ∷ 2 ∷ 3 ∷ 0 ∷ 3 ∷ 3 ∷ 3 ∷ 6 ∷ [];
    }

-- Depth beyond ten: reach(X,X). reach(X,Y) :- edge(X,Z), reach(Z,Y). edge(0,1). edge(1,2). edge(2,3). edge(3,4). edge(4,5). edge(5,6). ?- reach(0,Y).
abbrev pub depth_thirteen : Case
depth_thirteen =
    record {
      rules = parallel 2 (fact 1 (var 0 ∷ var 0 ∷ []) ∷ clause 3 (var 0 ∷ var 1 ∷ []) (call 1 (var 0 ∷ var 2 ∷ []) ∷ call 0 (var 2 ∷ var 1 ∷ []) ∷ []) ∷ []) ∷ parallel 2 (fact 0 (con 0 ∷ con 1 ∷ []) ∷ fact 0 (con 1 ∷ con 2 ∷ []) ∷ fact 0 (con 2 ∷ con 3 ∷ []) ∷ fact 0 (con 3 ∷ con 4 ∷ []) ∷ fact 0 (con 4 ∷ con 5 ∷ []) ∷ fact 0 (con 5 ∷ con 6 ∷ []) ∷ []) ∷ [];
      query = clause 1 [] (call 0 (con 0 ∷ var 0 ∷ []) ∷ []);
      derivations = (0 ∷ []) ∷ (1 ∷ 0 ∷ 0 ∷ []) ∷ (1 ∷ 0 ∷ 1 ∷ 1 ∷ 0 ∷ []) ∷ (1 ∷ 0 ∷ 1 ∷ 1 ∷ 1 ∷ 2 ∷ 0 ∷ []) ∷ (1 ∷ 0 ∷ 1 ∷ 1 ∷ 1 ∷ 2 ∷ 1 ∷ 3 ∷ 0 ∷ []) ∷ (1 ∷ 0 ∷ 1 ∷ 1 ∷ 1 ∷ 2 ∷ 1 ∷ 3 ∷ 1 ∷ 4 ∷ 0 ∷ []) ∷ (1 ∷ 0 ∷ 1 ∷ 1 ∷ 1 ∷ 2 ∷ 1 ∷ 3 ∷ 1 ∷ 4 ∷ 1 ∷ 5 ∷ 0 ∷ []) ∷ [];
      answers = (0x20000000 ∷ []) ∷ (0x20000001 ∷ []) ∷ (0x20000002 ∷ []) ∷ (0x20000003 ∷ []) ∷ (0x20000004 ∷ []) ∷ (0x20000005 ∷ []) ∷ (0x20000006 ∷ []) ∷ [];
      conditionals = (0 ∷ 0x40000000 ∷ []) ∷ (3 ∷ 0x40000001 ∷ 0 ∷ 0x40000001 ∷ []) ∷ (3 ∷ 0x40000001 ∷ 6 ∷ 0x40000002 ∷ 0 ∷ 0x40000002 ∷ []) ∷ (3 ∷ 0x40000001 ∷ 6 ∷ 0x40000002 ∷ 9 ∷ 0x40000003 ∷ 0 ∷ 0x40000003 ∷ []) ∷ (3 ∷ 0x40000001 ∷ 6 ∷ 0x40000002 ∷ 9 ∷ 0x40000003 ∷ 12 ∷ 0x40000004 ∷ 0 ∷ 0x40000004 ∷ []) ∷ (3 ∷ 0x40000001 ∷ 6 ∷ 0x40000002 ∷ 9 ∷ 0x40000003 ∷ 12 ∷ 0x40000004 ∷ 15 ∷ 0x40000005 ∷ 0 ∷ 0x40000005 ∷ []) ∷ (3 ∷ 0x40000001 ∷ 6 ∷ 0x40000002 ∷ 9 ∷ 0x40000003 ∷ 12 ∷ 0x40000004 ∷ 15 ∷ 0x40000005 ∷ 18 ∷ 0x40000006 ∷ 0 ∷ 0x40000006 ∷ []) ∷ [];
      outcomes = 2 ∷ 3 ∷ 1 ∷ 1 ∷ 2 ∷ 3 ∷ 1 ∷ 0 ∷ 1 ∷ 2 ∷ 3 ∷ 1 ∷ 0 ∷ 0 ∷ 1 ∷ 2 ∷ 3 ∷ 1 ∷ 0 ∷ 0 ∷ 0 ∷ 1 ∷ 2 ∷ 3 ∷ 1 ∷ 0 ∷ 0 ∷ 0 ∷ 0 ∷ 1 ∷ 2 ∷ 3 ∷ 1 ∷ 0 ∷ 0 ∷ 0 ∷ 0 ∷ 0 ∷ 1 ∷ 2 ∷ 3 ∷ 1 ∷ 0 ∷ 0 ∷ 0 ∷ 0 ∷ 0 ∷ 0 ∷ 3 ∷ 3 ∷ 3 ∷ 3 ∷ 0 ∷ 3 ∷ 3 ∷ 0 ∷ 0 ∷ 3 ∷ 3 ∷ 0 ∷ 0 ∷ 0 ∷ 3 ∷ 3 ∷ 0 ∷ 0 ∷ 0 ∷ 0 ∷ 3 ∷ 3 ∷ 0 ∷ 0 ∷ 0 ∷ 0 ∷ 0 ∷ 3 ∷ 6 ∷ [];
    }

abbrev pub cases : List Case
cases =
    desk_example
    ∷ repeated_against_two
    ∷ repeated_against_one
    ∷ second_argument_clash
    ∷ repeated_against_constants
    ∷ alias_both_ways
    ∷ alias_bound_later
    ∷ clauseless_goal
    ∷ clauseless_query
    ∷ sequential_goal
    ∷ unbound_answers
    ∷ constant_zero
    ∷ equal_answers
    ∷ goals_in_order
    ∷ depth_thirteen
    ∷ []

-- Calls and what each reports: the outcome, if there is one, the worker's slot after it, and of a run the count.
pub record History : Type 0 where
  pub rules : Rules
  pub query : Clause
  pub size : Size
  pub calls : List Call
  pub reports : List (List ℕ)

-- P7 to P9, then the way to Finished; and refused calls between: p(5). p(6). ?- p(X).
abbrev pub two_workers : History
two_workers =
    record {
      rules = parallel 1 (fact 0 (con 5 ∷ []) ∷ fact 0 (con 6 ∷ []) ∷ []) ∷ [];
      query = clause 1 [] (call 0 (var 0 ∷ []) ∷ []);
      size = base_size;
      calls = step_by 0 ∷ step_by 1 ∷ step_by 4 ∷ move_to 0 2 ∷ move_to 0 3 ∷ move_to 0 64 ∷ move_to 4 0 ∷ step_by 0 ∷ step_by 1 ∷ step_by 0 ∷ move_to 0 1 ∷ step_by 0 ∷ step_by 0 ∷ step_by 1 ∷ [];
      reports = (2 ∷ 1 ∷ []) ∷ (2 ∷ 2 ∷ []) ∷ (0 ∷ []) ∷ (2 ∷ []) ∷ (2 ∷ []) ∷ (2 ∷ []) ∷ (0 ∷ []) ∷ (4 ∷ 0 ∷ []) ∷ (3 ∷ 0 ∷ []) ∷ (5 ∷ 0 ∷ []) ∷ (1 ∷ []) ∷ (3 ∷ 0 ∷ []) ∷ (6 ∷ 0 ∷ []) ∷ (6 ∷ 0 ∷ []) ∷ [];
    }

-- Runs: p(5). p(6). ?- p(X).
abbrev pub runs_of_one_worker : History
runs_of_one_worker =
    record {
      rules = parallel 1 (fact 0 (con 5 ∷ []) ∷ fact 0 (con 6 ∷ []) ∷ []) ∷ [];
      query = clause 1 [] (call 0 (var 0 ∷ []) ∷ []);
      size = base_size;
      calls = run_by 0 0 ∷ run_by 0 9 ∷ run_by 0 9 ∷ run_by 0 1 ∷ run_by 1 9 ∷ run_by 0 1 ∷ run_by 0 9 ∷ [];
      reports = (7 ∷ 0 ∷ 0 ∷ []) ∷ (2 ∷ 1 ∷ 1 ∷ []) ∷ (2 ∷ 1 ∷ 2 ∷ []) ∷ (7 ∷ 0 ∷ 1 ∷ []) ∷ (6 ∷ 0 ∷ 1 ∷ []) ∷ (6 ∷ 0 ∷ 1 ∷ []) ∷ (6 ∷ 0 ∷ 1 ∷ []) ∷ [];
    }

-- A sequential node with a child: s(1). s(2). t(3). ?- s(X), t(X).
abbrev pub sequential_wait : History
sequential_wait =
    record {
      rules = sequential 1 (fact 0 (con 1 ∷ []) ∷ fact 0 (con 2 ∷ []) ∷ []) ∷ parallel 1 (fact 0 (con 3 ∷ []) ∷ []) ∷ [];
      query = clause 1 [] (call 0 (var 0 ∷ []) ∷ call 1 (var 0 ∷ []) ∷ []);
      size = base_size;
      calls = step_by 0 ∷ step_by 1 ∷ run_by 1 5 ∷ step_by 0 ∷ step_by 0 ∷ step_by 1 ∷ step_by 0 ∷ step_by 1 ∷ run_by 2 9 ∷ [];
      reports = (1 ∷ 1 ∷ []) ∷ (5 ∷ 0 ∷ []) ∷ (5 ∷ 0 ∷ 1 ∷ []) ∷ (0 ∷ 1 ∷ []) ∷ (3 ∷ 0 ∷ []) ∷ (1 ∷ 1 ∷ []) ∷ (5 ∷ 0 ∷ []) ∷ (0 ∷ 1 ∷ []) ∷ (5 ∷ 0 ∷ 1 ∷ []) ∷ [];
    }

-- All slots used: p(5). p(6). ?- p(X).
abbrev pub slots_used : History
slots_used =
    record {
      rules = parallel 1 (fact 0 (con 5 ∷ []) ∷ fact 0 (con 6 ∷ []) ∷ []) ∷ [];
      query = clause 1 [] (call 0 (var 0 ∷ []) ∷ []);
      size = record { slots = 2; workers = 4 };
      calls = run_by 0 5 ∷ step_by 1 ∷ run_by 1 5 ∷ run_by 0 1 ∷ run_by 0 0 ∷ step_by 1 ∷ run_by 1 9 ∷ [];
      reports = (2 ∷ 1 ∷ 1 ∷ []) ∷ (24 ∷ 0 ∷ []) ∷ (24 ∷ 0 ∷ 0 ∷ []) ∷ (7 ∷ 0 ∷ 1 ∷ []) ∷ (7 ∷ 0 ∷ 0 ∷ []) ∷ (2 ∷ 1 ∷ []) ∷ (6 ∷ 0 ∷ 2 ∷ []) ∷ [];
    }

abbrev pub histories : List History
histories = two_workers ∷ runs_of_one_worker ∷ sequential_wait ∷ slots_used ∷ []
