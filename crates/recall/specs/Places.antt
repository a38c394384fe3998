-- What is kept of goals and of clauses: their places, by what names them. Image and query never change, so what is true once stays true. Assumes nothing.
use Rattle.std.specs.Prelude.{◌≡◌, cond, List, ℕ, ◌+◌, ◌*◌, ◌<◌, eqb}
use Rattle.model.specs.Decoding.{clause_at}
use Rattle.model.specs.Goals.{goal_place}
use Rattle.recall.specs.Recall.{Recalls}

abbrev pub goal_key : ℕ → ℕ → ℕ
goal_key position index = 16 * position + index

abbrev pub clause_key : ℕ → ℕ → ℕ
clause_key predicate clause = 1024 * predicate + clause

-- a goal by the position of its clause, 0 for the query, and its index there
abbrev pub GoalTold : List ℕ → List ℕ → ℕ → ℕ → Type 0
GoalTold image query key found =
    (position index : ℕ) → index < 16 → key ≡ goal_key position index → found ≡ goal_place image (cond (eqb position 0) query image) position index

-- a clause by its predicate and its number there
abbrev pub ClauseTold : List ℕ → ℕ → ℕ → Type 0
ClauseTold image key found = (predicate clause : ℕ) → clause < 1024 → key ≡ clause_key predicate clause → found ≡ clause_at image predicate clause

abbrev pub GoalsKept : List ℕ → List ℕ → List ℕ → Type 0
GoalsKept image query memo = Recalls (GoalTold image query) memo

abbrev pub ClausesKept : List ℕ → List ℕ → Type 0
ClausesKept image memo = Recalls (ClauseTold image) memo
