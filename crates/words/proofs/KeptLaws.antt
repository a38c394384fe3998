-- The code's tables of the spread form against the definition's. Document 01, "zero fields dropped". Assumes nothing.
use Rattle.std.proofs.Common.{◌≡◌, refl, Bool, List, [], ◌∷◌, ℕ, ◌≤◌, ◌<◌, arith, T, eqb, eqb→eq, lit≤, length, get_or}
use lib.ListN.{get_or-eq_default}
use Rattle.model.specs.declared.Kind.{Kind}
use Rattle.model.specs.declared.Kind.TheVariants.{Header, Predicate, Clause, Var, Con, Goal, Node0, Node1, Node2, Node3, Value}
use Rattle.model.specs.Fields.{kept_fields}
use Rattle.model.specs.Spread.{group_size}
use Rattle.words.specs.Table.{row_of}
use Rattle.words.proofs.TableLaws.{upto, upto-at}

-- the code's arrays, as they stand there
abbrev pub kept : List (List ℕ)
kept =
    (0 ∷ 1 ∷ 3 ∷ 0 ∷ 0 ∷ 0 ∷ [])
    ∷ (0 ∷ 1 ∷ 2 ∷ 3 ∷ 0 ∷ 0 ∷ [])
    ∷ (0 ∷ 1 ∷ 2 ∷ 3 ∷ 0 ∷ 0 ∷ [])
    ∷ (0 ∷ 2 ∷ 0 ∷ 0 ∷ 0 ∷ 0 ∷ [])
    ∷ (0 ∷ 1 ∷ 0 ∷ 0 ∷ 0 ∷ 0 ∷ [])
    ∷ (0 ∷ 1 ∷ 0 ∷ 0 ∷ 0 ∷ 0 ∷ [])
    ∷ (0 ∷ 1 ∷ 2 ∷ 3 ∷ 4 ∷ 0 ∷ [])
    ∷ (0 ∷ 2 ∷ 0 ∷ 0 ∷ 0 ∷ 0 ∷ [])
    ∷ (0 ∷ 1 ∷ 2 ∷ 3 ∷ 0 ∷ 0 ∷ [])
    ∷ (0 ∷ 0 ∷ 0 ∷ 0 ∷ 0 ∷ 0 ∷ [])
    ∷ (0 ∷ 1 ∷ 0 ∷ 0 ∷ 0 ∷ 0 ∷ [])
    ∷ []

abbrev pub sizes : List ℕ
sizes = 3 ∷ 4 ∷ 4 ∷ 2 ∷ 2 ∷ 2 ∷ 5 ∷ 2 ∷ 4 ∷ 0 ∷ 2 ∷ []

pub size-row : (kind : Kind) → get_or sizes (row_of kind) 0 ≡ group_size kind
unfolding group_size kept_fields
size-row Header = refl
size-row Predicate = refl
size-row Clause = refl
size-row Var = refl
size-row Con = refl
size-row Goal = refl
size-row Node0 = refl
size-row Node1 = refl
size-row Node2 = refl
size-row Node3 = refl
size-row Value = refl

kept_test : Kind → ℕ → Bool
kept_test kind j = eqb (get_or (get_or kept (row_of kind) []) j 0) (get_or (kept_fields kind) j 0)

kept_test-all : (kind : Kind) → T (upto 6 (kept_test kind))
unfolding kept_test kept_fields
kept_test-all Header = tt
kept_test-all Predicate = tt
kept_test-all Clause = tt
kept_test-all Var = tt
kept_test-all Con = tt
kept_test-all Goal = tt
kept_test-all Node0 = tt
kept_test-all Node1 = tt
kept_test-all Node2 = tt
kept_test-all Node3 = tt
kept_test-all Value = tt

pub kept_row : (kind : Kind) (j : ℕ) → j < 6 → get_or (get_or kept (row_of kind) []) j 0 ≡ get_or (kept_fields kind) j 0
unfolding kept_test
kept_row kind j h = eqb→eq (get_or (get_or kept (row_of kind) []) j 0) (get_or (kept_fields kind) j 0) (upto-at 6 (kept_test kind) (kept_test-all kind) j h)

kept-short : (kind : Kind) → length (kept_fields kind) ≤ 6
unfolding kept_fields
kept-short Header = lit≤ tt
kept-short Predicate = lit≤ tt
kept-short Clause = lit≤ tt
kept-short Var = lit≤ tt
kept-short Con = lit≤ tt
kept-short Goal = lit≤ tt
kept-short Node0 = lit≤ tt
kept-short Node1 = lit≤ tt
kept-short Node2 = lit≤ tt
kept-short Node3 = lit≤ tt
kept-short Value = lit≤ tt

pub kept-past : (kind : Kind) (j : ℕ) → 6 ≤ j → get_or (kept_fields kind) j 0 ≡ 0
kept-past kind j h = let s = kept-short kind in get_or-eq_default (kept_fields kind) 0 (omega arith)
