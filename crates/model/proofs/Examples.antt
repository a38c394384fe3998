-- Document 01, "Bench examples": those marked P, proved together, as one statement over a list. Assumes nothing.
use Rattle.std.specs.Prelude.{Bool, true, false, List, [], ◌∷◌, ℕ, ◌+◌, ◌*◌, T, eqb}
use Rattle.model.specs.Fields.{widths_of, total, below, field}
use Rattle.model.specs.Numbers.{verdict_number}
use Rattle.model.specs.Image.{variable_at, argument, arguments, goal_word, goal, goals, clause_word, clause_end, clause, clauses, predicate, predicates, header, ending, image_walk, query_walk, check_image, check_query}

pub data Example : Type 0 where
  -- the check of an image gives this number
  image : List ℕ → ℕ → Example
  -- the check of a query against an image gives this number
  query : List ℕ → List ℕ → ℕ → Example

unfoldable pub holds : Example → Bool
holds (image words answer) = eqb (verdict_number (check_image words)) answer
holds (query words asked answer) = eqb (verdict_number (check_query words asked)) answer

unfoldable pub all_hold : List Example → Bool
all_hold [] = true
all_hold (example ∷ rest) = elim (holds example) [ true ↦ all_hold rest | false ↦ false ]

-- the image of "The desk program": one predicate of arity 1 with the facts 5 and 6
abbrev pub desk_image : List ℕ
desk_image = 0x10040006 ∷ 0x10040002 ∷ 0x80000002 ∷ 0x20000005 ∷ 0x80000002 ∷ 0x20000006 ∷ []

abbrev pub examples : List Example
examples =
    -- P1 the image above is accepted
    image desk_image 0
    -- P2 edition 2 gives 2 at 0
    ∷ image (0x20040006 ∷ 0x10040002 ∷ 0x80000002 ∷ 0x20000005 ∷ 0x80000002 ∷ 0x20000006 ∷ []) (2 * 4294967296 + 0)
    -- P3 a seventh word gives 5 at 0
    ∷ image (0x10040006 ∷ 0x10040002 ∷ 0x80000002 ∷ 0x20000005 ∷ 0x80000002 ∷ 0x20000006 ∷ 0 ∷ []) (5 * 4294967296 + 0)
    -- P4 clause length 3 in word 2 gives 16 at 2
    ∷ image (0x10040006 ∷ 0x10040002 ∷ 0x80000003 ∷ 0x20000005 ∷ 0x80000002 ∷ 0x20000006 ∷ []) (16 * 4294967296 + 2)
    -- P5 no query words give 38
    ∷ query desk_image [] (38 * 4294967296 + 0)
    ∷ []

pub bench-examples : T (all_hold examples)
unfolding holds all_hold widths_of total below field variable_at argument arguments goal_word goal goals clause_word clause_end clause clauses predicate predicates header ending image_walk query_walk check_image check_query
bench-examples = tt
