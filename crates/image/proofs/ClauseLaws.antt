-- A clause's end is not before its CLAUSE word, and a predicate count has ten bits. Document 01, "A clause is its CLAUSE word, its head arguments, ..".
-- Assumes nothing.
use Rattle.std.proofs.Common.{◌≡◌, sym, ◌∙◌, List, ℕ, ◌≤◌, ◌<◌, arith, length, get_or, Ok}
use Rattle.model.specs.Answers.{Walk}
use Rattle.model.specs.declared.Kind.TheVariants.{Header}
use Rattle.model.specs.Fields.{widths_of, predicate_count, variables, goal_count}
use Rattle.model.specs.Image.{onward, arguments, goals, clause_word}
use Rattle.words.proofs.FieldLaws.{field_lt}
use Rattle.image.specs.Positions.{between-on, body-between, clause_word-between, clause_word-present}

pub clause-forward : (image words : List ℕ) (fewest head_arity at next seen word end last : ℕ) → Ok (next, seen) ≡ clause_word words fewest at
    → Ok (end, last) ≡ onward (goals (goal_count word) image words (variables word)) (arguments head_arity words (variables word) next seen) → at ≤ end
clause-forward image words fewest head_arity at next seen word end last begins body =
    let h = clause_word-present words fewest at next seen (sym begins) in
    let begin = between-on at (length words) next seen (clause_word words fewest at) (sym begins) (clause_word-between words fewest at (omega arith)) in
    let rest = between-on next (length words) end last (onward (goals (goal_count word) image words (variables word)) (arguments head_arity words (variables word) next seen)) (sym body)
    (body-between image words (goal_count word) (variables word) head_arity next seen begin.1) in
    omega arith

-- the predicate count is a field of ten bits
pub predicate_count-lt : (word : ℕ) → predicate_count word < 1024
unfolding widths_of
predicate_count-lt word = field_lt (widths_of Header) word 1
