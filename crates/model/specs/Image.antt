-- The check of an image and of a query: document 01, "Rule image", from "The check walks" to the query faults.
-- Each definition takes the walk on from a position; the first fault met stops it. Tests at one word stand in the order in which the page gives them.
-- Where the page is silent: a word is judged as the kind expected there, so where another op stands only that is said (8, 11, 13);
-- a clause's length field is only compared, at the clause's end. Assumes nothing.
use Rattle.std.specs.Prelude.{cond, List, ℕ, zero, suc, ◌+◌, ◌-◌, eqb, ltb, leb, length, get_or, Ok, Err}
use Rattle.model.specs.declared.Fault.{Fault}
use Rattle.model.specs.declared.Fault.TheVariants.{EmptyImage, WrongEdition, NoPredicates, ZeroField, LengthField, EndsEarly, FirstClause, ClauseExpected, VariableCount, GoalCount, ArgumentExpected, VariableNumber, GoalExpected, NoSuchPredicate, UnusedVariable, ClauseLength, LeftOver}
use Rattle.model.specs.Answers.{Verdict, Walk, met, refused_at}
use Rattle.model.specs.declared.Refusal.{Refusal}
use Rattle.model.specs.declared.Refusal.TheVariants.{Image, Query}
use Rattle.model.specs.Fields.{edition, predicate_count, header_zero, image_length, arity, clause_count, first_clause, op, variables, goal_count, clause_length, variable_zero, variable_number, goal_predicate, goal_zero}

-- "the first fault met decides": what comes next is walked only where none was met
abbrev pub onward : (ℕ → ℕ → Walk) → Walk → Walk
onward next (Ok (at, seen)) = next at seen
onward next (Err stop) = Err stop

-- the word at a position is judged, if there is one: fault 6, reported at the slice's length
abbrev pub present : List ℕ → ℕ → Walk → Walk
present words at judged = cond (ltb at (length words)) judged (met EndsEarly (length words))

-- a VAR word: "4 a zero field is not zero", then "12 variable number not below the declared count, or above the number seen so far"
unfoldable pub variable_at : ℕ → ℕ → ℕ → ℕ → Walk
variable_at word declared at seen =
    cond (eqb (variable_zero word) 0)
    (cond (ltb (variable_number word) declared)
    (cond (ltb (variable_number word) seen) (Ok (at + 1, seen))
    (cond (eqb (variable_number word) seen) (Ok (at + 1, seen + 1))
    (met VariableNumber at)))
    (met VariableNumber at))
    (met ZeroField at)

-- an argument word: op 1 or 2, tested before its zero field
unfoldable pub argument : List ℕ → ℕ → ℕ → ℕ → Walk
argument words declared at seen =
    present words at
    (cond (eqb (op (get_or words at 0)) 1) (variable_at (get_or words at 0) declared at seen)
    (cond (eqb (op (get_or words at 0)) 2) (Ok (at + 1, seen))
    (met ArgumentExpected at)))

unfoldable pub arguments : ℕ → List ℕ → ℕ → ℕ → ℕ → Walk
arguments zero words declared at seen = Ok (at, seen)
arguments (suc count) words declared at seen = onward (arguments count words declared) (argument words declared at seen)

-- predicate words stand after the header
abbrev pub predicate_word : List ℕ → ℕ → ℕ
predicate_word image predicate = get_or image (1 + predicate) 0

-- a GOAL word: op 9, tested before its zero field; then its predicate
unfoldable pub goal_word : List ℕ → List ℕ → ℕ → ℕ → Walk
goal_word image words at seen =
    present words at
    (cond (eqb (op (get_or words at 0)) 9)
    (cond (eqb (goal_zero (get_or words at 0)) 0)
    (cond (ltb (goal_predicate (get_or words at 0)) (predicate_count (get_or image 0 0))) (Ok (at + 1, seen))
    (met NoSuchPredicate at))
    (met ZeroField at))
    (met GoalExpected at))

-- a goal: its word, then as many arguments as its predicate's arity
unfoldable pub goal : List ℕ → List ℕ → ℕ → ℕ → ℕ → Walk
goal image words declared at seen =
    onward (arguments (arity (predicate_word image (goal_predicate (get_or words at 0)))) words declared) (goal_word image words at seen)

unfoldable pub goals : ℕ → List ℕ → List ℕ → ℕ → ℕ → ℕ → Walk
goals zero image words declared at seen = Ok (at, seen)
goals (suc count) image words declared at seen = onward (goals count image words declared) (goal image words declared at seen)

-- a CLAUSE word: op 8, "9 variables over 32", "10 goals over 16; in a query also 0"
unfoldable pub clause_word : List ℕ → ℕ → ℕ → Walk
clause_word words fewest at =
    present words at
    (cond (eqb (op (get_or words at 0)) 8)
    (cond (leb (variables (get_or words at 0)) 32)
    (cond (leb (goal_count (get_or words at 0)) 16)
    (cond (leb fewest (goal_count (get_or words at 0))) (Ok (at + 1, 0))
    (met GoalCount at))
    (met GoalCount at))
    (met VariableCount at))
    (met ClauseExpected at))

-- "15 a declared variable never appears", then "16 clause length wrong", both at the CLAUSE word
unfoldable pub clause_end : ℕ → ℕ → ℕ → ℕ → Walk
clause_end word start at seen =
    cond (ltb seen (variables word)) (met UnusedVariable start)
    (cond (eqb (clause_length word) (at - start)) (Ok (at, 0))
    (met ClauseLength start))

-- "a clause is its CLAUSE word, its head arguments, then each GOAL word with its arguments"
unfoldable pub clause : List ℕ → List ℕ → ℕ → ℕ → ℕ → Walk
clause image words fewest head_arity at =
    onward (clause_end (get_or words at 0) at)
    (onward (goals (goal_count (get_or words at 0)) image words (variables (get_or words at 0)))
    (onward (arguments head_arity words (variables (get_or words at 0)))
    (clause_word words fewest at)))

unfoldable pub clauses : ℕ → List ℕ → ℕ → ℕ → ℕ → Walk
clauses zero image head_arity at seen = Ok (at, seen)
clauses (suc count) image head_arity at seen = onward (clauses count image head_arity) (clause image image 0 head_arity at)

-- "for each predicate its position and its clauses"
unfoldable pub predicate : List ℕ → ℕ → ℕ → ℕ → Walk
predicate image number at seen =
    cond (eqb (first_clause (predicate_word image number)) at)
    (clauses (clause_count (predicate_word image number)) image (arity (predicate_word image number)) at seen)
    (met FirstClause (1 + number))

unfoldable pub predicates : ℕ → List ℕ → ℕ → ℕ → ℕ → Walk
predicates zero image number at seen = Ok (at, seen)
predicates (suc count) image number at seen = onward (predicates count image (suc number)) (predicate image number at seen)

-- "header, presence of all predicate words"
unfoldable pub header : List ℕ → Walk
header image =
    cond (eqb (length image) 0) (met EmptyImage 0)
    (cond (eqb (edition (get_or image 0 0)) 1)
    (cond (eqb (predicate_count (get_or image 0 0)) 0) (met NoPredicates 0)
    (cond (eqb (header_zero (get_or image 0 0)) 0)
    (cond (eqb (image_length (get_or image 0 0)) (length image))
    (cond (leb (1 + predicate_count (get_or image 0 0)) (length image)) (Ok (1 + predicate_count (get_or image 0 0), 0))
    (met EndsEarly (length image)))
    (met LengthField 0))
    (met ZeroField 0)))
    (met WrongEdition 0))

-- "then the end": 17 at the first word left over
unfoldable pub ending : List ℕ → ℕ → ℕ → Walk
ending words at seen = cond (ltb at (length words)) (met LeftOver at) (Ok (at, seen))

unfoldable pub image_walk : List ℕ → Walk
image_walk image = onward (ending image) (onward (predicates (predicate_count (get_or image 0 0)) image 0) (header image))

-- "a query is one clause of arity 0, alone, with 1 to 16 goals"
unfoldable pub query_walk : List ℕ → List ℕ → Walk
query_walk image query = onward (ending query) (clause image query 1 0 0)

abbrev pub verdict : (Fault → Refusal) → Walk → Verdict
verdict whose (Ok (at, seen)) = Ok tt
verdict whose (Err stop) = refused_at (whose stop.0) stop.1

unfoldable pub check_image : List ℕ → Verdict
check_image image = verdict Image (image_walk image)

abbrev pub if_legal : Verdict → Verdict → Verdict
if_legal (Ok u) next = next
if_legal (Err stop) next = Err stop

-- the image is judged first
unfoldable pub check_query : List ℕ → List ℕ → Verdict
check_query image query = if_legal (check_image image) (verdict Query (query_walk image query))
