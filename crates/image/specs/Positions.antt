-- Where the walk can stand and where faults are reported: never behind the position that it began at, never past the slice's length.
-- Document 01, "Rule image", the table of faults: "reported at". Assumes nothing.
use Rattle.std.specs.Prelude.{◌≡◌, refl, Bool, true, false, cond, List, ℕ, zero, suc, ◌+◌, ◌-◌, ◌≤◌, ◌<◌, eqb, ltb, leb, length, get_or, Ok, Err}
use Rattle.std.proofs.Common.{subst, ap, arith, le_refl, ltb-true, leb-true}
use Rattle.model.specs.declared.Fault.{Fault}
use Rattle.model.specs.declared.Fault.TheVariants.{EmptyImage, WrongEdition, NoPredicates, ZeroField, LengthField, EndsEarly, FirstClause, ClauseExpected, VariableCount, GoalCount, ArgumentExpected, VariableNumber, GoalExpected, NoSuchPredicate, UnusedVariable, ClauseLength, LeftOver}
use Rattle.model.specs.Answers.{Walk, met, refused_at}
use Rattle.model.specs.declared.Refusal.{Refusal}
use Rattle.model.specs.declared.Refused.{Refused}
use Rattle.model.specs.declared.Refusal.TheVariants.{Image}
use Rattle.model.specs.Fields.{edition, predicate_count, header_zero, image_length, arity, clause_count, first_clause, op, variables, goal_count, clause_length, variable_zero, variable_number, goal_predicate, goal_zero}
use Rattle.model.specs.Image.{onward, variable_at, argument, arguments, predicate_word, goal_word, goal, goals, clause_word, clause_end, clause, clauses, predicate, predicates, header, ending, image_walk, verdict, check_image}

-- on: between the two positions; a fault: not past the second
abbrev pub Between : ℕ → ℕ → Walk → Type 0
Between from most (Ok (at, seen)) = (from ≤ at) × (at ≤ most)
Between from most (Err stop) = stop.1 ≤ most

between-from : (from at most : ℕ) (walk : Walk) → from ≤ at → Between at most walk → Between from most walk
between-from from at most (Ok (next, seen)) h b = (omega arith, b.1)
between-from from at most (Err stop) h b = b

pub between-onward : (from most : ℕ) (next : ℕ → ℕ → Walk) (walk : Walk)
    → ((at seen : ℕ) → at ≤ most → Between at most (next at seen)) → Between from most walk → Between from most (onward next walk)
between-onward from most next (Ok (at, seen)) each b = between-from from at most (next at seen) b.0 (each at seen b.1)
between-onward from most next (Err stop) each b = b

pub between-on : (from most at seen : ℕ) (walk : Walk) → walk ≡ Ok (at, seen) → Between from most walk → (from ≤ at) × (at ≤ most)
between-on from most at seen walk e b = subst (Between from most) e b

-- a walk that takes one thing after another
between-repeat : (most : ℕ) (walk : ℕ → ℕ → ℕ → Walk) (one : ℕ → ℕ → Walk) → ((at seen : ℕ) → walk 0 at seen ≡ Ok (at, seen))
    → ((left at seen : ℕ) → walk (suc left) at seen ≡ onward (walk left) (one at seen))
    → ((at seen : ℕ) → at ≤ most → Between at most (one at seen)) → (left at seen : ℕ) → at ≤ most → Between at most (walk left at seen)
between-repeat most walk one none more each zero at seen h = rw (none at seen) (omega arith)
between-repeat most walk one none more each (suc left) at seen h =
    rw (more left at seen) (between-onward at most (walk left) (one at seen) (between-repeat most walk one none more each left) (each at seen h))

variable-between : (word declared at seen most : ℕ) → at < most → Between at most (variable_at word declared at seen)
unfolding variable_at
variable-between word declared at seen most h =
    go (eqb (variable_zero word) 0) (ltb (variable_number word) declared) (ltb (variable_number word) seen) (eqb (variable_number word) seen)
  where
    go : (zero? declared? below? next? : Bool)
        → Between at most (cond zero? (cond declared? (cond below? (Ok (at + 1, seen)) (cond next? (Ok (at + 1, seen + 1)) (met VariableNumber at))) (met VariableNumber at)) (met ZeroField at))
    go false d b e = omega arith
    go true false b e = omega arith
    go true true true e = omega arith
    go true true false true = omega arith
    go true true false false = omega arith

argument-between : (words : List ℕ) (declared at seen : ℕ) → at ≤ length words → Between at (length words) (argument words declared at seen)
unfolding argument
argument-between words declared at seen h = go (ltb at (length words)) refl (eqb (op (get_or words at 0)) 1) (eqb (op (get_or words at 0)) 2)
  where
    go : (present? : Bool) → ltb at (length words) ≡ present? → (variable? constant? : Bool)
        → Between at (length words) (cond present? (cond variable? (variable_at (get_or words at 0) declared at seen) (cond constant? (Ok (at + 1, seen)) (met ArgumentExpected at))) (met EndsEarly (length words)))
    go false q v c = omega arith
    go true q true c = variable-between (get_or words at 0) declared at seen (length words) (ltb-true at (length words) q)
    go true q false true = let l = ltb-true at (length words) q in omega arith
    go true q false false = omega arith

pub arguments-between : (words : List ℕ) (declared left at seen : ℕ) → at ≤ length words → Between at (length words) (arguments left words declared at seen)
unfolding arguments
arguments-between words declared =
    between-repeat (length words) (λ n. arguments n words declared) (argument words declared) (λ at seen. refl) (λ n at seen. refl) (argument-between words declared)

goal_word-between : (image words : List ℕ) (at seen : ℕ) → at ≤ length words → Between at (length words) (goal_word image words at seen)
unfolding goal_word
goal_word-between image words at seen h =
    go (ltb at (length words)) refl (eqb (op (get_or words at 0)) 9) (eqb (goal_zero (get_or words at 0)) 0) (ltb (goal_predicate (get_or words at 0)) (predicate_count (get_or image 0 0)))
  where
    go : (present? : Bool) → ltb at (length words) ≡ present? → (goal? zero? known? : Bool)
        → Between at (length words) (cond present? (cond goal? (cond zero? (cond known? (Ok (at + 1, seen)) (met NoSuchPredicate at)) (met ZeroField at)) (met GoalExpected at)) (met EndsEarly (length words)))
    go false q g z k = omega arith
    go true q false z k = omega arith
    go true q true false k = omega arith
    go true q true true true = let l = ltb-true at (length words) q in omega arith
    go true q true true false = omega arith

goal-between : (image words : List ℕ) (declared at seen : ℕ) → at ≤ length words → Between at (length words) (goal image words declared at seen)
unfolding goal
goal-between image words declared at seen h =
    let count = arity (predicate_word image (goal_predicate (get_or words at 0))) in
    between-onward at (length words) (arguments count words declared) (goal_word image words at seen) (arguments-between words declared count) (goal_word-between image words at seen h)

pub goals-between : (image words : List ℕ) (declared left at seen : ℕ) → at ≤ length words → Between at (length words) (goals left image words declared at seen)
unfolding goals
goals-between image words declared =
    between-repeat (length words) (λ n. goals n image words declared) (goal image words declared) (λ at seen. refl) (λ n at seen. refl) (goal-between image words declared)

-- a clause's head and goals
pub body-between : (image words : List ℕ) (count declared head_arity at seen : ℕ) → at ≤ length words
    → Between at (length words) (onward (goals count image words declared) (arguments head_arity words declared at seen))
body-between image words count declared head_arity at seen h =
    between-onward at (length words) (goals count image words declared) (arguments head_arity words declared at seen) (goals-between image words declared count) (arguments-between words declared head_arity at seen h)

pub clause_word-between : (words : List ℕ) (fewest at : ℕ) → at ≤ length words → Between at (length words) (clause_word words fewest at)
unfolding clause_word
clause_word-between words fewest at h =
    go (ltb at (length words)) refl (eqb (op (get_or words at 0)) 8) (leb (variables (get_or words at 0)) 32) (leb (goal_count (get_or words at 0)) 16) (leb fewest (goal_count (get_or words at 0)))
  where
    go : (present? : Bool) → ltb at (length words) ≡ present? → (clause? variables? most? least? : Bool)
        → Between at (length words) (cond present? (cond clause? (cond variables? (cond most? (cond least? (Ok (at + 1, 0)) (met GoalCount at)) (met GoalCount at)) (met VariableCount at)) (met ClauseExpected at)) (met EndsEarly (length words)))
    go false q c v m l = omega arith
    go true q false v m l = omega arith
    go true q true false m l = omega arith
    go true q true true false l = omega arith
    go true q true true true true = let l = ltb-true at (length words) q in omega arith
    go true q true true true false = omega arith

-- the walk goes on past a word only if there is one
pub clause_word-present : (words : List ℕ) (fewest at next seen : ℕ) → clause_word words fewest at ≡ Ok (next, seen) → at < length words
unfolding clause_word
clause_word-present words fewest at next seen e = go (ltb at (length words)) refl e
  where
    judged : Walk
    judged =
        cond (eqb (op (get_or words at 0)) 8)
        (cond (leb (variables (get_or words at 0)) 32)
        (cond (leb (goal_count (get_or words at 0)) 16)
        (cond (leb fewest (goal_count (get_or words at 0))) (Ok (at + 1, 0))
        (met GoalCount at))
        (met GoalCount at))
        (met VariableCount at))
        (met ClauseExpected at)

    go : (present? : Bool) → ltb at (length words) ≡ present? → cond present? judged (met EndsEarly (length words)) ≡ Ok (next, seen) → at < length words
    go true q r = ltb-true at (length words) q
    go false q r = let z : ◌≡◌ {A = ℕ} 0 1 = cc in absurd (omega arith)

clause_end-between : (word start at seen most : ℕ) → start ≤ most → at ≤ most → Between at most (clause_end word start at seen)
unfolding clause_end
clause_end-between word start at seen most a b = go (ltb seen (variables word)) (eqb (clause_length word) (at - start))
  where
    go : (unused? length? : Bool) → Between at most (cond unused? (met UnusedVariable start) (cond length? (Ok (at, 0)) (met ClauseLength start)))
    go true l = a
    go false true = omega arith
    go false false = a

clause-between : (image words : List ℕ) (fewest head_arity at : ℕ) → at ≤ length words → Between at (length words) (clause image words fewest head_arity at)
unfolding clause
clause-between image words fewest head_arity at h =
    let word = get_or words at 0 in
    between-onward at (length words) (clause_end word at) (onward (goals (goal_count word) image words (variables word)) (onward (arguments head_arity words (variables word)) (clause_word words fewest at)))
    (λ end seen l. clause_end-between word at end seen (length words) h l)
    (between-onward at (length words) (goals (goal_count word) image words (variables word)) (onward (arguments head_arity words (variables word)) (clause_word words fewest at))
    (goals-between image words (variables word) (goal_count word))
    (between-onward at (length words) (arguments head_arity words (variables word)) (clause_word words fewest at) (arguments-between words (variables word) head_arity) (clause_word-between words fewest at h)))

clauses-between : (image : List ℕ) (head_arity left at seen : ℕ) → at ≤ length image → Between at (length image) (clauses left image head_arity at seen)
unfolding clauses
clauses-between image head_arity =
    between-repeat (length image) (λ n. clauses n image head_arity) (λ at seen. clause image image 0 head_arity at) (λ at seen. refl) (λ n at seen. refl) (λ at seen. clause-between image image 0 head_arity at)

predicate-between : (image : List ℕ) (number at seen : ℕ) → number < length image → at ≤ length image → Between at (length image) (predicate image number at seen)
unfolding predicate
predicate-between image number at seen n h = go (eqb (first_clause (predicate_word image number)) at)
  where
    go : (first? : Bool) → Between at (length image) (cond first? (clauses (clause_count (predicate_word image number)) image (arity (predicate_word image number)) at seen) (met FirstClause (1 + number)))
    go true = clauses-between image (arity (predicate_word image number)) (clause_count (predicate_word image number)) at seen h
    go false = omega arith

predicates-between : (image : List ℕ) (left number at seen : ℕ) → number + left < length image → at ≤ length image → Between at (length image) (predicates left image number at seen)
unfolding predicates
predicates-between image zero number at seen n h = omega arith
predicates-between image (suc left) number at seen n h =
    between-onward at (length image) (predicates left image (suc number)) (predicate image number at seen)
    (λ next found. predicates-between image left (suc number) next found (omega arith)) (predicate-between image number at seen (omega arith) h)

-- what the header's walk gives: a fault within the slice, or the place past all predicate words
data Begun (image : List ℕ) : Walk → Type 0 where
  stopped : {fault : Fault} {at : ℕ} → at ≤ length image → Begun image (met fault at)
  begun : 1 + predicate_count (get_or image 0 0) ≤ length image → Begun image (Ok (1 + predicate_count (get_or image 0 0), 0))

header-begun : (image : List ℕ) → Begun image (header image)
unfolding header
header-begun image =
    go (eqb (length image) 0) (eqb (edition (get_or image 0 0)) 1) (eqb (predicate_count (get_or image 0 0)) 0) (eqb (header_zero (get_or image 0 0)) 0) (eqb (image_length (get_or image 0 0)) (length image))
    (leb (1 + predicate_count (get_or image 0 0)) (length image)) refl
  where
    go : (empty? edition? none? zero? length? : Bool) (all? : Bool) → leb (1 + predicate_count (get_or image 0 0)) (length image) ≡ all? → Begun image
        (cond empty? (met EmptyImage 0)
        (cond edition?
        (cond none? (met NoPredicates 0)
        (cond zero?
        (cond length?
        (cond all? (Ok (1 + predicate_count (get_or image 0 0), 0))
        (met EndsEarly (length image)))
        (met LengthField 0))
        (met ZeroField 0)))
        (met WrongEdition 0)))
    go true e n z l a q = stopped {at = 0} (omega arith)
    go false false n z l a q = stopped {at = 0} (omega arith)
    go false true true z l a q = stopped {at = 0} (omega arith)
    go false true false false l a q = stopped {at = 0} (omega arith)
    go false true false true false a q = stopped {at = 0} (omega arith)
    go false true false true true true q = begun (leb-true (1 + predicate_count (get_or image 0 0)) (length image) q)
    go false true false true true false q = stopped (le_refl (length image))

ending-between : (words : List ℕ) (at seen : ℕ) → at ≤ length words → Between at (length words) (ending words at seen)
unfolding ending
ending-between words at seen h = go (ltb at (length words))
  where
    go : (over? : Bool) → Between at (length words) (cond over? (met LeftOver at) (Ok (at, seen)))
    go true = h
    go false = omega arith

pub image_walk-between : (image : List ℕ) → Between 0 (length image) (image_walk image)
unfolding image_walk
image_walk-between image =
    between-onward 0 (length image) (ending image) (onward (predicates (predicate_count (get_or image 0 0)) image 0) (header image)) (ending-between image) (go (header image) (header-begun image))
  where
    go : (walk : Walk) → Begun image walk → Between 0 (length image) (onward (predicates (predicate_count (get_or image 0 0)) image 0) walk)
    go (Err stop) (stopped h) = h
    go (Ok (at, seen)) (begun h) =
        between-from 0 (1 + predicate_count (get_or image 0 0)) (length image) (predicates (predicate_count (get_or image 0 0)) image 0 (1 + predicate_count (get_or image 0 0)) 0) (omega arith)
        (predicates-between image (predicate_count (get_or image 0 0)) 0 (1 + predicate_count (get_or image 0 0)) 0 (omega arith) h)

-- a refusal of an image is reported within it, or at its length
pub check_image-position : (image : List ℕ) (refusal : Refusal) (at : ℕ) → check_image image ≡ refused_at refusal at → at ≤ length image
unfolding check_image
check_image-position image refusal at e = go (image_walk image) (image_walk-between image) e
  where
    go : (walk : Walk) → Between 0 (length image) walk → verdict Image walk ≡ refused_at refusal at → at ≤ length image
    go (Ok (next, seen)) b q = let z : ◌≡◌ {A = ℕ} 0 1 = cc in absurd (omega arith)
    go (Err stop) b q = let z : ◌≡◌ {A = Refused} (record { 0 = Image stop.0; 1 = stop.1 }) (record { 0 = refusal; 1 = at }) = cc in subst (λ n. n ≤ length image) (ap (λ (r : Refused). r.1) z) b
