-- Every word of a legal image after the predicates has a known op, and 0 in its zero field: the check passes over no word. Assumes nothing.
use Rattle.std.specs.Prelude.{◌≡◌, Bool, cond, List, eqb, ltb, leb, length, Ok, Err}
use Rattle.std.proofs.Math.Path.{refl}
use Rattle.std.proofs.Common.{subst, arith, eqb-true, ltb-true, ltb-false}
use Rattle.std.proofs.Math.Bool.{true, false}
use Prim.Native.Nat.{ℕ, zero, suc, ◌+◌, ◌-◌, ◌≤◌, ◌<◌}
use Rattle.std.proofs.Math.ListN.{get_or}
use Rattle.model.specs.declared.Fault.TheVariants.{ZeroField, EndsEarly, ArgumentExpected, VariableNumber, GoalExpected, NoSuchPredicate, VariableCount, GoalCount, ClauseExpected, UnusedVariable, ClauseLength, FirstClause}
use Rattle.model.specs.Answers.{Walk, met}
use Rattle.model.specs.Fields.{op, variable_zero, variable_number, goal_zero, goal_predicate, predicate_count, arity, variables, goal_count, clause_length, clause_count, first_clause}
use Rattle.model.specs.Image.{onward, predicate_word, variable_at, argument, arguments, goal_word, goal, goals, clause_word, clause_end, clause, clauses, predicate, predicates}
use Rattle.model.specs.Spread.{known_op, kind_of_op}
use Rattle.spread.specs.WordLaws.{ZeroFields}

-- a word with a known op and 0 in the zero field of its kind
unfoldable pub Fine : ℕ → Type 0
Fine word = (known_op (op word) ≡ true) × ZeroFields (kind_of_op (op word)) word

fine-variable : (word : ℕ) → op word ≡ 1 → variable_zero word ≡ 0 → Fine word
unfolding Fine known_op kind_of_op ZeroFields
fine-variable word o z = rw o (refl, z)

fine-constant : (word : ℕ) → op word ≡ 2 → Fine word
unfolding Fine known_op kind_of_op ZeroFields
fine-constant word o = rw o (refl, tt)

fine-clause : (word : ℕ) → op word ≡ 8 → Fine word
unfolding Fine known_op kind_of_op ZeroFields
fine-clause word o = rw o (refl, tt)

fine-goal : (word : ℕ) → op word ≡ 9 → goal_zero word ≡ 0 → Fine word
unfolding Fine known_op kind_of_op ZeroFields
fine-goal word o z = rw o (refl, z)

below_or_not : {A : Type 0} (i at : ℕ) → (i < at → A) → (at ≤ i → A) → A
below_or_not {A} i at f g = go (ltb i at) refl
  where
    go : (below? : Bool) → ltb i at ≡ below? → A
    go true q = f (ltb-true i at q)
    go false q = g (ltb-false i at q)

module _ (words : List ℕ) where
  -- where the walk goes on, the words that it passed are fine
  abbrev pub Checked : ℕ → Walk → Type 0
  Checked from (Ok (at, seen)) = (i : ℕ) → from ≤ i → i < at → Fine (get_or words i 0)
  Checked from (Err stop) = Unit {0}

  checked-from : (from at : ℕ) (walk : Walk) → ((i : ℕ) → from ≤ i → i < at → Fine (get_or words i 0)) → Checked at walk → Checked from walk
  checked-from from at (Ok (end, seen)) f g = λ i l h. below_or_not i at (λ b. f i l b) (λ b. g i b h)
  checked-from from at (Err stop) f g = tt

  checked-onward : (from : ℕ) (next : ℕ → ℕ → Walk) (walk : Walk) → ((at seen : ℕ) → Checked at (next at seen)) → Checked from walk → Checked from (onward next walk)
  checked-onward from next (Ok (at, seen)) n f = checked-from from at (next at seen) f (n at seen)
  checked-onward from next (Err stop) n f = tt

  checked-word : (at seen : ℕ) → Fine (get_or words at 0) → Checked at (Ok (at + 1, seen))
  checked-word at seen f = λ i l h. let e : at ≡ i = omega arith in subst (λ (n : ℕ). Fine (get_or words n 0)) e f

  checked-none : (at seen : ℕ) → Checked at (Ok (at, seen))
  checked-none at seen = λ i l h. absurd (omega arith)

  repeat-checked : (walk : ℕ → ℕ → ℕ → Walk) (one : ℕ → ℕ → Walk) → ((at seen : ℕ) → walk 0 at seen ≡ Ok (at, seen))
      → ((left at seen : ℕ) → walk (suc left) at seen ≡ onward (walk left) (one at seen))
      → ((at seen : ℕ) → Checked at (one at seen)) → (left at seen : ℕ) → Checked at (walk left at seen)
  repeat-checked walk one none more each zero at seen = rw (none at seen) (checked-none at seen)
  repeat-checked walk one none more each (suc left) at seen =
      rw (more left at seen) (checked-onward at (walk left) (one at seen) (repeat-checked walk one none more each left) (each at seen))

  variable-checked : (declared at seen : ℕ) → op (get_or words at 0) ≡ 1 → Checked at (variable_at (get_or words at 0) declared at seen)
  unfolding variable_at
  variable-checked declared at seen o = go (eqb (variable_zero word) 0) refl (ltb n declared) (ltb n seen) (eqb n seen)
    where
      word : ℕ
      word = get_or words at 0

      n : ℕ
      n = variable_number word

      go : (zero? : Bool) → eqb (variable_zero word) 0 ≡ zero? → (declared? below? next? : Bool)
          → Checked at (cond zero? (cond declared? (cond below? (Ok (at + 1, seen)) (cond next? (Ok (at + 1, seen + 1)) (met VariableNumber at))) (met VariableNumber at)) (met ZeroField at))
      go false z d b e = tt
      go true z false b e = tt
      go true z true true e = checked-word at seen (fine-variable word o (eqb-true (variable_zero word) 0 z))
      go true z true false true = checked-word at (seen + 1) (fine-variable word o (eqb-true (variable_zero word) 0 z))
      go true z true false false = tt

  argument-checked : (declared at seen : ℕ) → Checked at (argument words declared at seen)
  unfolding argument
  argument-checked declared at seen = go (ltb at (length words)) (eqb (op word) 1) refl (eqb (op word) 2) refl
    where
      word : ℕ
      word = get_or words at 0

      go : (present? variable? : Bool) → eqb (op word) 1 ≡ variable? → (constant? : Bool) → eqb (op word) 2 ≡ constant?
          → Checked at (cond present? (cond variable? (variable_at word declared at seen) (cond constant? (Ok (at + 1, seen)) (met ArgumentExpected at))) (met EndsEarly (length words)))
      go false v q c r = tt
      go true true q c r = variable-checked declared at seen (eqb-true (op word) 1 q)
      go true false q true r = checked-word at seen (fine-constant word (eqb-true (op word) 2 r))
      go true false q false r = tt

  arguments-checked : (declared left at seen : ℕ) → Checked at (arguments left words declared at seen)
  unfolding arguments
  arguments-checked declared = repeat-checked (λ n. arguments n words declared) (argument words declared) (λ at seen. refl) (λ n at seen. refl) (argument-checked declared)

  goal_word-checked : (image : List ℕ) (at seen : ℕ) → Checked at (goal_word image words at seen)
  unfolding goal_word
  goal_word-checked image at seen =
      go (ltb at (length words)) (eqb (op word) 9) refl (eqb (goal_zero word) 0) refl (ltb (goal_predicate word) (predicate_count (get_or image 0 0)))
    where
      word : ℕ
      word = get_or words at 0

      go : (present? goal? : Bool) → eqb (op word) 9 ≡ goal? → (zero? : Bool) → eqb (goal_zero word) 0 ≡ zero? → (known? : Bool)
          → Checked at (cond present? (cond goal? (cond zero? (cond known? (Ok (at + 1, seen)) (met NoSuchPredicate at)) (met ZeroField at)) (met GoalExpected at)) (met EndsEarly (length words)))
      go false g q z r k = tt
      go true false q z r k = tt
      go true true q false r k = tt
      go true true q true r true = checked-word at seen (fine-goal word (eqb-true (op word) 9 q) (eqb-true (goal_zero word) 0 r))
      go true true q true r false = tt

  goal-checked : (image : List ℕ) (declared at seen : ℕ) → Checked at (goal image words declared at seen)
  unfolding goal
  goal-checked image declared at seen =
      let count = arity (predicate_word image (goal_predicate (get_or words at 0))) in
      checked-onward at (arguments count words declared) (goal_word image words at seen) (arguments-checked declared count) (goal_word-checked image at seen)

  goals-checked : (image : List ℕ) (declared left at seen : ℕ) → Checked at (goals left image words declared at seen)
  unfolding goals
  goals-checked image declared = repeat-checked (λ n. goals n image words declared) (goal image words declared) (λ at seen. refl) (λ n at seen. refl) (goal-checked image declared)

  clause_word-checked : (fewest at : ℕ) → Checked at (clause_word words fewest at)
  unfolding clause_word
  clause_word-checked fewest at =
      go (ltb at (length words)) (eqb (op word) 8) refl (leb (variables word) 32) (leb (goal_count word) 16) (leb fewest (goal_count word))
    where
      word : ℕ
      word = get_or words at 0

      go : (present? clause? : Bool) → eqb (op word) 8 ≡ clause? → (variables? most? least? : Bool)
          → Checked at (cond present? (cond clause? (cond variables? (cond most? (cond least? (Ok (at + 1, 0)) (met GoalCount at)) (met GoalCount at)) (met VariableCount at)) (met ClauseExpected at)) (met EndsEarly (length words)))
      go false c q v m l = tt
      go true false q v m l = tt
      go true true q false m l = tt
      go true true q true false l = tt
      go true true q true true true = checked-word at 0 (fine-clause word (eqb-true (op word) 8 q))
      go true true q true true false = tt

  clause_end-checked : (word start at seen : ℕ) → Checked at (clause_end word start at seen)
  unfolding clause_end
  clause_end-checked word start at seen = go (ltb seen (variables word)) (eqb (clause_length word) (at - start))
    where
      go : (unused? length? : Bool) → Checked at (cond unused? (met UnusedVariable start) (cond length? (Ok (at, 0)) (met ClauseLength start)))
      go true l = tt
      go false true = checked-none at 0
      go false false = tt

  clause-checked : (image : List ℕ) (fewest head_arity at : ℕ) → Checked at (clause image words fewest head_arity at)
  unfolding clause
  clause-checked image fewest head_arity at =
      let word = get_or words at 0 in
      let head = onward (arguments head_arity words (variables word)) (clause_word words fewest at) in
      checked-onward at (clause_end word at) (onward (goals (goal_count word) image words (variables word)) head) (clause_end-checked word at)
      (checked-onward at (goals (goal_count word) image words (variables word)) head (goals-checked image (variables word) (goal_count word))
      (checked-onward at (arguments head_arity words (variables word)) (clause_word words fewest at) (arguments-checked (variables word) head_arity) (clause_word-checked fewest at)))

module _ (image : List ℕ) where
  clauses-checked : (head_arity left at seen : ℕ) → Checked image at (clauses left image head_arity at seen)
  unfolding clauses
  clauses-checked head_arity =
      repeat-checked image (λ n. clauses n image head_arity) (λ at seen. clause image image 0 head_arity at) (λ at seen. refl) (λ n at seen. refl) (λ at seen. clause-checked image image 0 head_arity at)

  predicate-checked : (number at seen : ℕ) → Checked image at (predicate image number at seen)
  unfolding predicate
  predicate-checked number at seen = go (eqb (first_clause word) at)
    where
      word : ℕ
      word = predicate_word image number

      go : (here? : Bool) → Checked image at (cond here? (clauses (clause_count word) image (arity word) at seen) (met FirstClause (1 + number)))
      go true = clauses-checked (arity word) (clause_count word) at seen
      go false = tt

  pub predicates-checked : (count number at seen : ℕ) → Checked image at (predicates count image number at seen)
  unfolding predicates
  predicates-checked zero number at seen = checked-none image at seen
  predicates-checked (suc count) number at seen =
      checked-onward image at (predicates count image (suc number)) (predicate image number at seen) (predicates-checked count (suc number)) (predicate-checked number at seen)
