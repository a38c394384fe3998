-- The CLAUSE word: its fields, and what the walk's tests at it and at the clause's end say. Document 01, "Rule image", CLAUSE, faults 6, 8, 9, 10, 15 and 16. Assumes nothing.
use Rattle.std.specs.Prelude.{◌≡◌, refl, List, [], ◌∷◌, ℕ, ◌+◌, ◌-◌, ◌≤◌, ◌<◌, eqb, ltb, leb, length, get_or}
use Rattle.std.proofs.Common.{sym, arith, eqb-true, eq-eqb, ltb-true, ltb-false, lt-ltb, le-ltb, leb-true, le-leb, Ok}
use Rattle.model.specs.declared.Kind.TheVariants.{Clause as ClauseWord}
use Rattle.model.specs.declared.Fault.TheVariants.{EndsEarly, ClauseExpected, VariableCount, GoalCount, UnusedVariable, ClauseLength}
use Rattle.model.specs.Answers.{met}
use Rattle.model.specs.Fields.{widths_of, total, below, field, join, op, variables, goal_count, clause_length}
use Rattle.model.specs.Image.{clause_word, clause_end}
use Rattle.model.specs.Encoding.{Word}
use Rattle.words.specs.FieldLaws.{fields_from}
use Rattle.words.proofs.FieldLaws.{field-join, join-field}
use Rattle.meaning.proofs.Walks.{cond-held, cond-failed, same_place}
use Rattle.meaning.specs.ClauseWords.{ClauseFields}

pub clause-fields : (own count size : ℕ) → own ≤ 32 → count ≤ 16 → size < 65536 → ClauseFields (join (widths_of ClauseWord) (8 ∷ own ∷ count ∷ size ∷ [])) own count size
unfolding widths_of field below total
clause-fields own count size h k l =
    let read = field-join (widths_of ClauseWord) (8 ∷ own ∷ count ∷ size ∷ []) (omega arith) in
    record { is_op = read 0; is_vars = read 1; is_count = read 2; is_size = read 3 }

pub clause-word : (word : ℕ) → Word word → op word ≡ 8 → word ≡ join (widths_of ClauseWord) (8 ∷ variables word ∷ goal_count word ∷ clause_length word ∷ [])
unfolding widths_of field below total fields_from
clause-word word h e = sym (rw e at (join-field (widths_of ClauseWord) word h))

-- a CLAUSE word at which no fault was met
pub record ClauseFound (words : List ℕ) (fewest at end after : ℕ) : Type 0 where
  pub there : at < length words
  pub is_op : op (get_or words at 0) ≡ 8
  pub few_vars : variables (get_or words at 0) ≤ 32
  pub few_goals : goal_count (get_or words at 0) ≤ 16
  pub enough : fewest ≤ goal_count (get_or words at 0)
  pub ends : end ≡ at + 1
  pub counted : after ≡ 0

pub clause_word-sound : (words : List ℕ) (fewest at : ℕ) {end after : ℕ} → clause_word words fewest at ≡ Ok (end, after) → ClauseFound words fewest at end after
unfolding clause_word
clause_word-sound words fewest at e =
    let there = cond-held (ltb at (length words)) EndsEarly (length words) e in
    let eight = cond-held (eqb (op (get_or words at 0)) 8) ClauseExpected at there.1 in
    let own = cond-held (leb (variables (get_or words at 0)) 32) VariableCount at eight.1 in
    let most = cond-held (leb (goal_count (get_or words at 0)) 16) GoalCount at own.1 in
    let least = cond-held (leb fewest (goal_count (get_or words at 0))) GoalCount at most.1 in
    let s = same_place least.1 in
    record {
      there = ltb-true at (length words) there.0;
      is_op = eqb-true (op (get_or words at 0)) 8 eight.0;
      few_vars = leb-true (variables (get_or words at 0)) 32 own.0;
      few_goals = leb-true (goal_count (get_or words at 0)) 16 most.0;
      enough = leb-true fewest (goal_count (get_or words at 0)) least.0;
      ends = s.0;
      counted = s.1;
    }

-- a clause's end at which no fault was met
pub record EndFound (word start at seen end after : ℕ) : Type 0 where
  pub used : variables word ≤ seen
  pub is_size : clause_length word ≡ at - start
  pub ends : end ≡ at
  pub counted : after ≡ 0

pub clause_end-sound : (word start at seen : ℕ) {end after : ℕ} → clause_end word start at seen ≡ Ok (end, after) → EndFound word start at seen end after
unfolding clause_end
clause_end-sound word start at seen e =
    let used = cond-failed (ltb seen (variables word)) UnusedVariable start e in
    let size = cond-held (eqb (clause_length word) (at - start)) ClauseLength start used.1 in
    let s = same_place size.1 in
    record { used = ltb-false seen (variables word) used.0; is_size = eqb-true (clause_length word) (at - start) size.0; ends = s.0; counted = s.1 }

-- the walk finds no fault at a CLAUSE word with these fields
pub clause_word-complete : (words : List ℕ) (fewest at : ℕ) {own count size : ℕ} → ClauseFields (get_or words at 0) own count size → at < length words → own ≤ 32 → count ≤ 16 → fewest ≤ count
    → clause_word words fewest at ≡ Ok (at + 1, 0)
unfolding clause_word
clause_word-complete words fewest at {own} {count} f there few most least =
    rw (lt-ltb at (length words) there, f.is_op, f.is_vars, le-leb own 32 few, f.is_count, le-leb count 16 most, le-leb fewest count least) refl

-- nor where so many words end, with all variables seen
pub clause_end-complete : (word start : ℕ) {own count size : ℕ} → ClauseFields word own count size → clause_end word start (start + size) own ≡ Ok (start + size, 0)
unfolding clause_end
clause_end-complete word start {own} {count} {size} f = rw (f.is_vars, f.is_size, le-ltb own own (omega arith), eq-eqb size (start + size - start) (omega arith)) refl
