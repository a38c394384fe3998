-- Goals: the walk over them finds no fault exactly where the encoding of well-formed goals stands, and decoding gives them back. Document 01, "Rule image", GOAL, faults 4, 6, 13 and 14. Assumes nothing.
use Rattle.std.specs.Prelude.{◌≡◌, eqb, ltb, get_or}
use Rattle.std.proofs.Math.Path.{refl, sym, ap, ap₂}
use Rattle.std.proofs.Common.{◌∙◌, Ok}
use mathlib.Core.List.{List, [], ◌∷◌, map, flat_map}
use Prim.Native.Nat.{ℕ, zero, suc, ◌+◌, ◌≤◌, ◌<◌}
use native.Mathlib.Omega.{arith}
use Rattle.std.proofs.Math.Nat.{add-zero}
use Rattle.std.proofs.Math.ListN.{length}
use Rattle.std.proofs.lemmas.List.{length-map}
use borrow.Author.Tests.{eqb-true, ltb-true, lt-ltb}
use Rattle.model.specs.declared.Kind.TheVariants.{Goal as GoalWord}
use Rattle.model.specs.declared.Fault.TheVariants.{ZeroField, EndsEarly, GoalExpected, NoSuchPredicate}
use Rattle.model.specs.Answers.{Walk, met}
use Rattle.model.specs.Fields.{widths_of, total, below, field, predicate_count, arity, op, goal_predicate, goal_zero}
use Rattle.model.specs.Image.{onward, predicate_word, arguments, goal_word, goal, goals}
use Rattle.model.specs.Rules.{Argument, Goal, call, Rules}
use Rattle.model.specs.Encoding.{Word, Words, Each, encode_arg, encode_call, encode_goal, goal_args, arity_of, WellFormedGoal, seen_after}
use Rattle.model.specs.Decoding.{decode_args, goal_next, decode_goal, decode_goals}
use Rattle.words.specs.FieldLaws.{fields_from}
use Rattle.words.proofs.FieldLaws.{field-join, join-field}
use Rattle.meaning.specs.Stands.{Stands}
use Rattle.meaning.proofs.Walks.{cond-held, onward-passed, same_place}
use Rattle.meaning.specs.Reading.{Read}
use Rattle.meaning.proofs.Reading.{read-append, read_left, read_right}
use Rattle.meaning.proofs.Arguments.{arguments-complete, arguments-decode, arguments_sound, length-decode_args}

-- what an image says of a program's predicates where a goal is judged: how many there are, and their arities
pub record Declares (image : List ℕ) (program : Rules) : Type 0 where
  pub count : predicate_count (get_or image 0 0) ≡ length program
  pub few : length program ≤ 1023
  pub narrow : (predicate : ℕ) → arity_of program predicate ≤ 15
  pub arities : (predicate : ℕ) → predicate < length program → arity (predicate_word image predicate) ≡ arity_of program predicate

-- the fields of a GOAL word
pub record GoalFields (word predicate : ℕ) : Type 0 where
  pub is_op : op word ≡ 9
  pub is_predicate : goal_predicate word ≡ predicate
  pub is_zero : goal_zero word ≡ 0

pub goal-fields : (predicate : ℕ) → predicate < 1024 → GoalFields (encode_call predicate) predicate
unfolding widths_of field below total
goal-fields predicate h =
    let read = field-join (widths_of GoalWord) (9 ∷ predicate ∷ 0 ∷ []) (omega arith) in
    record { is_op = read 0; is_predicate = read 1; is_zero = read 2 }

pub goal-word : (word : ℕ) → Word word → op word ≡ 9 → goal_zero word ≡ 0 → word ≡ encode_call (goal_predicate word)
unfolding widths_of field below total fields_from
goal-word word h e z = sym (rw (e, z) at (join-field (widths_of GoalWord) word h))

-- a GOAL word at which no fault was met
pub record GoalFound (image words : List ℕ) (at seen end after : ℕ) : Type 0 where
  pub there : at < length words
  pub is_op : op (get_or words at 0) ≡ 9
  pub is_zero : goal_zero (get_or words at 0) ≡ 0
  pub exists : goal_predicate (get_or words at 0) < predicate_count (get_or image 0 0)
  pub ends : end ≡ at + 1
  pub counted : after ≡ seen

pub goal_word-sound : (image words : List ℕ) (at seen : ℕ) {end after : ℕ} → goal_word image words at seen ≡ Ok (end, after) → GoalFound image words at seen end after
unfolding goal_word
goal_word-sound image words at seen {end} {after} e =
    let there = cond-held (ltb at (length words)) EndsEarly (length words) e in
    let nine = cond-held (eqb (op (get_or words at 0)) 9) GoalExpected at there.1 in
    let zeros = cond-held (eqb (goal_zero (get_or words at 0)) 0) ZeroField at nine.1 in
    let known = cond-held (ltb (goal_predicate (get_or words at 0)) (predicate_count (get_or image 0 0))) NoSuchPredicate at zeros.1 in
    let s = same_place known.1 in
    record {
      there = ltb-true at (length words) there.0;
      is_op = eqb-true (op (get_or words at 0)) 9 nine.0;
      is_zero = eqb-true (goal_zero (get_or words at 0)) 0 zeros.0;
      exists = ltb-true (goal_predicate (get_or words at 0)) (predicate_count (get_or image 0 0)) known.0;
      ends = s.0;
      counted = s.1;
    }

-- the place after a goal is where its encoding ends
pub goal_next-is : (image words : List ℕ) (at : ℕ) → goal_next image words at ≡ at + length (encode_goal (decode_goal image words at))
unfolding goal_next encode_goal decode_goal
goal_next-is image words at =
    let args = arity (predicate_word image (goal_predicate (get_or words at 0))) in
    omega (arith, length-map (decode_args args words (at + 1)) encode_arg, length-decode_args args words (at + 1))

module _ {image : List ℕ} {program : Rules} (known : Declares image program) (words : List ℕ) where
  -- what is read where a goal's encoding stands
  pub goal-here : (predicate : ℕ) (args : List Argument) (at : ℕ) → WellFormedGoal program (call predicate args) → Stands words at (encode_goal (call predicate args))
      → GoalFields (get_or words at 0) predicate × (arity (predicate_word image (goal_predicate (get_or words at 0))) ≡ length args)
  unfolding encode_goal
  goal-here predicate args at good h =
      let f : GoalFields (get_or words at 0) predicate = rw h.1 (goal-fields predicate (omega (arith, good.0, known.few))) in
      (f, ap (λ (k : ℕ). arity (predicate_word image k)) f.is_predicate ∙ known.arities predicate good.0 ∙ sym good.1)

  pub goal-complete : (one : Goal) {declared at seen end after : ℕ} → declared ≤ 64 → WellFormedGoal program one → Read words (encode_goal one) (goal_args one) declared at seen end after
      → goal image words declared at seen ≡ Ok (end, after)
  unfolding goal goal_word encode_goal goal_args seen_after
  goal-complete (call predicate args) {declared} {at} {seen} few good r =
      let f = goal-here predicate args at good r.stands in
      let rest = read_right (encode_call predicate ∷ []) (map encode_arg args) [] args r in
      let w : goal_word image words at seen ≡ Ok (at + 1, seen) =
      rw (lt-ltb at (length words) r.stands.0, f.0.is_op, f.0.is_zero, f.0.is_predicate, known.count, lt-ltb predicate (length program) good.0) refl in
      ap₂ (λ (n : ℕ) (walk : Walk). onward (arguments n words declared) walk) f.1 w ∙ arguments-complete args few rest

  pub goal-decode : (one : Goal) {declared at seen end after : ℕ} → declared ≤ 64 → WellFormedGoal program one → Read words (encode_goal one) (goal_args one) declared at seen end after
      → decode_goal image words at ≡ one
  unfolding decode_goal encode_goal goal_args seen_after
  goal-decode (call predicate args) {declared} {at} {seen} few good r =
      let f = goal-here predicate args at good r.stands in
      let rest = read_right (encode_call predicate ∷ []) (map encode_arg args) [] args r in
      ap₂ (λ (k : ℕ) (l : List Argument). call k l) f.0.is_predicate (ap (λ (n : ℕ). decode_args n words (at + 1)) f.1 ∙ arguments-decode args few rest)

  pub goal-sound : Words words → (declared at seen : ℕ) {end after : ℕ} → seen ≤ declared → goal image words declared at seen ≡ Ok (end, after)
      → Read words (encode_goal (decode_goal image words at)) (goal_args (decode_goal image words at)) declared at seen end after × WellFormedGoal program (decode_goal image words at)
  unfolding goal decode_goal encode_goal goal_args seen_after
  goal-sound small declared at seen few e =
      let predicate = goal_predicate (get_or words at 0) in
      let count = arity (predicate_word image predicate) in
      let p = onward-passed (arguments count words declared) (goal_word image words at seen) e in
      let w = goal_word-sound image words at seen p.before in
      let rest = arguments_sound count words small declared (at + 1) seen few (rw (w.ends, w.counted) at p.behind) in
      let word : Read words (encode_call predicate ∷ []) [] declared at seen (at + 1) seen =
      record { stands = (w.there, goal-word (get_or words at 0) (small at) w.is_op w.is_zero, tt); ends = refl; numbered = tt; counted = refl; kept = few } in
      let exists : predicate < length program = omega (arith, w.exists, known.count) in (
        read-append (encode_call predicate ∷ []) (map encode_arg (decode_args count words (at + 1))) [] (decode_args count words (at + 1)) word refl rest,
        (exists, length-decode_args count words (at + 1) ∙ known.arities predicate exists),
      )

  -- the walk finds no fault where the encoding of well-formed goals stands
  pub goals-complete : (all : List Goal) {declared at seen end after : ℕ} → declared ≤ 64 → Each (WellFormedGoal program) all
      → Read words (flat_map encode_goal all) (flat_map goal_args all) declared at seen end after → goals (length all) image words declared at seen ≡ Ok (end, after)
  unfolding goals flat_map seen_after
  goals-complete [] {at = at} few good r = let e = r.ends in let x = add-zero at in let k = r.counted in cc
  goals-complete (one ∷ all) {declared} {at} {seen} few good r =
      let first = read_left (encode_goal one) (flat_map encode_goal all) (goal_args one) (flat_map goal_args all) r in
      let rest = read_right (encode_goal one) (flat_map encode_goal all) (goal_args one) (flat_map goal_args all) r in
      ap (onward (goals (length all) image words declared)) (goal-complete one few good.0 first) ∙ goals-complete all few good.1 rest

  pub goals-decode : (all : List Goal) {declared at seen end after : ℕ} → declared ≤ 64 → Each (WellFormedGoal program) all
      → Read words (flat_map encode_goal all) (flat_map goal_args all) declared at seen end after → decode_goals (length all) image words at ≡ all
  unfolding decode_goals flat_map
  goals-decode [] few good r = refl
  goals-decode (one ∷ all) {declared} {at} {seen} few good r =
      let first = read_left (encode_goal one) (flat_map encode_goal all) (goal_args one) (flat_map goal_args all) r in
      let rest = read_right (encode_goal one) (flat_map encode_goal all) (goal_args one) (flat_map goal_args all) r in
      let same = goal-decode one few good.0 first in
      let next : goal_next image words at ≡ at + length (encode_goal one) = goal_next-is image words at ∙ ap (λ (g : Goal). at + length (encode_goal g)) same in
      ap₂ (λ (g : Goal) (l : List Goal). g ∷ l) same (ap (decode_goals (length all) image words) next ∙ goals-decode all few good.1 rest)

  -- where the walk found none, the encoding stands of the goals that the words decode to, and they are well formed
  pub goals-sound : (count : ℕ) → Words words → (declared at seen : ℕ) {end after : ℕ} → seen ≤ declared → goals count image words declared at seen ≡ Ok (end, after)
      → Read words (flat_map encode_goal (decode_goals count image words at)) (flat_map goal_args (decode_goals count image words at)) declared at seen end after
      × Each (WellFormedGoal program) (decode_goals count image words at)
  unfolding goals decode_goals flat_map seen_after
  goals-sound zero small declared at seen {end} {after} few e =
      let s = same_place e in
      let x : end ≡ at = s.0 in
      let y : after ≡ seen = s.1 in
      (record { stands = tt; ends = x ∙ sym (add-zero at); numbered = tt; counted = y; kept = omega arith }, tt)
  goals-sound (suc count) small declared at seen few e =
      let p = onward-passed (goals count image words declared) (goal image words declared at seen) e in
      let one = decode_goal image words at in
      let first = goal-sound small declared at seen few p.before in
      let next : p.place ≡ goal_next image words at = first.0.ends ∙ sym (goal_next-is image words at) in
      let rest = goals-sound count small declared (goal_next image words at) p.seen first.0.kept (rw next at p.behind) in
      let all = decode_goals count image words (goal_next image words at) in (
        read-append (encode_goal one) (flat_map encode_goal all) (goal_args one) (flat_map goal_args all) first.0 (goal_next-is image words at) rest.0,
        (first.1, rest.1),
      )

pub length-decode_goals : (count : ℕ) (image words : List ℕ) (at : ℕ) → length (decode_goals count image words at) ≡ count
unfolding decode_goals
length-decode_goals zero image words at = refl
length-decode_goals (suc count) image words at = ap suc (length-decode_goals count image words (goal_next image words at))
