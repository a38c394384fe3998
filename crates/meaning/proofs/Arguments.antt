-- Arguments: the walk over them finds no fault exactly where their encoding stands, and decoding gives them back. Document 01, "Rule image", VAR, CON, faults 4, 6, 11 and 12. Assumes nothing.
use Rattle.std.specs.Prelude.{◌≡◌, refl, Bool, true, false, cond, List, [], ◌∷◌, map, ℕ, zero, suc, ◌+◌, ◌^◌, ◌≤◌, ◌<◌, max, eqb, ltb, length, get_or}
use Rattle.std.proofs.Common.{sym, ap, ap₂, ◌∙◌, arith, add-zero, eqb-true, eq-eqb, ltb-true, ltb-false, lt-ltb, Ok}
use Rattle.model.specs.declared.Kind.TheVariants.{Var, Con}
use Rattle.model.specs.declared.Fault.TheVariants.{ZeroField, EndsEarly, ArgumentExpected, VariableNumber}
use Rattle.model.specs.Answers.{Walk, met}
use Rattle.model.specs.Fields.{widths_of, total, below, field, op, variable_zero, variable_number, constant}
use Rattle.model.specs.Image.{onward, variable_at, argument, arguments}
use Rattle.model.specs.Rules.{Argument, con, var}
use Rattle.model.specs.Encoding.{Word, Words, encode_arg, WellFormedArg, seen_with, seen_after}
use Rattle.model.specs.Decoding.{decode_arg, decode_args}
use Rattle.words.specs.FieldLaws.{fields_from}
use Rattle.words.proofs.FieldLaws.{field-join, field_lt, join-field}
use Rattle.meaning.specs.Stands.{Stands}
use Rattle.meaning.proofs.Walks.{cond-held, onward-passed, same_place}
use Rattle.meaning.specs.Reading.{Read}
use Rattle.meaning.proofs.Reading.{read-append, read_left, read_right}

-- the fields of a VAR word
pub record VarFields (word number : ℕ) : Type 0 where
  pub is_op : op word ≡ 1
  pub is_zero : variable_zero word ≡ 0
  pub is_number : variable_number word ≡ number

pub var-fields : (number : ℕ) → number < 64 → VarFields (encode_arg (var number)) number
unfolding encode_arg widths_of field below total
var-fields number h =
    let read = field-join (widths_of Var) (1 ∷ 0 ∷ number ∷ []) (omega arith) in
    record { is_op = read 0; is_zero = read 1; is_number = read 2 }

pub var-word : (word : ℕ) → Word word → op word ≡ 1 → variable_zero word ≡ 0 → word ≡ encode_arg (var (variable_number word))
unfolding encode_arg widths_of field below total fields_from
var-word word h e z = sym (rw (e, z) at (join-field (widths_of Var) word h))

-- the fields of a CON word
pub record ConFields (word value : ℕ) : Type 0 where
  pub is_op : op word ≡ 2
  pub is_constant : constant word ≡ value

pub con-fields : (value : ℕ) → value < 2 ^ 28 → ConFields (encode_arg (con value)) value
unfolding encode_arg widths_of field below total
con-fields value h =
    let read = field-join (widths_of Con) (2 ∷ value ∷ []) (omega arith) in
    record { is_op = read 0; is_constant = read 1 }

pub con-word : (word : ℕ) → Word word → op word ≡ 2 → word ≡ encode_arg (con (constant word))
unfolding encode_arg widths_of field below total fields_from
con-word word h e = sym (rw e at (join-field (widths_of Con) word h))

-- one argument, where its word stands
pub argument-complete : (words : List ℕ) (arg : Argument) (declared at seen : ℕ) → declared ≤ 64 → Stands words at (encode_arg arg ∷ []) → WellFormedArg seen arg → seen_with seen arg ≤ declared
    → argument words declared at seen ≡ Ok (at + 1, seen_with seen arg)
unfolding argument variable_at seen_with
argument-complete words (con value) declared at seen few h good l =
    let f = con-fields value good in
    rw (lt-ltb at (length words) h.0, h.1, f.is_op) refl
argument-complete words (var number) declared at seen few h good l = go (ltb number seen) refl
  where
    go : (before : Bool) → ltb number seen ≡ before → argument words declared at seen ≡ Ok (at + 1, max seen (suc number))
    go true q =
        let f = var-fields number (omega arith) in
        let m : max seen (suc number) ≡ seen = omega (arith, ltb-true number seen q) in
        rw (lt-ltb at (length words) h.0, h.1, f.is_op, f.is_zero, f.is_number, lt-ltb number declared (omega arith), q, m) refl
    go false q =
        let f = var-fields number (omega arith) in
        let e : number ≡ seen = omega (arith, ltb-false number seen q) in
        let m : max seen (suc number) ≡ seen + 1 = omega arith in
        rw (lt-ltb at (length words) h.0, h.1, f.is_op, f.is_zero, f.is_number, lt-ltb number declared (omega arith), q, eq-eqb number seen e, m) refl

-- an argument's word decodes to the argument
pub arg-decode : (arg : Argument) (seen : ℕ) → WellFormedArg seen arg → seen_with seen arg ≤ 64 → decode_arg (encode_arg arg) ≡ arg
unfolding decode_arg seen_with
arg-decode (con value) seen good few = let f = con-fields value good in rw (f.is_op, f.is_constant) refl
arg-decode (var number) seen good few = let f = var-fields number (omega arith) in rw (f.is_op, f.is_number) refl

-- a VAR word at which no fault was met
pub record VarFound (word declared at seen end after : ℕ) : Type 0 where
  pub is_zero : variable_zero word ≡ 0
  pub declares : variable_number word < declared
  pub firsts : variable_number word ≤ seen
  pub ends : end ≡ at + 1
  pub counts : after ≡ max seen (suc (variable_number word))

pub variable-sound : (word declared at seen : ℕ) {end after : ℕ} → variable_at word declared at seen ≡ Ok (end, after) → VarFound word declared at seen end after
unfolding variable_at
variable-sound word declared at seen {end} {after} e =
    let zeros = cond-held (eqb (variable_zero word) 0) ZeroField at e in
    let number = cond-held (ltb (variable_number word) declared) VariableNumber at zeros.1 in
    go (eqb-true (variable_zero word) 0 zeros.0) (ltb-true (variable_number word) declared number.0) (ltb (variable_number word) seen) refl number.1
  where
    go : variable_zero word ≡ 0 → variable_number word < declared → (before : Bool) → ltb (variable_number word) seen ≡ before
        → cond {A = Walk} before (Ok (at + 1, seen)) (cond (eqb (variable_number word) seen) (Ok (at + 1, seen + 1)) (met VariableNumber at)) ≡ Ok (end, after) → VarFound word declared at seen end after
    go z l true q k =
        let s = same_place k in
        let x : end ≡ at + 1 = s.0 in
        let y : after ≡ seen = s.1 in
        record { is_zero = z; declares = l; firsts = omega (arith, ltb-true (variable_number word) seen q); ends = x; counts = omega (arith, ltb-true (variable_number word) seen q) }
    go z l false q k =
        let next = cond-held (eqb (variable_number word) seen) VariableNumber at k in
        let same = eqb-true (variable_number word) seen next.0 in
        let s = same_place next.1 in
        let x : end ≡ at + 1 = s.0 in
        let y : after ≡ seen + 1 = s.1 in
        record { is_zero = z; declares = l; firsts = omega arith; ends = x; counts = omega arith }

-- what stands where one argument was found: the argument that it decodes to
pub argument-sound : (words : List ℕ) → Words words → (declared at seen : ℕ) {end after : ℕ} → seen ≤ declared → argument words declared at seen ≡ Ok (end, after)
    → Read words (encode_arg (decode_arg (get_or words at 0)) ∷ []) (decode_arg (get_or words at 0) ∷ []) declared at seen end after
unfolding argument seen_after seen_with decode_arg widths_of
argument-sound words small declared at seen {end} {after} few e =
    let there = cond-held (ltb at (length words)) EndsEarly (length words) e in
    go (ltb-true at (length words) there.0) (eqb (op (get_or words at 0)) 1) refl there.1
  where
    is : (arg : Argument) → at < length words → get_or words at 0 ≡ encode_arg arg → WellFormedArg seen arg → end ≡ at + 1 → after ≡ seen_with seen arg → after ≤ declared
        → Read words (encode_arg arg ∷ []) (arg ∷ []) declared at seen end after
    is arg l w good x y k = record { stands = (l, w, tt); ends = x; numbered = (good, tt); counted = y; kept = k }

    go : at < length words → (variable : Bool) → eqb (op (get_or words at 0)) 1 ≡ variable
        → cond {A = Walk} variable (variable_at (get_or words at 0) declared at seen) (cond (eqb (op (get_or words at 0)) 2) (Ok (at + 1, seen)) (met ArgumentExpected at)) ≡ Ok (end, after)
        → Read words (encode_arg (cond variable (var (variable_number (get_or words at 0))) (con (constant (get_or words at 0)))) ∷ [])
        (cond variable (var (variable_number (get_or words at 0))) (con (constant (get_or words at 0))) ∷ []) declared at seen end after
    go l true q k =
        let v = variable-sound (get_or words at 0) declared at seen k in
        is (var (variable_number (get_or words at 0))) l (var-word (get_or words at 0) (small at) (eqb-true (op (get_or words at 0)) 1 q) v.is_zero) v.firsts v.ends v.counts
        (omega arith)
    go l false q k =
        let second = cond-held (eqb (op (get_or words at 0)) 2) ArgumentExpected at k in
        let s = same_place second.1 in
        let x : end ≡ at + 1 = s.0 in
        let y : after ≡ seen = s.1 in
        is (con (constant (get_or words at 0))) l (con-word (get_or words at 0) (small at) (eqb-true (op (get_or words at 0)) 2 second.0)) (field_lt (widths_of Con) (get_or words at 0) 1) x y (omega arith)

-- the walk finds no fault where the arguments' encoding stands
pub arguments-complete : {words : List ℕ} (args : List Argument) {declared at seen end after : ℕ} → declared ≤ 64 → Read words (map encode_arg args) args declared at seen end after
    → arguments (length args) words declared at seen ≡ Ok (end, after)
unfolding arguments seen_after
arguments-complete [] {at = at} few r = let e = r.ends in let x = add-zero at in let k = r.counted in cc
arguments-complete {words} (arg ∷ args) {declared} {at} {seen} few r =
    let first = read_left (encode_arg arg ∷ []) (map encode_arg args) (arg ∷ []) args r in
    let rest = read_right (encode_arg arg ∷ []) (map encode_arg args) (arg ∷ []) args r in
    ap (onward (arguments (length args) words declared)) (argument-complete words arg declared at seen few first.stands first.numbered.0 first.kept)
    ∙ arguments-complete args few rest

-- and they decode to the arguments
pub arguments-decode : {words : List ℕ} (args : List Argument) {declared at seen end after : ℕ} → declared ≤ 64 → Read words (map encode_arg args) args declared at seen end after
    → decode_args (length args) words at ≡ args
unfolding decode_args seen_after
arguments-decode [] few r = refl
arguments-decode {words} (arg ∷ args) {declared} {at} {seen} few r =
    let first = read_left (encode_arg arg ∷ []) (map encode_arg args) (arg ∷ []) args r in
    let rest = read_right (encode_arg arg ∷ []) (map encode_arg args) (arg ∷ []) args r in
    ap₂ (λ (x : Argument) (l : List Argument). x ∷ l)
    (ap decode_arg r.stands.1 ∙ arg-decode arg seen first.numbered.0 (omega (arith, first.kept)))
    (arguments-decode args few rest)

pub length-decode_args : (count : ℕ) (words : List ℕ) (at : ℕ) → length (decode_args count words at) ≡ count
unfolding decode_args
length-decode_args zero words at = refl
length-decode_args (suc count) words at = ap suc (length-decode_args count words (at + 1))

-- where the walk found none, the encoding stands of the arguments that the words decode to
pub arguments_sound : (count : ℕ) (words : List ℕ) → Words words → (declared at seen : ℕ) {end after : ℕ} → seen ≤ declared
    → arguments count words declared at seen ≡ Ok (end, after) → Read words (map encode_arg (decode_args count words at)) (decode_args count words at) declared at seen end after
unfolding arguments decode_args seen_after
arguments_sound zero words small declared at seen {end} {after} few e =
    let s = same_place e in
    let x : end ≡ at = s.0 in
    let y : after ≡ seen = s.1 in
    record { stands = tt; ends = x ∙ sym (add-zero at); numbered = tt; counted = y; kept = omega arith }
arguments_sound (suc count) words small declared at seen few e =
    let p = onward-passed (arguments count words declared) (argument words declared at seen) e in
    let first = argument-sound words small declared at seen few p.before in
    let rest = arguments_sound count words small declared (at + 1) p.seen first.kept (rw first.ends at p.behind) in
    read-append (encode_arg (decode_arg (get_or words at 0)) ∷ []) (map encode_arg (decode_args count words (at + 1))) (decode_arg (get_or words at 0) ∷ []) (decode_args count words (at + 1))
    first refl rest
