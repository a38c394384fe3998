-- The pieces of a line stored one behind another make the line; how long a line is at most; and a line at the front of a room. Assumes nothing.
use Rattle.std.proofs.Common.{◌≡◌, refl, sym, ap, ap₂, ◌∙◌, None, Some, Bool, true, false, ◌&&◌, List, [], ◌∷◌, ◌++◌, ℕ, ◌+◌, ◌*◌, ◌≤◌, ◌<◌, add-one, arith, eqb, length, get_or, set, drop, length-append, drop_of_length-le, drop-cons, eq-eqb, ne_eqb, le-leb}
use borrow.Author.Tests.{lt-leb}
use Rattle.model.specs.declared.Kind.TheVariants.{Con, Var}
use Rattle.model.specs.Fields.{widths_of, op, constant, variable_number}
use Rattle.words.proofs.FieldLaws.{field_lt}
use Rattle.desk_model.specs.declared.Ending.{Ending}
use Rattle.desk_model.specs.declared.Ending.TheVariants.{Finished, Full, Spent}
use Rattle.desk_model.specs.Lines.{decimal, newline, spaced, value_text, value_texts, answer_line, ending_name, ending_line, refused_name, refused_line, written, wrote, line_in, roomy, few_values}
use Rattle.lines.proofs.LineLaws.{decimal-short, decimal-long, written-append, written-front, Stored, stored-then, stored_one}

pub spaced-of : (at n : ℕ) (room between : List ℕ) (end : ℕ) (after : List ℕ) → between ≡ set room at 32 → Stored (at + 1) (decimal n) between end after
    → Stored at (spaced n) room end after
unfolding spaced
spaced-of at n room between end after e s = stored-then at (32 ∷ []) (decimal n) room (at + 1) between end after (stored_one at 32 room between e) s

pub spaced-short : (n : ℕ) → n < 18446744073709551616 → length (spaced n) ≤ 21
unfolding spaced
spaced-short n h = omega (arith, decimal-long n h)

-- a space, a letter and a number
lettered : (letter at n : ℕ) (room first second : List ℕ) (end : ℕ) (after : List ℕ) → first ≡ set room at 32 → second ≡ set first (at + 1) letter
    → Stored (at + 2) (decimal n) second end after → Stored at (32 ∷ letter ∷ decimal n) room end after
unfolding written
lettered letter at n room first second end after e f s =
    stored-then at (32 ∷ []) (letter ∷ decimal n) room (at + 1) first end after (stored_one at 32 room first e)
    (stored-then (at + 1) (letter ∷ []) (decimal n) first (at + 2) second end after (f, omega arith) s)

pub value-constant : (word at tag n : ℕ) (room first second : List ℕ) (end : ℕ) (after : List ℕ) → tag ≡ op word → tag ≡ 2 → n ≡ constant word → first ≡ set room at 32 → second ≡ set first (at + 1) 99
    → Stored (at + 2) (decimal n) second end after → Stored at (value_text word) room end after
unfolding value_text
value-constant word at tag n room first second end after o t c e f s =
    rw (eq-eqb (op word) 2 (sym o ∙ t)) (lettered 99 at (constant word) room first second end after e f (rw c at s))

pub value-variable : (word at tag n : ℕ) (room first second : List ℕ) (end : ℕ) (after : List ℕ) → tag ≡ op word → (tag ≡ 2 → ⊥) → n ≡ variable_number word → first ≡ set room at 32 → second ≡ set first (at + 1) 118
    → Stored (at + 2) (decimal n) second end after → Stored at (value_text word) room end after
unfolding value_text
value-variable word at tag n room first second end after o t c e f s =
    rw (ne_eqb (op word) 2 (λ q. t (o ∙ q))) (lettered 118 at (variable_number word) room first second end after e f (rw c at s))

constant-lt : (word : ℕ) → constant word < 268435456
unfolding widths_of
constant-lt word = field_lt (widths_of Con) word 1

number_lt : (word : ℕ) → variable_number word < 64
unfolding widths_of
number_lt word = field_lt (widths_of Var) word 2

pub value-short : (word : ℕ) → length (value_text word) ≤ 11
unfolding value_text
value-short word = go (eqb (op word) 2) refl
  where
    go : (c : Bool) → eqb (op word) 2 ≡ c → length (value_text word) ≤ 11
    go true q = rw (q, value_text) (omega (arith, decimal-short 8 (constant word) (omega (arith, constant-lt word))))
    go false q = rw (q, value_text) (omega (arith, decimal-short 8 (variable_number word) (omega (arith, number_lt word))))

values-short : (words : List ℕ) → length (value_texts words) ≤ 11 * length words + 1
unfolding value_texts
values-short [] = omega arith
values-short (word ∷ words) = omega (arith, length-append (value_text word) (value_texts words), value-short word, values-short words)

-- one value more
values-word : (words : List ℕ) (i : ℕ) → i < length words → value_texts (drop i words) ≡ value_text (get_or words i 0) ++ value_texts (drop (i + 1) words)
unfolding value_texts
values-word words i h =
    ap value_texts (drop-cons words i 0 h) ∙ ap (λ (n : ℕ). value_text (get_or words i 0) ++ value_texts (drop n words)) (sym (add-one i))

pub values-turn : (words : List ℕ) (i : ℕ) (line : List ℕ) (start : ℕ) (after : List ℕ) (end : ℕ) → i < length words → Stored start (value_text (get_or words i 0)) line end after
    → (written end (value_texts (drop (i + 1) words)) after ≡ written start (value_texts (drop i words)) line)
    × (end + length (value_texts (drop (i + 1) words)) ≡ start + length (value_texts (drop i words)))
values-turn words i line start after end h s =
    let first = value_text (get_or words i 0) in
    let rest = value_texts (drop (i + 1) words) in
    let e = values-word words i h in (
      ap₂ (λ (n : ℕ) (l : List ℕ). written n rest l) s.1 s.0 ∙ sym (written-append first rest start line) ∙ ap (λ (l : List ℕ). written start l line) (sym e),
      omega (arith, s.1, length-append first rest, ap length e),
    )

pub values-end : (words : List ℕ) (i : ℕ) (line : List ℕ) (start : ℕ) (after : List ℕ) → length words ≤ i → after ≡ set line start 10
    → (after ≡ written start (value_texts (drop i words)) line) × (start + 1 ≡ start + length (value_texts (drop i words)))
unfolding value_texts written
values-end words i line start after h e = rw (drop_of_length-le words {i = i} h, value_texts) (e, refl)

-- a line that fits stands at the front of the room
pub line-whole : (fits : Bool) (line room : List ℕ) (end : ℕ) (after : List ℕ) → fits ≡ true → length line ≤ 1024 → 1024 ≤ length room → Stored 0 line room end after
    → (wrote (Some end) after ≡ line_in fits line room) × (end ≤ 1024)
line-whole fits line room end after f h l s = (
  rw f (ap₂ (λ (n : ℕ). wrote (Some n)) (s.1 ∙ omega arith) (s.0 ∙ written-front line room (omega arith))),
  omega (arith, s.1),
)

pub line-none : (fits : Bool) (line room : List ℕ) → fits ≡ false → (wrote None room ≡ line_in fits line room) × Unit {0}
line-none fits line room f = (rw f refl, tt)

pub is-roomy : (room : List ℕ) → 1024 ≤ length room → roomy room ≡ true
is-roomy room h = le-leb 1024 (length room) h

pub not-roomy : (room : List ℕ) → length room < 1024 → roomy room ≡ false
not-roomy room h = lt-leb 1024 (length room) h

pub answer-fits : (room words : List ℕ) → 1024 ≤ length room → length words ≤ 64 → (roomy room && few_values words) ≡ true
answer-fits room words h l = rw (le-leb 1024 (length room) h, le-leb (length words) 64 l) refl

pub answer-no-room : (room words : List ℕ) → length room < 1024 → (roomy room && few_values words) ≡ false
answer-no-room room words h = rw (lt-leb 1024 (length room) h) refl

pub answer-too-many : (room words : List ℕ) → 64 < length words → (roomy room && few_values words) ≡ false
answer-too-many room words l = rw (lt-leb (length words) 64 l) (go (roomy room))
  where
    go : (b : Bool) → (b && false) ≡ false
    go true = refl
    go false = refl

pub answer-short : (steps : ℕ) (words : List ℕ) → steps < 4294967296 → length words ≤ 64 → length (answer_line steps words) ≤ 1024
unfolding answer_line
answer-short steps words h l =
    omega (arith, length-append (decimal steps) (value_texts words), decimal-short 9 steps (omega arith), values-short words)

pub answer-of : (steps : ℕ) (words room : List ℕ) (middle : ℕ) (between : List ℕ) (end : ℕ) (after : List ℕ) → Stored 0 (decimal steps) room middle between
    → Stored middle (value_texts words) between end after → Stored 0 (answer_line steps words) room end after
unfolding answer_line
answer-of steps words room middle between end after a b = stored-then 0 (decimal steps) (value_texts words) room middle between end after a b

pub name-short : (ending : Ending) → length (ending_name ending) ≤ 8
unfolding ending_name
name-short Finished = omega arith
name-short Full = omega arith
name-short Spent = omega arith

pub ending_of : (ending : Ending) (steps : ℕ) (room : List ℕ) (at : ℕ) (first : List ℕ) (middle : ℕ) (second after : List ℕ) → (first ≡ written 0 (ending_name ending) room) × (at ≡ length (ending_name ending))
    → Stored at (spaced steps) first middle second → after ≡ set second middle 10 → Stored 0 (ending_line ending steps) room (middle + 1) after
unfolding ending_line
ending_of ending steps room at first middle second after a b e =
    stored-then 0 (ending_name ending) (spaced steps ++ newline) room at first (middle + 1) after (a.0, omega (arith, a.1))
    (stored-then at (spaced steps) newline first middle second (middle + 1) after b (stored_one middle 10 second after e))

pub ending-short : (ending : Ending) (steps : ℕ) → steps < 18446744073709551616 → length (ending_line ending steps) ≤ 1024
unfolding ending_line
ending-short ending steps h =
    omega (arith, length-append (ending_name ending) (spaced steps ++ newline), length-append (spaced steps) newline, name-short ending, spaced-short steps h)

pub refused-of : (number position : ℕ) (room : List ℕ) (at : ℕ) (first : List ℕ) (middle : ℕ) (second : List ℕ) (end : ℕ) (third after : List ℕ)
    → (first ≡ written 0 refused_name room) × (at ≡ 7) → Stored at (spaced number) first middle second → Stored middle (spaced position) second end third
    → after ≡ set third end 10 → Stored 0 (refused_line number position) room (end + 1) after
unfolding refused_line refused_name
refused-of number position room at first middle second end third after a b c e =
    stored-then 0 refused_name (spaced number ++ (spaced position ++ newline)) room at first (end + 1) after (a.0, omega (arith, a.1))
    (stored-then at (spaced number) (spaced position ++ newline) first middle second (end + 1) after b
    (stored-then middle (spaced position) newline second end third (end + 1) after c (stored_one end 10 third after e)))

pub refused-short : (number position : ℕ) → number < 18446744073709551616 → position < 18446744073709551616 → length (refused_line number position) ≤ 1024
unfolding refused_line refused_name
refused-short number position h l =
    omega (
      arith,
      length-append refused_name (spaced number ++ (spaced position ++ newline)),
      length-append (spaced number) (spaced position ++ newline),
      length-append (spaced position) newline,
      spaced-short number h,
      spaced-short position l,
    )
