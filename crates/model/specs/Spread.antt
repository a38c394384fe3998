-- The spread form: document 01, "Rule image", last paragraph: "one field per word, zero fields dropped".
-- Where the page is silent: of 19, 29 and 18 the one at the smallest place in the list is given, and 19 stands at the list's length;
-- the header's second word says how many predicate words follow; a list that ends between two words' groups is no 19. Assumes nothing.
use Rattle.std.specs.Prelude.{Bool, true, cond, List, [], ◌∷◌, ◌++◌, ℕ, zero, suc, ◌+◌, ◌*◌, ◌^◌, eqb, ltb, leb, length, get_or, drop, Ok, Err}
use Rattle.model.specs.declared.Kind.{Kind}
use Rattle.model.specs.declared.Kind.TheVariants.{Header, Predicate, Clause, Var, Con, Goal}
use Rattle.model.specs.declared.Refusal.TheVariants.{TooWide, ListEnds, Room, UnknownOp}
use Rattle.model.specs.Answers.{Scan, Verdict, Written, refused_at}
use Rattle.model.specs.Fields.{widths_of, kept_fields, below, field, predicate_count, op}
use Rattle.model.specs.Image.{check_image}

-- some fields of a word, in their order
unfoldable pub spread_fields : List ℕ → List ℕ → ℕ → List ℕ
spread_fields widths [] word = []
spread_fields widths (i ∷ kept) word = field widths word i ∷ spread_fields widths kept word

-- the group of a word: "one field per word, zero fields dropped"
unfoldable pub spread_word : Kind → ℕ → List ℕ
spread_word kind word = spread_fields (widths_of kind) (kept_fields kind) word

-- the word that has the list's first values in these fields, and 0 in all others
unfoldable pub join_fields : List ℕ → List ℕ → List ℕ → ℕ
join_fields widths [] values = 0
join_fields widths (i ∷ kept) [] = 0
join_fields widths (i ∷ kept) (value ∷ values) = value * 2 ^ below widths i + join_fields widths kept values

unfoldable pub packed_word : Kind → List ℕ → ℕ
packed_word kind values = join_fields (widths_of kind) (kept_fields kind) values

unfoldable pub group_size : Kind → ℕ
group_size kind = length (kept_fields kind)

unfoldable pub known_op : ℕ → Bool
known_op op = cond (eqb op 1) true (cond (eqb op 2) true (cond (eqb op 8) true (eqb op 9)))

unfoldable pub kind_of_op : ℕ → Kind
kind_of_op op = cond (eqb op 1) Var (cond (eqb op 2) Con (cond (eqb op 8) Clause Goal))

-- the kind of word that stands at a number, counted from the header: as many predicate words as the header says, then by op
unfoldable pub kind_at : ℕ → ℕ → ℕ → Kind
kind_at count number op = cond (eqb number 0) Header (cond (leb number count) Predicate (kind_of_op op))

-- the spread form of an image

unfoldable pub unpacked_from : ℕ → ℕ → List ℕ → List ℕ
unpacked_from count number [] = []
unpacked_from count number (word ∷ words) = spread_word (kind_at count number (op word)) word ++ unpacked_from count (suc number) words

unfoldable pub unpacked : List ℕ → List ℕ
unpacked image = unpacked_from (predicate_count (get_or image 0 0)) 0 image

-- what is wrong with a list, "at the first place in the list"

abbrev pub further : (ℕ → Scan) → Scan → Scan
further next (Ok at) = next at
further next (Err stop) = Err stop

-- the values of one group: "19 list ends inside a word's group", "18 a value too wide for its field"
unfoldable pub judged : List ℕ → List ℕ → ℕ → List ℕ → Scan
judged widths [] at rest = Ok at
judged widths (i ∷ kept) at [] = refused_at ListEnds at
judged widths (i ∷ kept) at (value ∷ rest) = cond (ltb value (2 ^ get_or widths i 0)) (judged widths kept (suc at) rest) (refused_at TooWide at)

-- an op stands first in every group after the predicates': "29 op is none of 1, 2, 8, 9 (18 never judges an op)"
unfoldable pub op_known : ℕ → ℕ → ℕ → Bool
op_known count number op = cond (leb number count) true (known_op op)

unfoldable pub judged_group : ℕ → ℕ → ℕ → List ℕ → Scan
judged_group count number at rest =
    let kind = kind_at count number (get_or rest 0 0) in
    cond (op_known count number (get_or rest 0 0)) (judged (widths_of kind) (kept_fields kind) at rest) (refused_at UnknownOp at)

-- group after group, through with so many words; there are at most as many groups as the list has values
unfoldable pub scan_from : ℕ → ℕ → ℕ → ℕ → List ℕ → Scan
scan_from zero count number at rest = Ok number
scan_from (suc most) count number at [] = Ok number
scan_from (suc most) count number at (value ∷ rest) =
    further (λ next. scan_from most count (suc number) next (drop (group_size (kind_at count number value)) (value ∷ rest)))
    (judged_group count number at (value ∷ rest))

unfoldable pub scan : List ℕ → Scan
scan list = scan_from (length list) (get_or list 1 0) 0 0 list

-- the words of a list in which nothing is wrong

unfoldable pub packed_from : ℕ → ℕ → ℕ → List ℕ → List ℕ
packed_from zero count number rest = []
packed_from (suc most) count number [] = []
packed_from (suc most) count number (value ∷ rest) =
    packed_word (kind_at count number value) (value ∷ rest)
    ∷ packed_from most count (suc number) (drop (group_size (kind_at count number value)) (value ∷ rest))

unfoldable pub packed : List ℕ → List ℕ
packed list = packed_from (length list) (get_or list 1 0) 0 list

-- what a call that writes answers, and the room as it leaves it
pub record WrittenTo : Type 0 where
  pub answer : Written
  pub room : List ℕ

abbrev pub written_to : Written → List ℕ → WrittenTo
written_to answer room = record { answer = answer; room = room }

-- "return the count of words written; words past it stay"
abbrev pub written : List ℕ → List ℕ → WrittenTo
written words room = written_to (Ok (length words)) (words ++ drop (length words) room)

-- "26, too little room", whose position is 0
unfoldable pub write_out : List ℕ → List ℕ → WrittenTo
write_out words room = cond (leb (length words) (length room)) (written words room) (written_to (refused_at Room 0) room)

abbrev pub if_scanned : Scan → List ℕ → WrittenTo → WrittenTo
if_scanned (Ok count) room next = next
if_scanned (Err stop) room next = written_to (Err stop) room

abbrev pub if_checked : Verdict → List ℕ → WrittenTo → WrittenTo
if_checked (Ok u) room next = next
if_checked (Err stop) room next = written_to (Err stop) room

-- "packing refuses, at the first place in the list, ..; then 1 to 17 at the packed word; then 26"
unfoldable pub pack : List ℕ → List ℕ → WrittenTo
pack list room = if_scanned (scan list) room (if_checked (check_image (packed list)) room (write_out (packed list) room))

-- "unpacking: 1 to 17, then 26"
unfoldable pub unpack : List ℕ → List ℕ → WrittenTo
unpack image room = if_checked (check_image image) room (write_out (unpacked image) room)
