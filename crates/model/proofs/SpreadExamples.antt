-- Worked examples of the spread form: the image of document 01's "The desk program", and lists that are refused. Assumes nothing.
use Rattle.std.specs.Prelude.{◌≡◌, refl, List, [], ◌∷◌, ℕ}
use Rattle.model.specs.declared.Fault.TheVariants.{EmptyImage, WrongEdition}
use Rattle.model.specs.declared.Refusal.TheVariants.{Image, TooWide, ListEnds, Room, UnknownOp}
use Rattle.model.specs.Answers.{refused_at}
use Rattle.std.proofs.Common.{Ok}
use Rattle.model.specs.Fields.{widths_of, kept_fields, total, below, field}
use Rattle.model.specs.Image.{variable_at, argument, arguments, goal_word, goal, goals, clause_word, clause_end, clause, clauses, predicate, predicates, header, ending, image_walk, check_image}
use Rattle.model.proofs.Examples.{desk_image}
use Rattle.model.specs.Spread.{spread_fields, spread_word, join_fields, packed_word, group_size, known_op, kind_of_op, kind_at, unpacked_from, unpacked, judged, op_known, judged_group, scan_from, scan, packed_from, packed, written_to, write_out, pack, unpack}

-- header, predicate, then twice a CLAUSE and a CON
abbrev pub desk_list : List ℕ
desk_list = 1 ∷ 1 ∷ 6 ∷ 1 ∷ 0 ∷ 2 ∷ 2 ∷ 8 ∷ 0 ∷ 0 ∷ 2 ∷ 2 ∷ 5 ∷ 8 ∷ 0 ∷ 0 ∷ 2 ∷ 2 ∷ 6 ∷ []

pub desk-unpacks : unpacked desk_image ≡ desk_list
unfolding widths_of kept_fields total below field spread_fields spread_word kind_of_op kind_at unpacked_from unpacked
desk-unpacks = refl

-- a word past the count stays
pub desk-packs : pack desk_list (7 ∷ 7 ∷ 7 ∷ 7 ∷ 7 ∷ 7 ∷ 7 ∷ [])
    ≡ written_to (Ok 6) (0x10040006 ∷ 0x10040002 ∷ 0x80000002 ∷ 0x20000005 ∷ 0x80000002 ∷ 0x20000006 ∷ 7 ∷ [])
unfolding widths_of kept_fields total below field variable_at argument arguments goal_word goal goals clause_word clause_end clause clauses predicate predicates header ending image_walk check_image join_fields packed_word group_size known_op kind_of_op kind_at judged op_known judged_group scan_from scan packed_from packed write_out pack
desk-packs = refl

-- a room one short: nothing is written
pub desk-room : pack desk_list (7 ∷ 7 ∷ 7 ∷ 7 ∷ 7 ∷ []) ≡ written_to (refused_at Room 0) (7 ∷ 7 ∷ 7 ∷ 7 ∷ 7 ∷ [])
unfolding widths_of kept_fields total below field variable_at argument arguments goal_word goal goals clause_word clause_end clause clauses predicate predicates header ending image_walk check_image join_fields packed_word group_size known_op kind_of_op kind_at judged op_known judged_group scan_from scan packed_from packed write_out pack
desk-room = refl

-- 2 comes before 26, in both calls
pub fault-before-room : unpack (0x20040001 ∷ []) [] ≡ written_to (refused_at (Image WrongEdition) 0) []
unfolding widths_of total below field header image_walk check_image unpack
fault-before-room = refl

pub fault-before-room' : pack (2 ∷ 1 ∷ 1 ∷ []) [] ≡ written_to (refused_at (Image WrongEdition) 0) []
unfolding widths_of kept_fields total below field header image_walk check_image join_fields packed_word group_size kind_at judged op_known judged_group scan_from scan packed_from packed pack
fault-before-room' = refl

-- "an empty list gives 1 at 0"
pub empty-list : pack [] (7 ∷ []) ≡ written_to (refused_at (Image EmptyImage) 0) (7 ∷ [])
unfolding header image_walk check_image scan_from scan packed_from packed pack
empty-list = refl

-- 18 at place 1 comes before 19 at the list's length
pub first-place : scan (1 ∷ 5000 ∷ []) ≡ refused_at TooWide 1
unfolding widths_of kept_fields kind_at judged op_known judged_group scan_from scan
first-place = refl

pub inside-group : scan (1 ∷ 1 ∷ []) ≡ refused_at ListEnds 2
unfolding widths_of kept_fields kind_at judged op_known judged_group scan_from scan
inside-group = refl

-- a list that ends between two groups is no 19
pub between-groups : scan (1 ∷ 1 ∷ 6 ∷ []) ≡ Ok 1
unfolding widths_of kept_fields group_size kind_at judged op_known judged_group scan_from scan
between-groups = refl

-- op 16 is too wide for its field, and is 29 all the same
pub op-unknown : scan (1 ∷ 0 ∷ 6 ∷ 16 ∷ []) ≡ refused_at UnknownOp 3
unfolding widths_of kept_fields group_size known_op kind_of_op kind_at judged op_known judged_group scan_from scan
op-unknown = refl
