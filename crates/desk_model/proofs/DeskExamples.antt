-- Document 01, "The desk program": the page's file and its listing, and files that are refused; proved together, as one statement over a list. Assumes nothing.
use Rattle.std.specs.Prelude.{Bool, true, false, List, [], ◌∷◌, ℕ, T}
use Rattle.model.specs.Fields.{widths_of, total, below, field, join}
use Rattle.model.specs.Decoding.{goal_next, goal_from, clause_next, clause_from, clause_at}
use Rattle.model.specs.Image.{variable_at, argument, arguments, goal_word, goal, goals, clause_word, clause_end, clause, clauses, predicate, predicates, header, ending, image_walk, query_walk, check_image, check_query}
use Rattle.model.specs.Bytes.{word_of_bytes, words_from, words_of_bytes}
use Rattle.model.specs.Memory.{cut_to, word_of, cleared}
use Rattle.model.specs.Goals.{past_head, goal_place, next_goal, child_goal}
use Rattle.model.specs.Terms.{found_said, dereference, argument_of, bind, pairing, unify_pair, unify_words, unify_head}
use Rattle.model.specs.Steps.{live, child_from, another_from, free_from, undone, left_for, freed, dead_rule, raised, laid, goal_fields, arrival, grown, failed, succeeded, taken, head_store, take_clause, live_rule, node_rule, step, run_from, run}
use Rattle.model.specs.Moves.{loaded, place_of, with_number, answer_word, seen_with_found, answer_from, answer}
use Rattle.model.proofs.WordExamples.{same_list}
use Rattle.desk_model.specs.Lines.{digits, decimal, spaced, value_text, value_texts, answer_line, ending_name, ending_line, refused_name, refused_line}
use Rattle.desk_model.specs.Desk.{file_parts, stop_of, advanced, stop_line, lines_from, search_listing, parts_listing, listing}

pub record DeskExample : Type 0 where
  pub file : List ℕ
  pub listed : List ℕ

abbrev pub desk_example : List ℕ → List ℕ → DeskExample
desk_example file listed = record { file = file; listed = listed }

unfoldable pub all_listed : List DeskExample → Bool
all_listed [] = true
all_listed (example ∷ rest) = elim (same_list (listing example.file) example.listed) [ true ↦ all_listed rest | false ↦ false ]

-- 00000003 80410003 90000000 10000000 10040006 10040002 80000002 20000005 80000002 20000006
abbrev page_file : List ℕ
page_file =
    0x00 ∷ 0x00 ∷ 0x00 ∷ 0x03
    ∷ 0x80 ∷ 0x41 ∷ 0x00 ∷ 0x03
    ∷ 0x90 ∷ 0x00 ∷ 0x00 ∷ 0x00
    ∷ 0x10 ∷ 0x00 ∷ 0x00 ∷ 0x00
    ∷ 0x10 ∷ 0x04 ∷ 0x00 ∷ 0x06
    ∷ 0x10 ∷ 0x04 ∷ 0x00 ∷ 0x02
    ∷ 0x80 ∷ 0x00 ∷ 0x00 ∷ 0x02
    ∷ 0x20 ∷ 0x00 ∷ 0x00 ∷ 0x05
    ∷ 0x80 ∷ 0x00 ∷ 0x00 ∷ 0x02
    ∷ 0x20 ∷ 0x00 ∷ 0x00 ∷ 0x06 ∷ []

abbrev pub desk_examples : List DeskExample
desk_examples =
    -- 1 c5, 3 c6, finished 5
    desk_example page_file
    (49 ∷ 32 ∷ 99 ∷ 53 ∷ 10 ∷ 51 ∷ 32 ∷ 99 ∷ 54 ∷ 10 ∷ 102 ∷ 105 ∷ 110 ∷ 105 ∷ 115 ∷ 104 ∷ 101 ∷ 100 ∷ 32 ∷ 53 ∷ 10 ∷ [])
    -- an empty file: refused 28 0
    ∷ desk_example [] (114 ∷ 101 ∷ 102 ∷ 117 ∷ 115 ∷ 101 ∷ 100 ∷ 32 ∷ 50 ∷ 56 ∷ 32 ∷ 48 ∷ 10 ∷ [])
    -- three bytes: refused 28 0
    ∷ desk_example (0 ∷ 0 ∷ 0 ∷ []) (114 ∷ 101 ∷ 102 ∷ 117 ∷ 115 ∷ 101 ∷ 100 ∷ 32 ∷ 50 ∷ 56 ∷ 32 ∷ 48 ∷ 10 ∷ [])
    -- a query of one word, and none in the file: refused 28 0
    ∷ desk_example (0 ∷ 0 ∷ 0 ∷ 1 ∷ []) (114 ∷ 101 ∷ 102 ∷ 117 ∷ 115 ∷ 101 ∷ 100 ∷ 32 ∷ 50 ∷ 56 ∷ 32 ∷ 48 ∷ 10 ∷ [])
    -- neither query nor image: the image is judged first, refused 1 0
    ∷ desk_example (0 ∷ 0 ∷ 0 ∷ 0 ∷ []) (114 ∷ 101 ∷ 102 ∷ 117 ∷ 115 ∷ 101 ∷ 100 ∷ 32 ∷ 49 ∷ 32 ∷ 48 ∷ 10 ∷ [])
    ∷ []

pub desk-examples : T (all_listed desk_examples)
unfolding widths_of total below field join goal_next goal_from clause_next clause_from clause_at variable_at argument arguments goal_word goal goals clause_word clause_end clause clauses predicate predicates header ending image_walk query_walk check_image check_query word_of_bytes words_from words_of_bytes cut_to word_of cleared past_head goal_place next_goal child_goal found_said dereference argument_of bind pairing unify_pair unify_words unify_head live child_from another_from free_from undone left_for freed dead_rule raised laid goal_fields arrival grown failed succeeded taken head_store take_clause live_rule node_rule step run_from run loaded place_of with_number answer_word seen_with_found answer_from answer same_list digits decimal spaced value_text value_texts answer_line ending_name ending_line refused_name refused_line file_parts stop_of advanced stop_line lines_from search_listing parts_listing listing all_listed
desk-examples = tt
