-- Document 01, "Bench examples", P6 to P11 on words, and one of our own: proved together, as one statement over a list. Assumes nothing.
use Rattle.std.specs.Prelude.{Bool, true, false, ◌&&◌, List, [], ◌∷◌, ℕ, T, eqb, get_or}
use Rattle.model.specs.Fields.{widths_of, total, below, field, join}
use Rattle.model.specs.Decoding.{goal_next, goal_from, clause_next, clause_from, clause_at}
use Rattle.model.specs.Machine.{outcome_number}
use Rattle.model.specs.Memory.{Memory, cut_to, word_of, cleared, array_of}
use Rattle.model.specs.Goals.{past_head, goal_place, next_goal, child_goal}
use Rattle.model.specs.Terms.{found_said, dereference, argument_of, bind, pairing, unify_pair, unify_words, unify_head}
use Rattle.model.specs.Steps.{view_of, with_view, live, child_from, another_from, free_from, undone, left_for, freed, dead_rule, raised, laid, goal_fields, arrival, grown, failed, succeeded, taken, head_store, take_clause, live_rule, node_rule, step}
use Rattle.model.specs.Moves.{loaded, meeting, installed, climbed, legs, move, place_of, with_number, answer_word, seen_with_found, answer_from, answer}
use Rattle.model.proofs.Examples.{desk_image}

-- what is done with a loaded memory, and what must be seen
pub data Doing : Type 0 where
  -- a worker steps: the outcome's number and the slot where it stands then
  steps : ℕ → ℕ → ℕ → Doing
  -- a worker moves to a slot: the entries passed
  moves : ℕ → ℕ → ℕ → Doing
  -- the word of a worker's array at a number
  array_word : ℕ → ℕ → ℕ → Doing
  -- a slot's trail word, by its place in the trail
  trail_word : ℕ → ℕ → Doing
  -- the answer that a worker reads
  reads : ℕ → List ℕ → Doing

unfoldable pub same_list : List ℕ → List ℕ → Bool
same_list [] [] = true
same_list [] (word ∷ words) = false
same_list (word ∷ words) [] = false
same_list (word ∷ words) (other ∷ others) = eqb word other && same_list words others

unfoldable pub seen : List ℕ → List ℕ → Memory → List Doing → Bool
seen image query m [] = true
seen image query m (steps worker outcome slot ∷ rest) =
    let d = step image query (view_of m worker) worker in
    let after = with_view m worker d.after in
    elim (eqb (outcome_number d.outcome) outcome && eqb (get_or after.workers worker 0) slot) [ true ↦ seen image query after rest | false ↦ false ]
seen image query m (moves worker slot passed ∷ rest) =
    let v = move m worker slot in
    elim (eqb v.passed passed) [ true ↦ seen image query v.after rest | false ↦ false ]
seen image query m (array_word worker number word ∷ rest) =
    elim (eqb (get_or (array_of m.arrays worker) number 0) word) [ true ↦ seen image query m rest | false ↦ false ]
seen image query m (trail_word place word ∷ rest) = elim (eqb (get_or m.trail place 0) word) [ true ↦ seen image query m rest | false ↦ false ]
seen image query m (reads worker words ∷ rest) =
    elim (same_list (answer query m worker) words) [ true ↦ seen image query m rest | false ↦ false ]

pub record WordExample : Type 0 where
  pub image : List ℕ
  pub query : List ℕ
  pub doing : List Doing

abbrev pub word_example : List ℕ → List ℕ → List Doing → WordExample
word_example image query doing = record { image = image; query = query; doing = doing }

unfoldable pub all_seen : List WordExample → Bool
all_seen [] = true
all_seen (example ∷ rest) =
    elim (seen example.image example.query (loaded example.query) example.doing) [ true ↦ all_seen rest | false ↦ false ]

abbrev desk_query : List ℕ
desk_query = 0x80410003 ∷ 0x90000000 ∷ 0x10000000 ∷ []

-- q(A, A).
abbrev pair_image : List ℕ
pair_image = 0x10040005 ∷ 0x20020002 ∷ 0x80400003 ∷ 0x10000000 ∷ 0x10000000 ∷ []

-- p.  q :- p.
abbrev chain_image : List ℕ
chain_image = 0x10080006 ∷ 0x00020003 ∷ 0x00020004 ∷ 0x80000001 ∷ 0x80010002 ∷ 0x90000000 ∷ []

abbrev pub word_examples : List WordExample
word_examples =
    -- P6 outcomes: 2, 3, 2, 3, 6
    word_example desk_image desk_query
    (steps 0 2 1 ∷ reads 0 (0x20000005 ∷ []) ∷ steps 0 3 0 ∷ steps 0 2 1 ∷ reads 0 (0x20000006 ∷ []) ∷ steps 0 3 0 ∷ steps 0 6 0 ∷ [])
    -- P7 workers 0 and 1 step once each: slots 1 and 2, array words 0x40000005 and 0x40000006
    ∷ word_example desk_image desk_query
    (steps 0 2 1 ∷ steps 1 2 2 ∷ array_word 0 0 0x40000005 ∷ array_word 1 0 0x40000006
    -- P8 then moving worker 0 to slot 2 reports 2, and its word is 0x40000006
    ∷ moves 0 2 2 ∷ array_word 0 0 0x40000006
    -- P9 worker 0 steps: Left; worker 1: Back; worker 0: Wait, as slot 1 still stands
    ∷ steps 0 4 0 ∷ steps 1 3 0 ∷ steps 0 5 0 ∷ [])
    -- P10 q(X,Y) against q(A,A): one trail entry, number 1, value 0x20000000; answer v0 v0
    ∷ word_example pair_image (0x80810004 ∷ 0x90000000 ∷ 0x10000000 ∷ 0x10000001 ∷ [])
    (steps 0 2 1 ∷ trail_word 32 1 ∷ trail_word 33 0x20000000 ∷ trail_word 34 0 ∷ reads 0 (0x10000000 ∷ 0x10000000 ∷ []) ∷ [])
    -- P11 q(X,X): no entry
    ∷ word_example pair_image (0x80410004 ∷ 0x90000000 ∷ 0x10000000 ∷ 0x10000000 ∷ []) (steps 0 2 1 ∷ trail_word 32 0 ∷ reads 0 (0x10000000 ∷ []) ∷ [])
    -- p, q: the climb from q's clause comes to the root at once, and there is no goal behind the query's last
    ∷ word_example chain_image (0x80020003 ∷ 0x90000000 ∷ 0x90040000 ∷ [])
    (steps 0 1 1 ∷ steps 0 1 2 ∷ steps 0 2 3 ∷ steps 0 3 2 ∷ steps 0 3 1 ∷ steps 0 3 0 ∷ steps 0 6 0 ∷ [])
    ∷ []

pub word-examples : T (all_seen word_examples)
unfolding widths_of total below field join goal_next goal_from clause_next clause_from clause_at outcome_number cut_to word_of cleared past_head goal_place next_goal child_goal found_said dereference argument_of bind pairing unify_pair unify_words unify_head live child_from another_from free_from undone left_for freed dead_rule raised laid goal_fields arrival grown failed succeeded taken head_store take_clause live_rule node_rule step loaded meeting installed climbed legs move place_of with_number answer_word seen_with_found answer_from answer same_list seen all_seen
word-examples = tt
