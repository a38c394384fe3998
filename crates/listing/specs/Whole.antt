-- The calls, one after another, print the whole listing: document 01, "The desk program". `open` gives the only line or the search, and `next_line` a line of the search
-- and what is left of it. So what a program prints that writes out each line in turn is the definition's `listing`. Assumes nothing.
use Rattle.std.specs.Prelude.{◌≡◌, Bool, true, cond, List, [], ◌++◌, ℕ, suc, ◌+◌, ◌/◌, ◌≤◌, length, take, drop, Ok, Err, None, Some}
use Rattle.std.proofs.Math.Path.{refl, sym, ap}
use Rattle.std.proofs.Common.{ap₂, ◌∙◌, arith, length-drop, take_at, eq-eqb, le-leb}
use Rattle.std.proofs.Math.Seq.{take-append_seam}
use Rattle.std.proofs.lemmas.List.{take-append-le, drop-append-le}
use Rattle.model.specs.Answers.{Verdict, refused_at}
use Rattle.model.specs.declared.Refusal.TheVariants.{SliceLength}
use Rattle.model.specs.Numbers.{refusal_number}
use Rattle.model.specs.Bytes.{words_of_bytes}
use Rattle.model.specs.Image.{check_query}
use Rattle.model.specs.Memory.{Memory}
use Rattle.model.specs.Calls.{lengths_right, load_refusal, Loaded, load_if, load_call}
use Rattle.host.proofs.BytesLaws.{length-words_from}
use Rattle.desk_model.specs.declared.Stop.{Stop}
use Rattle.desk_model.specs.declared.Stop.TheVariants.{Answer, Ended}
use Rattle.desk_model.specs.declared.Line.{Line}
use Rattle.desk_model.specs.declared.Line.TheVariants.{NoRoom, More, Last}
use Rattle.desk_model.specs.declared.Opened.{Opened}
use Rattle.desk_model.specs.declared.Opened.TheVariants.{NoRoom as NoRoomToOpen, Refused as RefusedFile, Ready}
use Rattle.desk_model.specs.Lines.{refused_line}
use Rattle.desk_file.proofs.FileLaws.{parts_within}
use Rattle.desk_model.specs.Desk.{FileParts, file_parts, query_of, image_of, laid_by, lay_call, search_listing, parts_listing, listing, Begun, begun_by, begun_from, begun_as, open_call, advanced, stop_line, go_on, lines_from, Told, line_answer, line_size, next_call}

-- what is printed after a line, by the call's answer
abbrev pub rest_after : (ℕ → List ℕ) → Line → List ℕ
rest_after more NoRoom = []
rest_after more (More size steps) = more steps
rest_after more (Last size) = []

-- the line that a call wrote, and what is printed after it
abbrev pub printed : (Memory → ℕ → List ℕ) → Told → List ℕ
printed more t = take (line_size t.answer) t.line ++ rest_after (more t.after) t.answer

told-stop : (stop : Stop) (line room : List ℕ) (steps : ℕ) (more : ℕ → List ℕ)
    → line ++ go_on more stop steps
    ≡ take (line_size (line_answer stop (length line) steps)) (line ++ drop (length line) room) ++ rest_after more (line_answer stop (length line) steps)
told-stop Answer line room steps more = ap (λ (l : List ℕ). l ++ more steps) (sym (take-append_seam line (drop (length line) room)))
told-stop (Ended ending) line room steps more = ap (λ (l : List ℕ). l ++ []) (sym (take-append_seam line (drop (length line) room)))

-- a search's lines are the next call's line, and then those from the memory and the steps that it leaves
pub lines-told : (more : ℕ) (image query : List ℕ) (m : Memory) (steps : ℕ) (room : List ℕ) → length m.arrays ≡ 8192 → 1024 ≤ length room
    → lines_from (suc more) image query m steps ≡ printed (lines_from more image query) (next_call image query m steps room)
unfolding lines_from next_call
lines-told more image query m steps room h l =
    let a = advanced image query m steps in
    simp (eq-eqb (length m.arrays) 8192 h, le-leb 1024 (length room) l)
    (told-stop a.stop (stop_line a.stop query a.after a.steps) room a.steps (lines_from more image query a.after))

-- what is printed of a file, by what opening it answers and leaves
abbrev pub opened_listing : Opened → List ℕ → Memory → List ℕ → List ℕ
opened_listing NoRoomToOpen words m line = []
opened_listing (RefusedFile size) words m line = take size line
opened_listing (Ready size count) words m line = lines_from 65536 (image_of (take count words) size) (query_of words size) m 0

abbrev pub begun_listing : Begun → List ℕ
begun_listing b = opened_listing b.answer b.words b.after b.line

-- a file whose words stand at the front of a room
module _ (size count : ℕ) (words : List ℕ) (m : Memory) (room : List ℕ) (right : lengths_right m ≡ true) where
  abbrev image : List ℕ
  image = image_of (take count words) size

  abbrev query : List ℕ
  query = query_of words size

  search-begun : (found : Verdict) → search_listing found image query ≡ begun_listing (let l = load_if found query m in begun_by l.answer size count words l.after room)
  unfolding search_listing load_if begun_by
  search-begun (Ok u) = refl
  search-begun (Err stop) =
      sym (take-append_seam (refused_line (refusal_number stop.0) stop.1) (drop (length (refused_line (refusal_number stop.0) stop.1)) room))

  parts-begun : search_listing (check_query image query) image query ≡ begun_listing (begun_from size count words m room)
  unfolding begun_from load_call load_refusal
  parts-begun =
      search-begun (check_query image query)
      ∙ ap (λ (l : Loaded). begun_listing (begun_by l.answer size count words l.after room))
      (ap (λ (b : Bool). load_if (cond b (check_query image query) (refused_at SliceLength 0)) query m) (sym right))

-- the parts of a file are the same among its words and at the front of the room
query-laid : (all rest : List ℕ) (size : ℕ) → 1 + size ≤ length all → query_of all size ≡ query_of (all ++ rest) size
query-laid all rest size h =
    sym (take-append-le size (drop 1 all) rest (omega (arith, length-drop 1 all))) ∙ ap (take size) (sym (drop-append-le 1 all rest (omega arith)))

-- opening a file gives its listing's only line, or the search whose lines are the listing
pub listing-opened : (bytes words : List ℕ) (m : Memory) (room : List ℕ) → lengths_right m ≡ true → 1297 ≤ length words → 1024 ≤ length room
    → listing bytes ≡ begun_listing (open_call bytes words m room)
unfolding listing open_call lay_call parts_listing begun_as words_of_bytes
listing-opened bytes words m room right h l =
    simp (le-leb 1297 (length words) h, le-leb 1024 (length room) l) (go (file_parts bytes) refl)
  where
    go : (parts : FileParts) → parts ≡ file_parts bytes
        → parts_listing parts (words_of_bytes bytes)
        ≡ begun_listing (begun_as (laid_by parts (words_of_bytes bytes) words).parts (laid_by parts (words_of_bytes bytes) words).words m room)
    go None q = sym (take-append_seam (refused_line 28 0) (drop (length (refused_line 28 0)) room))
    go (Some (size, count)) q =
        let w = parts_within bytes size count q in
        let long : length (words_of_bytes bytes) ≡ count = length-words_from bytes (length bytes / 4) 0 ∙ sym w.all in
        let laid_out = words_of_bytes bytes ++ drop count words in
        ap₂ (λ (i q : List ℕ). search_listing (check_query i q) i q)
        (ap (λ (l : List ℕ). image_of l size) (sym (take_at (words_of_bytes bytes) (drop count words) count long)))
        (query-laid (words_of_bytes bytes) (drop count words) size (omega (arith, long, w.query)))
        ∙ parts-begun size count laid_out m room right
