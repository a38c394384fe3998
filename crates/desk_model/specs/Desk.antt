-- The desk program, from the bytes of its file to the bytes of its listing: document 01, "The desk program". The lines themselves stand in `Lines`.
-- Where the page is silent: an unfit file comes before all else, then the image is judged, then the query; step 65,535 may still be an answer or the end of
-- the search, and `spent` comes at once after it otherwise, even where the next step would be Full. Assumes nothing.
use Rattle.std.specs.Prelude.{Option, None, Some, cond, ◌&&◌, List, [], ◌++◌, ℕ, zero, suc, ◌+◌, ◌-◌, ◌/◌, ◌%◌, eqb, leb, length, take, drop, Ok, Err}
use Rattle.model.specs.declared.Outcome.{Outcome}
use Rattle.model.specs.declared.Outcome.TheVariants.{Tried, Extended, Answer as AnswerMade, Back, Left, Wait, Finished as FinishedSearch, Spent as SpentBudget, Full as FullSlots}
use Rattle.model.specs.Answers.{Verdict}
use Rattle.model.specs.Numbers.{refusal_number}
use Rattle.model.specs.Bytes.{word_of_bytes, words_of_bytes}
use Rattle.model.specs.Image.{check_query}
use Rattle.model.specs.Memory.{Memory}
use Rattle.model.specs.Steps.{view_of, with_view, run}
use Rattle.model.specs.Moves.{loaded, answer}
use Rattle.model.specs.Calls.{load_call}
use Rattle.desk_model.specs.declared.Ending.TheVariants.{Finished, Full, Spent}
use Rattle.desk_model.specs.declared.Stop.{Stop}
use Rattle.desk_model.specs.declared.Stop.TheVariants.{Answer, Ended}
use Rattle.desk_model.specs.declared.Opened.{Opened}
use Rattle.desk_model.specs.declared.Opened.TheVariants.{NoRoom as NoRoomToOpen, Refused as RefusedFile, Ready}
use Rattle.desk_model.specs.declared.Line.{Line}
use Rattle.desk_model.specs.declared.Line.TheVariants.{NoRoom, More, Last}
use Rattle.desk_model.specs.Lines.{answer_line, ending_line, refused_line, roomy}

-- the parts of a file: the query's length and the count of all words; or none, where no such file is read at all
abbrev pub FileParts : Type 0
FileParts = Option (ℕ × ℕ)

abbrev pub fit : ℕ → ℕ → FileParts
fit size count = Some (size, count)

-- "query length, query, image (at most 272 and 1,024 words)"; "a file empty, not of whole words, too short for its query, or past either limit" is unfit
unfoldable pub file_parts : List ℕ → FileParts
file_parts bytes =
    cond (eqb (length bytes) 0) None
    (cond (eqb (length bytes % 4) 0)
    (cond (leb (word_of_bytes bytes 0) 272)
    (cond (leb (1 + word_of_bytes bytes 0) (length bytes / 4))
    (cond (leb (length bytes / 4 - (1 + word_of_bytes bytes 0)) 1024) (fit (word_of_bytes bytes 0) (length bytes / 4))
    None)
    None)
    None)
    None)

-- the query and the image among a file's words, by the query's length
abbrev pub query_of : List ℕ → ℕ → List ℕ
query_of words size = take size (drop 1 words)

abbrev pub image_of : List ℕ → ℕ → List ℕ
image_of words size = drop (1 + size) words

-- a file's parts, and its words laid out at the front of a room; in a room of less than 1,297 words, the most that a file has, none is laid out
pub record Laid : Type 0 where
  pub parts : FileParts
  pub words : List ℕ

abbrev pub laid : FileParts → List ℕ → Laid
laid parts words = record { parts = parts; words = words }

abbrev pub laid_by : FileParts → List ℕ → List ℕ → Laid
laid_by None all words = laid None words
laid_by (Some (size, count)) all words = laid (fit size count) (all ++ drop count words)

unfoldable pub lay_call : List ℕ → List ℕ → Laid
lay_call bytes words = cond (leb 1297 (length words)) (laid_by (file_parts bytes) (words_of_bytes bytes) words) (laid None words)

-- what a run of worker 0 stops at; a lone worker never sees Wait, and no run stops at what else is here said to be spent
unfoldable pub stop_of : Outcome → Stop
stop_of Tried = Ended Spent
stop_of Extended = Ended Spent
stop_of AnswerMade = Answer
stop_of Back = Ended Spent
stop_of Left = Ended Spent
stop_of Wait = Ended Spent
stop_of FinishedSearch = Ended Finished
stop_of SpentBudget = Ended Spent
stop_of FullSlots = Ended Full

-- where a run stopped, the steps so far, and the memory then
pub record Advanced : Type 0 where
  pub stop : Stop
  pub steps : ℕ
  pub after : Memory

abbrev pub advanced_to : Stop → ℕ → Memory → Advanced
advanced_to stop steps after = record { stop = stop; steps = steps; after = after }

-- "it steps with worker 0 alone", "65,535 steps in all"
unfoldable pub advanced : List ℕ → List ℕ → Memory → ℕ → Advanced
advanced image query m steps =
    let r = run image query (view_of m 0) 0 (65535 - steps) in
    advanced_to (stop_of r.outcome) (steps + r.count) (with_view m 0 r.after)

-- the line for a stop
unfoldable pub stop_line : Stop → List ℕ → Memory → ℕ → List ℕ
stop_line Answer query m steps = answer_line steps (answer query m 0)
stop_line (Ended ending) query m steps = ending_line ending steps

-- what comes after a stop, from the steps so far on
abbrev pub go_on : (ℕ → List ℕ) → Stop → ℕ → List ℕ
go_on more Answer steps = more steps
go_on more (Ended ending) steps = []

-- at most so many lines, from a memory and the steps so far on
unfoldable pub lines_from : ℕ → List ℕ → List ℕ → Memory → ℕ → List ℕ
lines_from zero image query m steps = []
lines_from (suc more) image query m steps =
    let a = advanced image query m steps in
    stop_line a.stop query a.after a.steps ++ go_on (lines_from more image query a.after) a.stop a.steps

-- "`refused R P`"; otherwise at most an answer at each step, and the last line
unfoldable pub search_listing : Verdict → List ℕ → List ℕ → List ℕ
search_listing (Err stop) image query = refused_line (refusal_number stop.0) stop.1
search_listing (Ok u) image query = lines_from 65536 image query (loaded query) 0

unfoldable pub parts_listing : FileParts → List ℕ → List ℕ
parts_listing None words = refused_line 28 0
parts_listing (Some (size, count)) words = search_listing (check_query (image_of words size) (query_of words size)) (image_of words size) (query_of words size)

-- the whole listing
unfoldable pub listing : List ℕ → List ℕ
listing bytes = parts_listing (file_parts bytes) (words_of_bytes bytes)

-- The listing call by call. What opening a file does: its words laid out in a room of at least 1,297, the memory loaded, or the line that refuses it written.
pub record Begun : Type 0 where
  pub answer : Opened
  pub words : List ℕ
  pub after : Memory
  pub line : List ℕ

abbrev pub begun : Opened → List ℕ → Memory → List ℕ → Begun
begun answer words after line = record { answer = answer; words = words; after = after; line = line }

-- the line that refuses a file, at the front of its room
abbrev pub refusing : ℕ → ℕ → List ℕ → Memory → List ℕ → Begun
refusing number position words m room =
    begun (RefusedFile (length (refused_line number position))) words m (refused_line number position ++ drop (length (refused_line number position)) room)

unfoldable pub begun_by : Verdict → ℕ → ℕ → List ℕ → Memory → List ℕ → Begun
begun_by (Err stop) size count words m room = refusing (refusal_number stop.0) stop.1 words m room
begun_by (Ok u) size count words m room = begun (Ready size count) words m room

-- the file whose words stand at the front of a room is loaded; a memory of the wrong lengths is refused as 20
unfoldable pub begun_from : ℕ → ℕ → List ℕ → Memory → List ℕ → Begun
begun_from size count words m room =
    let l = load_call (image_of (take count words) size) (query_of words size) m in
    begun_by l.answer size count words l.after room

unfoldable pub begun_as : FileParts → List ℕ → Memory → List ℕ → Begun
begun_as None words m room = refusing 28 0 words m room
begun_as (Some (size, count)) words m room = begun_from size count words m room

unfoldable pub open_call : List ℕ → List ℕ → Memory → List ℕ → Begun
open_call bytes words m room =
    cond (leb 1297 (length words) && roomy room)
    (let l = lay_call bytes words in begun_as l.parts l.words m room)
    (begun NoRoomToOpen words m room)

-- what the next line's call does: worker 0 runs to its next stop, whose line is written at the front of a room
pub record Told : Type 0 where
  pub answer : Line
  pub after : Memory
  pub line : List ℕ

abbrev pub told : Line → Memory → List ℕ → Told
told answer after line = record { answer = answer; after = after; line = line }

abbrev pub line_answer : Stop → ℕ → ℕ → Line
line_answer Answer size steps = More size steps
line_answer (Ended ending) size steps = Last size

-- how long the line is that was written
abbrev pub line_size : Line → ℕ
line_size NoRoom = 0
line_size (More size steps) = size
line_size (Last size) = size

-- a line at the front of its room
abbrev pub tell_line : Advanced → List ℕ → List ℕ → Told
tell_line a line room = told (line_answer a.stop (length line) a.steps) a.after (line ++ drop (length line) room)

unfoldable pub next_call : List ℕ → List ℕ → Memory → ℕ → List ℕ → Told
next_call image query m steps room =
    cond (eqb (length m.arrays) 8192 && roomy room)
    (let a = advanced image query m steps in tell_line a (stop_line a.stop query a.after a.steps) room)
    (told NoRoom m room)
