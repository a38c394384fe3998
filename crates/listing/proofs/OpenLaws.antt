-- Opening a file, by what laying out its words, loading it and writing a line promise. Document 01, "The desk program". Assumes nothing.
use Rattle.std.proofs.Common.{◌≡◌, refl, sym, ap, ap₂, ◌∙◌, unwrap_or, Bool, true, false, cond, List, [], ◌∷◌, ℕ, zero, suc, ◌+◌, ◌-◌, ◌≤◌, ◌<◌, arith, leb, length, take, drop, le-leb, None, Some, Ok}
use native.Mathlib.Nat.{sub-zero}
use lib.Seq.{take-nil}
use borrow.Author.Tests.{lt-leb}
use Rattle.model.specs.declared.Refusal.{Refusal}
use Rattle.model.specs.Answers.{Verdict, refused_at}
use Rattle.model.specs.Numbers.{refusal_number}
use Rattle.model.specs.Memory.{Memory}
use Rattle.model.specs.Calls.{Loaded, loaded_to, load_call}
use Rattle.model.specs.Bytes.{words_of_bytes}
use Rattle.desk_model.specs.declared.Opened.{Opened}
use Rattle.desk_model.specs.declared.Opened.TheVariants.{NoRoom, Refused as RefusedFile, Ready}
use Rattle.desk_model.specs.Lines.{refused_line, Wrote, wrote, line_in, roomy}
use Rattle.desk_model.specs.Desk.{FileParts, fit, file_parts, Laid, laid, laid_by, lay_call, begun, begun_by, begun_from, begun_as, open_call}
use Rattle.desk_file.proofs.FileLaws.{Within, parts_within}

drop-take : (from count : ℕ) (words : List ℕ) → drop from (take count words) ≡ take (count - from) (drop from words)
drop-take zero count words = ap (λ (n : ℕ). take n words) (sym (sub-zero count))
drop-take (suc from) zero words = let e : 0 ≡ 0 - suc from = omega arith in ap (λ (n : ℕ). take n (drop (suc from) words)) e
drop-take (suc from) (suc count) [] = sym (take-nil (suc count - suc from))
drop-take (suc from) (suc count) (word ∷ words) =
    let e : count - from ≡ suc count - suc from = omega arith in
    drop-take from count words ∙ ap (λ (n : ℕ). take n (drop from words)) e

module _ (size count : ℕ) (words : List ℕ) (m : Memory) (room : List ℕ) (found : Verdict) (after : Memory)
    (did : loaded_to found after ≡ load_call (take (count - (1 + size)) (drop (1 + size) words)) (take (1 + size - 1) (drop 1 words)) m) where
  begun-from : begun_by found size count words after room ≡ begun_from size count words m room
  unfolding begun_from
  begun-from =
      let own : 1 + size - 1 ≡ size = omega arith in
      ap (λ (l : Loaded). begun_by l.answer size count words l.after room)
      (did ∙ ap₂ (λ (i : List ℕ) (n : ℕ). load_call i (take n (drop 1 words)) m) (sym (drop-take (1 + size) count words)) own)

  pub begun-refused : (refusal : Refusal) (at number written : ℕ) (end : List ℕ) → found ≡ refused_at refusal at → number ≡ refusal_number refusal → 1024 ≤ length room
      → wrote (Some written) end ≡ line_in (roomy room) (refused_line number at) room → begun (RefusedFile written) words after end ≡ begun_from size count words m room
  unfolding begun_by
  begun-refused refusal at number written end is numbered h wrote_it =
      ap (λ (w : Wrote). begun (RefusedFile (unwrap_or w.size 0)) words after w.room)
      (wrote_it ∙ ap₂ (λ b (n : ℕ). line_in b (refused_line n at) room) (le-leb 1024 (length room) h) numbered)
      ∙ ap (λ (v : Verdict). begun_by v size count words after room) (sym is) ∙ begun-from

  pub begun-ready : found ≡ Ok tt → begun (Ready size count) words after room ≡ begun_from size count words m room
  unfolding begun_by
  begun-ready is = ap (λ (v : Verdict). begun_by v size count words after room) (sym is) ∙ begun-from

module _ (bytes words : List ℕ) (m : Memory) (room : List ℕ) where
  pub open-no-words : length words < 1297 → begun NoRoom words m room ≡ open_call bytes words m room
  unfolding open_call
  open-no-words h = simp (lt-leb 1297 (length words) h)

  pub open-no-line : 1297 ≤ length words → length room < 1024 → begun NoRoom words m room ≡ open_call bytes words m room
  unfolding open_call
  open-no-line h l = simp (le-leb 1297 (length words) h, lt-leb 1024 (length room) l)

  -- the words as they were laid out
  module _ (enough : 1297 ≤ length words) (roomy-line : 1024 ≤ length room) (parts : FileParts) (laid_out : List ℕ) (did : laid parts laid_out ≡ lay_call bytes words) where
    open-from : begun_as parts laid_out m room ≡ open_call bytes words m room
    unfolding open_call
    open-from = simp (le-leb 1297 (length words) enough, le-leb 1024 (length room) roomy-line) (ap (λ (l : Laid). begun_as l.parts l.words m room) did)

    pub open-unfit : (written : ℕ) (end : List ℕ) → parts ≡ None → wrote (Some written) end ≡ line_in (roomy room) (refused_line 28 0) room
        → begun (RefusedFile written) laid_out m end ≡ open_call bytes words m room
    unfolding begun_as
    open-unfit written end is wrote_it =
        ap (λ (w : Wrote). begun (RefusedFile (unwrap_or w.size 0)) laid_out m w.room) (wrote_it ∙ ap (λ b. line_in b (refused_line 28 0) room) (le-leb 1024 (length room) roomy-line))
        ∙ ap (λ (p : FileParts). begun_as p laid_out m room) (sym is) ∙ open-from

    pub open-fit : (size count : ℕ) (answer : Opened) (after : Memory) (end : List ℕ) → parts ≡ fit size count
        → begun answer laid_out after end ≡ begun_from size count laid_out m room → begun answer laid_out after end ≡ open_call bytes words m room
    unfolding begun_as
    open-fit size count answer after end is e = e ∙ ap (λ (p : FileParts). begun_as p laid_out m room) (sym is) ∙ open-from

-- what the parts tell of the words laid out
pub laid-within : (bytes words : List ℕ) (size count : ℕ) (after : List ℕ) → laid (fit size count) after ≡ lay_call bytes words → Within bytes size count
unfolding lay_call
laid-within bytes words size count after e = go (leb 1297 (length words)) (file_parts bytes) refl e
  where
    go : (b : Bool) (parts : FileParts) → file_parts bytes ≡ parts → laid (fit size count) after ≡ cond b (laid_by parts (words_of_bytes bytes) words) (laid None words) → Within bytes size count
    go true None q z =
        let p : fit size count ≡ None = ap (λ (l : Laid). l.parts) z in
        let y : ◌≡◌ {A = ℕ} 0 1 = cc in
        absurd (omega arith)
    go true (Some (s, c)) q z = parts_within bytes size count (ap (λ (l : Laid). l.parts) z ∙ sym q)
    go false parts q z =
        let p : fit size count ≡ None = ap (λ (l : Laid). l.parts) z in
        let y : ◌≡◌ {A = ℕ} 0 1 = cc in
        absurd (omega arith)
