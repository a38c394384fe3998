-- The next line's call, by its tests. Document 01, "The desk program". Assumes nothing.
use Rattle.std.proofs.Common.{◌≡◌, refl, ap, ◌∙◌, Some, unwrap_or, true, List, ℕ, ◌≤◌, ◌<◌, arith, length, eq-eqb, ne_eqb, le-leb}
use borrow.Author.Tests.{lt-leb}
use Rattle.model.specs.Memory.{Memory}
use Rattle.desk_model.specs.declared.Stop.{Stop}
use Rattle.desk_model.specs.declared.Stop.TheVariants.{Answer, Ended}
use Rattle.desk_model.specs.declared.Line.{Line}
use Rattle.desk_model.specs.declared.Line.TheVariants.{NoRoom}
use Rattle.desk_model.specs.Lines.{Wrote, wrote, line_in}
use Rattle.desk_model.specs.Desk.{Advanced, advanced_to, advanced, stop_line, line_answer, line_size, told, tell_line, next_call}

module _ (image query : List ℕ) (m : Memory) (steps : ℕ) (room : List ℕ) where
  pub next-no-arrays : (length m.arrays ≡ 8192 → ⊥) → (told NoRoom m room ≡ next_call image query m steps room) × (0 ≤ 1024)
  unfolding next_call
  next-no-arrays h = (simp (ne_eqb (length m.arrays) 8192 h), omega arith)

  pub next-no-room : length m.arrays ≡ 8192 → length room < 1024 → (told NoRoom m room ≡ next_call image query m steps room) × (0 ≤ 1024)
  unfolding next_call
  next-no-room h l = (simp (eq-eqb (length m.arrays) 8192 h, lt-leb 1024 (length room) l), omega arith)

  pub next-told : (stop : Stop) (so_far : ℕ) (after : Memory) (size : ℕ) (end : List ℕ) (answer : Line) → length m.arrays ≡ 8192 → 1024 ≤ length room
      → advanced_to stop so_far after ≡ advanced image query m steps → wrote (Some size) end ≡ line_in true (stop_line stop query after so_far) room → size ≤ 1024
      → answer ≡ line_answer stop size so_far → (told answer after end ≡ next_call image query m steps room) × (line_size answer ≤ 1024)
  unfolding next_call
  next-told stop so_far after size end answer h l did wrote_it small is = (
    simp (eq-eqb (length m.arrays) 8192 h, le-leb 1024 (length room) l)
        (ap (λ (a : Line). told a after end) is ∙ ap (λ (w : Wrote). told (line_answer stop (unwrap_or w.size 0) so_far) after w.room) wrote_it
        ∙ ap (λ (a : Advanced). tell_line a (stop_line a.stop query a.after a.steps) room) did),
    omega (arith, small, ap line_size is ∙ same stop),
  )
    where
      same : (s : Stop) → line_size (line_answer s size so_far) ≡ size
      same Answer = refl
      same (Ended ending) = refl
