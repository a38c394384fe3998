-- `files::read_full` meets its contract: what a turn reads goes on behind what stands in front. Assumes nothing.
use Rattle.std.proofs.Common.{◌≡◌, ℕ, ◌+◌, ◌-◌, ◌≤◌, List, ◌++◌, length, take, sym, ap, ap₂, ◌∙◌, subst, le_refl, drop_at, length-take-le, take-add, rules}
use Rattle.std.proofs.lemmas.List.{take-append-le}
use Rattle.std.proofs.lemmas.Slice.{take-put_mid_below}
use Rattle.std.proofs.KnownBytes.{Consumes-trans}
use Rattle.std.specs.Io.KnownBytes.{Consumes}
use borrow.Rule.Slice.PartMut.{put_mid, post_of}
use Rattle.files.proofs.read_full.Goals as goal

-- the first a of a list and the first n of what was put behind them
take-put_mid_into : (a k n : ℕ) (xs ys : List ℕ) → a ≤ length xs → n ≤ length ys → take (a + n) (put_mid a k xs ys) ≡ take a xs ++ take n ys
take-put_mid_into a k n xs ys within fits =
    let all = ys ++ post_of a k xs in
    take-add a n (put_mid a k xs ys)
    ∙ ap₂ (λ (front : List ℕ) (behind : List ℕ). front ++ behind) (take-put_mid_below a k xs ys a (le_refl a) within)
    (ap (take n) (drop_at (take a xs) all a (length-take-le a xs within)) ∙ take-append-le n ys (post_of a k xs) fits)

pub loop-done-preserved : goal.loop-done-preserved
loop-done-preserved g c =
    let l = c.loop-done in
    let now = take-put_mid_into l.done (length l.bytes - l.done) c.in-Ok.count l.bytes c.read.new.buf l.invariant.room c.in-Ok.ensures.bound.0 in
    record {
      room = search rules;
      same = search rules;
      taken = subst (Consumes _ _) (sym now) (Consumes-trans _ _ _ _ _ l.invariant.taken c.in-Ok.ensures.bytes.0);
    }
