-- `spread::groups::judge` meets its contract. Assumes nothing.
use Rattle.std.proofs.Common.{◌≡◌, sym, ◌∙◌, ◌+◌, arith}
use Rattle.model.specs.Spread.{group_size}
use Rattle.model.specs.Fields.{widths_of, kept_fields}
use Rattle.spread.proofs.LoopLaws.{judge-end, judge-short, judge-turn}
use Rattle.spread.proofs.groups.judge.Goals as goal

pub returns-then-list-place : goal.returns-then-list-place
unfolding group_size
returns-then-list-place c =
    let a = c.args in
    let l = c.loop-j in
    sym (judge-short (widths_of a.kind) (kept_fields a.kind) a.list.now (a.at + l.j) l.j (omega (arith, c.size_of-size.ensures)) c.if-list-place.true) ∙ l.invariant.judges

pub returns-then-not-fits_kept : goal.returns-then-not-fits_kept
unfolding group_size
returns-then-not-fits_kept c =
    let a = c.args in
    let l = c.loop-j in
    let t = judge-turn (widths_of a.kind) (kept_fields a.kind) a.list.now (a.at + l.j) l.j (omega (arith, c.size_of-size.ensures)) c.if-list-place.false in
    sym (rw (sym c.fits_kept.ensures ∙ c.if-not-fits_kept.true) at t) ∙ l.invariant.judges

pub loop-j-preserved : goal.loop-j-preserved
unfolding group_size
loop-j-preserved c =
    let a = c.args in
    let l = c.loop-j in
    let t = judge-turn (widths_of a.kind) (kept_fields a.kind) a.list.now (a.at + l.j) l.j (omega (arith, c.size_of-size.ensures)) c.if-list-place.false in
    let n : a.at + (l.j + 1) ≡ a.at + l.j + 1 = omega arith in
    record { in_size = omega arith; inside = omega arith; judges = rw n (sym (rw (sym c.fits_kept.ensures ∙ c.if-not-fits_kept.false) at t) ∙ l.invariant.judges) }

pub returns : goal.returns
unfolding group_size
returns c =
    let a = c.args in
    let l = c.loop-j in
    let e = judge-end (widths_of a.kind) (kept_fields a.kind) a.list.now (a.at + l.j) l.j (omega (arith, c.size_of-size.ensures)) in
    let n : a.at + l.j ≡ a.at + c.size_of-size.result = omega arith in
    rw (sym n) (sym e ∙ l.invariant.judges)
