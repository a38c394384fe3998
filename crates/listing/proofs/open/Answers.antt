-- `listing::open` meets its contract. Assumes nothing.
use Rattle.std.proofs.Common.{sym, ap, ◌∙◌, arith}
use Rattle.model.specs.Memory.{memory}
use Rattle.desk_model.specs.Desk.{FileParts, laid}
use Rattle.listing.specs.Fits.{Fits}
use Rattle.listing.proofs.OpenLaws.{open-no-words, open-no-line, open-unfit, open-fit, laid-within}
use Rattle.listing.proofs.open.Goals as goal

pub returns-then-words-lt1297 : goal.returns-then-words-lt1297
unfolding Fits
returns-then-words-lt1297 c = let a = c.args in (open-no-words a.bytes.now a.words.now (memory a.nodes.now a.cells.now a.trail.now a.arrays.now a.workers.now) a.line.now c.if-words-lt1297.true, tt)

pub returns-then-line-lt1024 : goal.returns-then-line-lt1024
unfolding Fits
returns-then-line-lt1024 c = let a = c.args in (open-no-line a.bytes.now a.words.now (memory a.nodes.now a.cells.now a.trail.now a.arrays.now a.workers.now) a.line.now c.if-words-lt1297.false c.if-line-lt1024.true, tt)

pub begin_parts-requires : goal.begin_parts-requires
begin_parts-requires c = let a = c.args in
    let w = laid-within a.bytes.now a.words.now c.in-Some.size c.in-Some.count _ (ap (λ (p : FileParts). laid p c.lay_file.new.words) (sym c.in-Some.is) ∙ c.lay_file.ensures) in
    (w.query, w.few, omega (arith, w.few, c.lay_file.auto, c.if-words-lt1297.false), omega (arith, c.if-line-lt1024.false))

pub returns-in-None : goal.returns-in-None
unfolding Fits
returns-in-None c = let a = c.args in
    (open-unfit a.bytes.now a.words.now (memory a.nodes.now a.cells.now a.trail.now a.arrays.now a.workers.now) a.line.now c.if-words-lt1297.false c.if-line-lt1024.false _ _ c.lay_file.ensures _ _ c.in-None.is (rw c.unwrap.ensures at c.refused_line.ensures.0), rw c.unwrap.ensures at c.refused_line.ensures.1)

pub returns-in-Some : goal.returns-in-Some
returns-in-Some c = let a = c.args in
    (open-fit a.bytes.now a.words.now (memory a.nodes.now a.cells.now a.trail.now a.arrays.now a.workers.now) a.line.now c.if-words-lt1297.false c.if-line-lt1024.false _ _ c.lay_file.ensures c.in-Some.size c.in-Some.count _ _ _ c.in-Some.is c.begin_parts.ensures.0, c.begin_parts.ensures.1)
