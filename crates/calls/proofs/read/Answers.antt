-- `calls::read` meets its contract. Assumes nothing.
use Rattle.std.proofs.Common.{sym, ◌∙◌, length}
use Rattle.model.specs.Memory.{memory}
use Rattle.calls.proofs.CallLaws.{call-legal, read-legal, read-from}
use Rattle.calls.proofs.read.Goals as goal

pub read_answer-requires : goal.read_answer-requires
read_answer-requires c = let a = c.args in
    let r = read-legal a.image.now a.query.now (memory a.nodes.now a.cells.now a.trail.now a.arrays.now a.workers.now) a.worker (length a.room.now) (sym c.in_ok-read_refusal.was ∙ c.read_refusal.ensures) in
    let l = call-legal a.image.now a.query.now (memory a.nodes.now a.cells.now a.trail.now a.arrays.now a.workers.now) a.worker r.0 in
    (l.0.arrays, l.1, r.1)

pub returns : goal.returns
returns c = let a = c.args in
    read-from a.image.now a.query.now (memory a.nodes.now a.cells.now a.trail.now a.arrays.now a.workers.now) a.worker c.read_answer.result a.room.now _ (sym c.in_ok-read_refusal.was ∙ c.read_refusal.ensures) (c.read_answer.ensures a.nodes.now a.trail.now a.workers.now)
