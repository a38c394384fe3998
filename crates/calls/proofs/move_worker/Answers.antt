-- `calls::move_worker` meets its contract. Assumes nothing.
use Rattle.std.proofs.Common.{sym, ◌∙◌}
use Rattle.model.specs.Memory.{memory}
use Rattle.calls.proofs.CallLaws.{call-legal, move-legal, move-from}
use Rattle.calls.proofs.move_worker.Goals as goal

pub move_to-requires : goal.move_to-requires
move_to-requires c = let a = c.args in
    let l = call-legal a.image.now a.query.now (memory a.nodes.now a.cells.now a.trail.now a.arrays.now a.workers.now) a.worker (move-legal a.image.now a.query.now (memory a.nodes.now a.cells.now a.trail.now a.arrays.now a.workers.now) a.worker a.slot (sym c.in_ok-move_refusal.was ∙ c.move_refusal.ensures)) in
    (l.0.arrays, l.1)

pub returns : goal.returns
returns c = let a = c.args in
    move-from a.image.now a.query.now a.nodes.now a.cells.now a.trail.now a.arrays.now a.workers.now a.worker a.slot c.move_to.result _ _
    (sym c.in_ok-move_refusal.was ∙ c.move_refusal.ensures) (c.move_to.ensures a.cells.now)
