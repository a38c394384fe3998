-- `calls::run` meets its contract. Assumes nothing.
use Rattle.std.proofs.Common.{sym, ◌∙◌, ◌+◌, ◌-◌, ◌*◌, arith}
use native.Mathlib.Nat.{add-sub_cancel_left}
use Rattle.model.specs.Memory.{memory}
use Rattle.calls.proofs.CallLaws.{call-legal, run-from}
use Rattle.calls.proofs.run.Goals as goal

pub slice_bounds-array-end : goal.slice_bounds-array-end
slice_bounds-array-end c = let a = c.args in
    let l = call-legal a.image.now a.query.now (memory a.nodes.now a.cells.now a.trail.now a.arrays.now a.workers.now) a.worker (sym c.in_ok-call_refusal.was ∙ c.call_refusal.ensures) in
    let n = l.0.arrays in
    let w = l.1 in
    omega arith

pub returns : goal.returns
returns c = let a = c.args in
    run-from a.image.now a.query.now a.nodes.now a.cells.now a.trail.now a.arrays.now a.workers.now a.worker a.budget (2048 * a.worker + 2048 - 2048 * a.worker) _ _ _ _ _
    c.run-ended.result.outcome c.run-ended.result.count c.word_at-slot.result (add-sub_cancel_left (2048 * a.worker) 2048) (sym c.in_ok-call_refusal.was ∙ c.call_refusal.ensures) c.run-ended.ensures c.word_at-slot.ensures
