-- `calls::load` meets its contract. Assumes nothing.
use Rattle.std.proofs.Common.{sym, ap, ◌∙◌, Ok}
use Rattle.model.specs.Calls.{loaded_to, load_if, load_call}
use Rattle.model.specs.Memory.{memory}
use Rattle.model.specs.Answers.{Verdict}
use Rattle.calls.proofs.CallLaws.{load-lengths}
use Rattle.calls.proofs.load.Goals as goal

pub load-requires : goal.load-requires
load-requires c = let a = c.args in
    let l = load-lengths a.image.now a.query.now (memory a.nodes.now a.cells.now a.trail.now a.arrays.now a.workers.now) (sym c.in_ok-load_refusal.was ∙ c.load_refusal.ensures) in
    (l.nodes, l.cells, l.trail, l.arrays, l.workers)

pub returns : goal.returns
unfolding load_call load_if
returns c = let a = c.args in
    ap (loaded_to (Ok tt)) c.load.ensures ∙ ap (λ (v : Verdict). load_if v a.query.now (memory a.nodes.now a.cells.now a.trail.now a.arrays.now a.workers.now)) (sym c.in_ok-load_refusal.was ∙ c.load_refusal.ensures)
