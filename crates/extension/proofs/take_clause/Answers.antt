-- `extension::take_clause` meets its contract. Assumes nothing.
use Rattle.std.proofs.Common.{◌<◌, arith}
use Rattle.extension.proofs.TakeLaws.{head_store-count, take-failed, take-succeeded}
use Rattle.extension.proofs.take_clause.Goals as goal

pub fail-requires : goal.fail-requires
fail-requires c = let a = c.args in
    let v = a.view.now in
    let n = head_store-count a.search.image.now a.search.query.now v.nodes.now v.array.now v.cells.now v.trail.now a.call.node a.child a.call.predicate a.position _ _ _ c.try_head.result c.try_head.ensures.did in
    let m : c.in-Err.field-0.0 < 16 = rw c.in-Err.is at n in
    omega arith

pub returns-in-Err-clause-did : goal.returns-in-Err-clause-did
returns-in-Err-clause-did c = let a = c.args in
    let v = a.view.now in
    let h = c.try_head.ensures in
    take-failed a.search.image.now a.search.query.now v.nodes.now v.cells.now v.trail.now v.array.now v.workers.now a.worker a.call.node a.child a.call.predicate a.position
    c.requires.1.0 c.requires.2 _ _ _ _ _ c.try_head.result h.did h.rest.0 h.rest.1
    c.in-Err.field-0.0 _ c.in-Err.is c.fail.ensures.did

pub returns-in-Ok-clause-did : goal.returns-in-Ok-clause-did
returns-in-Ok-clause-did c = let a = c.args in
    let v = a.view.now in
    let h = c.try_head.ensures in
    take-succeeded a.search.image.now a.search.query.now v.nodes.now v.cells.now v.trail.now v.array.now v.workers.now a.worker a.call.node a.child a.call.predicate a.position
    c.requires.1.0 c.requires.2 _ _ _ _ _ c.try_head.result h.did h.rest.0 h.rest.1
    c.in-Ok.count _ c.in-Ok.is c.succeed.ensures.did
