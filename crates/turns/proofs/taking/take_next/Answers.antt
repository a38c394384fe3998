-- `turns::taking::take_next` meets its contract. Assumes nothing.
use Rattle.std.proofs.Common.{List, ◌≡◌, ap, subst, sym, ◌∙◌, ℕ, ◌<◌, arith}
use Rattle.model.specs.Decoding.{clause_at, clause_from}
use Rattle.model.specs.Memory.{frame, tried}
use Rattle.model.specs.Goals.{clause_words}
use Rattle.model.specs.Fields.{arity}
use Rattle.model.specs.Image.{predicate_word}
use Rattle.goals.specs.Calls.{IsCall}
use Rattle.memory.specs.Views.{words_of}
use Rattle.model.specs.Steps.{View, view, take_clause}
use Rattle.turns.specs.Progress.{Tries}
use Rattle.memory.proofs.FieldBounds.{tried-lt, clause_count-lt, clause_length-lt}
use Rattle.children.specs.Children.{Counted}
use Rattle.children.proofs.ChildLaws.{same-counted}
use Rattle.turns.proofs.PassingLaws.{take_step}
use Rattle.turns.proofs.ProgressLaws.{untried, place-lt, position-lt, aimed, skip-tries, skip-none}
use Rattle.turns.proofs.HandLaws.{skip-keeps, clause_at-add, clause_at-on, predicate_of-lt}
use Rattle.turns.proofs.taking.take_next.Goals as goal

pub clause_place-position-requires : goal.clause_place-position-requires
clause_place-position-requires c = let a = c.args in
    let p = c.requires in
    (p.tables_true.1, omega (arith, p.live_node.2.0, predicate_of-lt a.search.image.now a.search.query.now a.view.now.nodes.now a.call.node), omega (arith, c.tried-tried.ensures, tried-lt a.view.now.nodes.now a.call.node))

pub skip-stretch-requires : goal.skip-stretch-requires
skip-stretch-requires c = let a = c.args in
    let p = c.requires in
    let at = c.clause_place-position.ensures ∙ ap (clause_at a.search.image.now a.call.predicate) c.tried-tried.ensures in
    (place-lt a.search.image.now a.search.query.now a.view.now.nodes.now a.view.now.workers.now a.worker a.call.node a.child a.call.predicate a.call.place p.live_node.0 p.live_node.1 p.live_node.2.0 p.live_node.2.1, position-lt a.search.image.now a.search.query.now a.view.now.nodes.now a.view.now.workers.now a.worker a.call.node a.child a.call.predicate a.call.place p.live_node.0 p.live_node.1 p.live_node.2.0 p.live_node.2.1 c.clause_place-position.result at, omega (arith, untried a.search.image.now a.search.query.now a.view.now.nodes.now a.view.now.workers.now a.worker a.call.node a.child a.call.predicate a.call.place p.live_node.0 p.live_node.1 p.live_node.2.0 p.live_node.2.1))

pub overflow_add-tried : goal.overflow_add-tried
overflow_add-tried c = let a = c.args in
    let p = c.requires in
    let more = untried a.search.image.now a.search.query.now a.view.now.nodes.now a.view.now.workers.now a.worker a.call.node a.child a.call.predicate a.call.place p.live_node.0 p.live_node.1 p.live_node.2.0 p.live_node.2.1 in
    let kept = skip-keeps a.search.image.now a.search.query.now a.view.now.nodes.now a.view.now.cells.now a.view.now.trail.now a.view.now.array.now a.call.node a.child a.call.predicate a.call.place c.clause_place-position.result c.allowed-most.result c.skip-stretch.new.nodes c.skip-stretch.result.count c.skip-stretch.ensures.0 in
    omega (arith, kept.1, more, c.tried-tried.ensures, clause_count-lt (predicate_word a.search.image.now a.call.predicate))

pub keep_clause-requires : goal.keep_clause-requires
keep_clause-requires c = let a = c.args in
    let p = c.requires in
    let more = untried a.search.image.now a.search.query.now a.view.now.nodes.now a.view.now.workers.now a.worker a.call.node a.child a.call.predicate a.call.place p.live_node.0 p.live_node.1 p.live_node.2.0 p.live_node.2.1 in
    let kept = skip-keeps a.search.image.now a.search.query.now a.view.now.nodes.now a.view.now.cells.now a.view.now.trail.now a.view.now.array.now a.call.node a.child a.call.predicate a.call.place c.clause_place-position.result c.allowed-most.result c.skip-stretch.new.nodes c.skip-stretch.result.count c.skip-stretch.ensures.0 in
    let next = c.skip-stretch.ensures.1 ∙ ap (λ (q : ℕ). clause_from a.search.image.now q c.skip-stretch.result.count) c.clause_place-position.ensures ∙ clause_at-add a.search.image.now a.call.predicate c.tried-tried.result c.skip-stretch.result.count in
    (p.tables_true.1, omega (arith, p.live_node.2.0, predicate_of-lt a.search.image.now a.search.query.now a.view.now.nodes.now a.call.node), omega (arith, kept.1, more, c.tried-tried.ensures, clause_count-lt (predicate_word a.search.image.now a.call.predicate)), next)

pub returns-then-passed-gt0-clause-did : goal.returns-then-passed-gt0-clause-did
returns-then-passed-gt0-clause-did c = let a = c.args in
    let p = c.requires in
    let at = c.clause_place-position.ensures ∙ ap (clause_at a.search.image.now a.call.predicate) c.tried-tried.ensures in
    let more = untried a.search.image.now a.search.query.now a.view.now.nodes.now a.view.now.workers.now a.worker a.call.node a.child a.call.predicate a.call.place p.live_node.0 p.live_node.1 p.live_node.2.0 p.live_node.2.1 in
    let aim = aimed a.search.image.now a.search.query.now a.view.now.nodes.now a.view.now.workers.now a.worker a.call.node a.child a.call.predicate a.call.place p.live_node.0 p.live_node.1 p.live_node.2.0 p.live_node.2.1 p.free_child.0 p.free_child.1 p.free_child.2 in
    let kept = skip-keeps a.search.image.now a.search.query.now a.view.now.nodes.now a.view.now.cells.now a.view.now.trail.now a.view.now.array.now a.call.node a.child a.call.predicate a.call.place c.clause_place-position.result c.allowed-most.result c.skip-stretch.new.nodes c.skip-stretch.result.count c.skip-stretch.ensures.0 in
    let t = skip-tries a.search.image.now a.search.query.now a.view.now.nodes.now a.view.now.cells.now a.view.now.trail.now a.view.now.array.now a.view.now.workers.now a.worker a.call.node a.child a.call.predicate a.call.place c.clause_place-position.result c.allowed-most.result aim (omega (arith, more)) at c.skip-stretch.new.nodes c.skip-stretch.result.count c.skip-stretch.ensures.0 in
    (c.if-passed-gt0.true, omega (arith, t.0, c.allowed-most.ensures), t.1)

pub returns-then-passed-gt0-clause-tables_true : goal.returns-then-passed-gt0-clause-tables_true
returns-then-passed-gt0-clause-tables_true c = let a = c.args in
    let p = c.requires in
    let kept = skip-keeps a.search.image.now a.search.query.now a.view.now.nodes.now a.view.now.cells.now a.view.now.trail.now a.view.now.array.now a.call.node a.child a.call.predicate a.call.place c.clause_place-position.result c.allowed-most.result c.skip-stretch.new.nodes c.skip-stretch.result.count c.skip-stretch.ensures.0 in
    (p.tables_true.0, c.keep_clause.ensures, same-counted a.view.now.nodes.now c.skip-stretch.new.nodes a.hand.now.children.now kept.0 p.tables_true.2)

pub overflow_add-next : goal.overflow_add-next
overflow_add-next c = let a = c.args in
    let p = c.requires in
    let at = c.clause_place-position.ensures ∙ ap (clause_at a.search.image.now a.call.predicate) c.tried-tried.ensures in
    omega (arith, position-lt a.search.image.now a.search.query.now a.view.now.nodes.now a.view.now.workers.now a.worker a.call.node a.child a.call.predicate a.call.place p.live_node.0 p.live_node.1 p.live_node.2.0 p.live_node.2.1 c.clause_place-position.result at, c.clause_length.ensures, clause_length-lt c.word_at.result)

pub overflow_add-tried-2 : goal.overflow_add-tried-2
overflow_add-tried-2 c = let a = c.args in
    let p = c.requires in
    omega (arith, c.tried-tried.ensures, tried-lt a.view.now.nodes.now a.call.node)

pub keep_clause-requires-2 : goal.keep_clause-requires-2
keep_clause-requires-2 c = let a = c.args in
    let p = c.requires in
    let more = untried a.search.image.now a.search.query.now a.view.now.nodes.now a.view.now.workers.now a.worker a.call.node a.child a.call.predicate a.call.place p.live_node.0 p.live_node.1 p.live_node.2.0 p.live_node.2.1 in
    (p.tables_true.1, omega (arith, p.live_node.2.0, predicate_of-lt a.search.image.now a.search.query.now a.view.now.nodes.now a.call.node), omega (arith, more, c.tried-tried.ensures, clause_count-lt (predicate_word a.search.image.now a.call.predicate)), clause_at-on a.search.image.now a.call.predicate c.tried-tried.result _ _ _ c.clause_place-position.ensures c.word_at.ensures c.clause_length.ensures)

pub take_one-requires : goal.take_one-requires
take_one-requires c = let a = c.args in
    let p = c.requires in
    let at = c.clause_place-position.ensures ∙ ap (clause_at a.search.image.now a.call.predicate) c.tried-tried.ensures in
    let more = untried a.search.image.now a.search.query.now a.view.now.nodes.now a.view.now.workers.now a.worker a.call.node a.child a.call.predicate a.call.place p.live_node.0 p.live_node.1 p.live_node.2.0 p.live_node.2.1 in
    let aim = aimed a.search.image.now a.search.query.now a.view.now.nodes.now a.view.now.workers.now a.worker a.call.node a.child a.call.predicate a.call.place p.live_node.0 p.live_node.1 p.live_node.2.0 p.live_node.2.1 p.free_child.0 p.free_child.1 p.free_child.2 in
    let same = skip-none a.search.image.now a.search.query.now a.view.now.nodes.now a.view.now.cells.now a.view.now.trail.now a.view.now.array.now a.view.now.workers.now a.worker a.call.node a.child a.call.predicate a.call.place c.clause_place-position.result c.allowed-most.result aim (omega (arith, more)) at c.skip-stretch.new.nodes c.skip-stretch.result.count c.if-passed-gt0.false c.skip-stretch.ensures.0 in
    let kept = subst (λ (n : List ℕ). ((a.child < 64) × IsCall a.search.image.now a.search.query.now n a.call × (c.clause_place-position.result ≡ clause_at a.search.image.now a.call.predicate (tried n a.call.node))) × Counted n a.hand.now.children.now)
    same ((p.free_child.2, p.live_node.2, at), p.tables_true.2) in
    record { clause_found = kept.0; counted = kept.1 }

pub returns-clause-did : goal.returns-clause-did
returns-clause-did c = let a = c.args in
    let p = c.requires in
    let at = c.clause_place-position.ensures ∙ ap (clause_at a.search.image.now a.call.predicate) c.tried-tried.ensures in
    let more = untried a.search.image.now a.search.query.now a.view.now.nodes.now a.view.now.workers.now a.worker a.call.node a.child a.call.predicate a.call.place p.live_node.0 p.live_node.1 p.live_node.2.0 p.live_node.2.1 in
    let aim = aimed a.search.image.now a.search.query.now a.view.now.nodes.now a.view.now.workers.now a.worker a.call.node a.child a.call.predicate a.call.place p.live_node.0 p.live_node.1 p.live_node.2.0 p.live_node.2.1 p.free_child.0 p.free_child.1 p.free_child.2 in
    let same = skip-none a.search.image.now a.search.query.now a.view.now.nodes.now a.view.now.cells.now a.view.now.trail.now a.view.now.array.now a.view.now.workers.now a.worker a.call.node a.child a.call.predicate a.call.place c.clause_place-position.result c.allowed-most.result aim (omega (arith, more)) at c.skip-stretch.new.nodes c.skip-stretch.result.count c.if-passed-gt0.false c.skip-stretch.ensures.0 in
    c.take_one.ensures.did
    ∙ ap (λ (v : View). take_clause a.search.image.now a.search.query.now v a.worker a.call.node a.child)
    (ap (λ (n : List ℕ). view n a.view.now.cells.now a.view.now.trail.now a.view.now.array.now a.view.now.workers.now) (sym same))
    ∙ take_step a.search.image.now a.search.query.now a.view.now.workers.now (clause_words a.search.image.now a.search.query.now a.view.now.nodes.now (frame a.view.now.nodes.now a.call.node)) a.worker a.call.node a.child (frame a.view.now.nodes.now a.call.node) _ a.call.place (arity (predicate_word a.search.image.now a.call.predicate)) a.call.predicate a.view.now.cells.now a.view.now.trail.now a.view.now.array.now a.view.now.nodes.now aim more

pub returns-clause-tables_true : goal.returns-clause-tables_true
returns-clause-tables_true c = (c.requires.tables_true.0, c.keep_clause-2.ensures, c.take_one.ensures.counted)
