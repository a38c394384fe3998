-- `turns::live::live_advance` meets its contract. Assumes nothing.
use Rattle.std.proofs.Common.{◌≡◌, ◌∙◌, sym, ap, ◌&&◌, ℕ, Option, unwrap_or, eqb, arith}
use Rattle.model.specs.Fields.{sequential}
use Rattle.model.specs.Image.{predicate_word}
use Rattle.model.specs.Steps.{has_child}
use Rattle.turns.proofs.ProgressLaws.{wait-step, full-step}
use Rattle.turns.proofs.live.live_advance.Goals.{After-waits}
use Rattle.turns.proofs.live.live_advance.Goals as goal

-- what `waits` answers is said of the predicate's own word
waits-is : (c : After-waits) → c.waits.result ≡ (eqb (sequential (predicate_word c.args.search.image.now c.args.call.predicate)) 1 && has_child c.args.view.now.nodes.now c.args.call.node)
waits-is c = c.waits.ensures ∙ ap (λ (word : ℕ). eqb (sequential word) 1 && has_child c.args.view.now.nodes.now c.args.call.node) c.word_at-word.ensures

pub returns-then-waits-clause-did : goal.returns-then-waits-clause-did
returns-then-waits-clause-did c = let a = c.args in
    let p = c.requires.live_node in
    wait-step a.search.image.now a.search.query.now a.view.now.nodes.now a.view.now.workers.now a.worker a.call.node 0 a.call.predicate a.call.place p.0 p.1 p.2.0 p.2.1 a.view.now.cells.now a.view.now.trail.now a.view.now.array.now (sym (waits-is (goal.at.returns-then-waits-clause-did c).After-waits) ∙ c.if-waits.true)

pub returns-in_default-clause-did : goal.returns-in_default-clause-did
returns-in_default-clause-did c = let a = c.args in
    let p = c.requires.live_node in
    let none = ap (λ (found : Option ℕ). unwrap_or found 64) (sym c.in_default.is) ∙ c.lowest_free.ensures.free in
    full-step a.search.image.now a.search.query.now a.view.now.nodes.now a.view.now.workers.now a.worker a.call.node 64 a.call.predicate a.call.place p.0 p.1 p.2.0 p.2.1 a.view.now.cells.now a.view.now.trail.now a.view.now.array.now (sym (waits-is (goal.at.returns-in_default-clause-did c).After-waits) ∙ c.if-waits.false) (omega (arith, none))

pub take_next-requires : goal.take_next-requires
take_next-requires c = record {
  live_node = c.requires.live_node;
  free_child = (sym (waits-is (goal.at.take_next-requires c).After-waits) ∙ c.if-waits.false, c.in-Some.ensures.free, c.in-Some.ensures.slot);
  tables_true = c.requires.tables_true;
}
