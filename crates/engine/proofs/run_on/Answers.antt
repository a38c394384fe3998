-- `engine::run_on` meets its contract. Assumes nothing.
use Rattle.std.proofs.Common.{◌∙◌, sym, ap, ℕ, ◌-◌, arith, rules}
use Rattle.memory.specs.Views.{words_of}
use Rattle.model.specs.Steps.{ran}
use Rattle.engine.proofs.StopLaws.{run_from-end, run_from-stops, run_from-more}
use Rattle.engine.proofs.RunLaws.{progress-some, progress-run, progress-did}
use Rattle.engine.proofs.run_on.Goals as goal

pub loop-count-preserved-in-Passed : goal.loop-count-preserved-in-Passed
loop-count-preserved-in-Passed c = let a = c.args in
    let l = c.loop-count in
    let v = words_of l.view in
    let after = words_of c.advance.new.view in
    let e = c.advance.ensures in
    let some = progress-some a.search.image.now a.search.query.now a.worker v after c.advance.result (a.budget - l.count) c.in-Passed.passed c.in-Passed.is e.did in record {
      within = omega (arith, some.1, l.invariant.within);
      whole = progress-run a.search.image.now a.search.query.now a.worker v after c.advance.result a.budget c.in-Passed.passed l.count c.in-Passed.is e.did ∙ l.invariant.whole;
      at_hand = e.tables_true;
      lent = search rules;
    }

pub returns-in-Did-clause-did : goal.returns-in-Did-clause-did
returns-in-Did-clause-did c = let a = c.args in
    let l = c.loop-count in
    let v = words_of l.view in
    let after = words_of c.advance.new.view in
    let did = progress-did a.search.image.now a.search.query.now a.worker v after c.advance.result (a.budget - l.count) c.in-Did.outcome c.in-Did.is c.advance.ensures.did in
    ap (λ (many : ℕ). ran c.in-Did.outcome many after) c.last_count-count.ensures
    ∙ run_from-stops a.budget l.count a.search.image.now a.search.query.now a.worker v after c.in-Did.outcome did c.loop-count-test.true (sym c.stops.ensures ∙ c.if-stops.true) ∙ l.invariant.whole

pub loop-count-preserved : goal.loop-count-preserved
loop-count-preserved c = let a = c.args in
    let l = c.loop-count in
    let v = words_of l.view in
    let after = words_of c.advance.new.view in
    let e = c.advance.ensures in
    let did = progress-did a.search.image.now a.search.query.now a.worker v after c.advance.result (a.budget - l.count) c.in-Did.outcome c.in-Did.is e.did in record {
      within = omega (arith, c.loop-count-test.true);
      whole = run_from-more a.budget l.count a.search.image.now a.search.query.now a.worker v after c.in-Did.outcome did c.loop-count-test.true (sym c.stops.ensures ∙ c.if-stops.false) ∙ l.invariant.whole;
      at_hand = e.tables_true;
      lent = search rules;
    }

pub returns-clause-did : goal.returns-clause-did
returns-clause-did c = let a = c.args in
    let l = c.loop-count in
    run_from-end a.budget l.count a.search.image.now a.search.query.now a.worker (words_of l.view) c.loop-count-test.false ∙ l.invariant.whole
