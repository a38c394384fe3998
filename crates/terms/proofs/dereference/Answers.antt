-- `terms::dereference` meets its contract. Assumes nothing.
use Rattle.std.proofs.Common.{ℕ, ◌+◌, ◌-◌, ◌∙◌, sym, ap, arith}
use Rattle.model.specs.Terms.{found_said, dereference}
use Rattle.model.specs.Memory.{tag, value}
use Rattle.terms.proofs.TermLaws.{dereference-end, dereference-found, dereference-turn}
use Rattle.terms.proofs.dereference.Goals as goal

pub returns-then-tag-ne-REF_TAG : goal.returns-then-tag-ne-REF_TAG
returns-then-tag-ne-REF_TAG c = let l = c.loop in
    let a = c.args in
    c.found.ensures
    ∙ ap (λ (said : ℕ). found_said a.cells.now said l.at.0) c.says-said.ensures
    ∙ dereference-found a.array.now a.cells.now (2048 - l.counter) l.at.0 (omega arith) (λ e. c.if-tag-ne-REF_TAG.true (c.tag.ensures ∙ ap tag c.says-said.ensures ∙ e)) ∙ l.invariant

pub loop-preserved : goal.loop-preserved
loop-preserved c = let l = c.loop in
    let a = c.args in
    ap (dereference (2048 - (l.counter + 1)) a.array.now a.cells.now) (c.value.ensures ∙ ap value c.says-said.ensures)
    ∙ dereference-turn a.array.now a.cells.now l.counter 2048 l.at.0 (omega arith) (ap tag (sym c.says-said.ensures) ∙ sym c.tag.ensures ∙ c.if-tag-ne-REF_TAG.false) ∙ l.invariant

pub returns : goal.returns
returns c = let l = c.loop in let a = c.args in dereference-end a.array.now a.cells.now l.counter 2048 l.at.0 c.loop-test.false ∙ l.invariant
