-- `children::has_child` meets its contract: a count that is right says whether there is a child. Assumes nothing.
use Rattle.std.proofs.Common.{sym, ap, ◌∙◌, not, ℕ, eqb}
use Rattle.children.proofs.ChildLaws.{child_from-counts}
use Rattle.children.proofs.has_child.Goals as goal

pub returns-then-at-children : goal.returns-then-at-children
returns-then-at-children c = let a = c.args in
    ap (λ (count : ℕ). not (eqb count 0)) (c.requires a.node c.if-at-children.true) ∙ sym (child_from-counts 63 a.nodes.now a.node 1)
