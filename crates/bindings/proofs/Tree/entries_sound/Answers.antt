-- `bindings::Tree::entries_sound` meets its contract. Assumes nothing.
use Rattle.std.proofs.Common.{refl, rules, tests, arith, ap, ◌∙◌}
use Rattle.model.specs.Damage.{each, entry_sound}
use Rattle.words.proofs.Ranges.{each-from_all}
use Rattle.bindings.proofs.Tree.entries_sound.Goals as goal

pub returns : goal.returns
returns c = let a = c.args in
    each-from_all _ _ _ (entry_sound a.self.nodes.now a.self.cells.now a.self.trail.now a.slot) 0 c.entries.result c.entries.result refl (omega arith) c.all.ensures.ran (λ x q k. search (rules, tests)) (λ x q k. search (rules, tests))
    ∙ ap (λ count. each count (entry_sound a.self.nodes.now a.self.cells.now a.self.trail.now a.slot) 0) c.entries.ensures
