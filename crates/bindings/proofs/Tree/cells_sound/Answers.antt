-- `bindings::Tree::cells_sound` meets its contract. Assumes nothing.
use Rattle.std.proofs.Common.{refl, rules, tests}
use Rattle.model.specs.Damage.{cell_sound}
use Rattle.words.proofs.Ranges.{each-from_all}
use Rattle.bindings.proofs.Tree.cells_sound.Goals as goal

pub returns : goal.returns
returns c = let a = c.args in
    each-from_all _ _ _ (cell_sound a.self.nodes.now a.self.cells.now a.slot) 0 32 32 refl refl c.all.ensures.ran (λ x q k. search (rules, tests)) (λ x q k. search (rules, tests))
