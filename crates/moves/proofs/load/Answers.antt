-- `moves::load` meets its contract. Assumes nothing.
use Rattle.std.proofs.Common.{ap, ◌∙◌}
use Rattle.model.specs.Fields.{variables}
use Rattle.moves.proofs.LoadLaws.{loaded-of}
use Rattle.moves.proofs.load.Goals as goal

pub returns : goal.returns
returns c =
    let a = c.args in
    loaded-of a.query.now c.wipe.new.nodes c.wipe.new.cells c.wipe.new.trail c.wipe.new.arrays c.wipe.new.workers _ _ _ _ _ _ c.wipe.ensures
    (c.variables-variables.ensures ∙ ap variables c.word_at.ensures) c.node0.ensures c.node2.ensures c.put.ensures c.put-2.ensures c.lay.ensures
