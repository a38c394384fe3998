-- `moves::read_answer` meets its contract. Assumes nothing.
use Rattle.std.proofs.Common.{ap, ◌∙◌, ◌*◌, arith, get_or}
use Rattle.std.proofs.Math.Nat.{add-sub_cancel_left}
use Rattle.model.specs.Fields.{variables}
use Rattle.memory.proofs.FieldBounds.{variables-lt}
use Rattle.moves.proofs.ReadLaws.{answer-of}
use Rattle.moves.proofs.read_answer.Goals as goal

pub read_words-requires : goal.read_words-requires
read_words-requires c = let q = c.args.query.now in
    let e = c.variables-variables.ensures ∙ ap variables c.word_at.ensures in
    omega (arith, e, variables-lt (get_or q 0 0), c.requires.2)

pub returns : goal.returns
returns c = let a = c.args in
    λ nodes trail workers.
    answer-of a.query.now nodes a.cells.now trail a.arrays.now workers a.worker _ _ a.room.now _
    (add-sub_cancel_left (2048 * a.worker) 2048) (c.variables-variables.ensures ∙ ap variables c.word_at.ensures) c.read_words.ensures
