-- `spread::unpack` meets its contract. Assumes nothing.
use Rattle.std.proofs.Common.{sym, ◌∙◌}
use Rattle.spread.proofs.AnswerLaws.{unpack-done}
use Rattle.spread.proofs.unpack.Goals as goal

pub returns : goal.returns
returns c = unpack-done c.args.image.now c.args.room.now (sym c.check_image.ensures ∙ c.in_ok-check_image.was) c.spread_size-size.result c.spread_size-size.ensures c.spread_words.new.room c.if-room-size.false c.spread_words.ensures
