-- `words::word_at` meets its contract. Assumes nothing.
use Rattle.std.proofs.Common.{sym}
use lib.ListN.{get_or-eq_default}
use Rattle.words.proofs.word_at.Goals as goal

pub returns-else-at-words : goal.returns-else-at-words
returns-else-at-words c = sym (get_or-eq_default c.args.words.now 0 c.if-at-words.false)
