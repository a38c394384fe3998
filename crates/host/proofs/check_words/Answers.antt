-- `host::check_words` meets its contract. Assumes nothing.
use Rattle.std.proofs.Common.{arith, length-take}
use Rattle.host.proofs.BytesLaws.{check_image-near}
use Rattle.host.proofs.check_words.Goals as goal

pub verdict_number-requires : goal.verdict_number-requires
verdict_number-requires c = check_image-near _ c.check_image.result c.check_image.ensures (simp length-take (omega arith))
