-- `image_cases::long_room` meets its contract: a law over any number is cited, since so long a list is not to be counted. Assumes nothing.
use Rattle.std.proofs.Common.{◌≡◌, ℕ, length, sym}
use Rattle.std.specs.Prelude.{replicate}
use Rattle.std.proofs.lemmas.List.{length-replicate}
use Rattle.image_cases.proofs.long_room.Goals as goal

room-length : (n : ℕ) → n ≡ length (replicate {A = ℕ} n 0)
room-length n = sym (length-replicate n 0)

pub returns : goal.returns
returns c = room-length 528384
