-- `spread::copy` meets its contract. The loop's invariant: what is left to do gives the whole. Assumes nothing.
use Rattle.std.proofs.Common.{◌≡◌, length, drop}
use lib.Seq.{sets}
use Rattle.spread.proofs.copy.Given as goal

abbrev pub invariant-loop-i : goal.invariant-loop-i
invariant-loop-i l = (length l.room ≡ length l.initial.room) × (sets l.room l.i (drop l.i l.words) ≡ sets l.initial.room 0 l.words)
