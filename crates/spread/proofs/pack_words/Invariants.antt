-- `spread::pack_words` meets its contract. The loop's invariant: what is left to do gives the whole. Assumes nothing.
use mathlib.Core.Path.{◌≡◌}
use Prim.Native.Nat.{ℕ, ◌+◌, ◌-◌, ◌≤◌}
use lib.Seq.{sets}
use lib.ListN.{length, drop}
use Rattle.std.proofs.Common.{Ok}
use Rattle.model.specs.Spread.{scan_from, packed_from, packed}
use Rattle.spread.proofs.pack_words.Given as goal

abbrev pub invariant-loop-at : goal.invariant-loop-at
invariant-loop-at l = record {
  most : ℕ;
  fuel : length l.list ≤ l.at + most;
  inside : l.at ≤ length l.list;
  as_long : length l.words ≡ length l.initial.words;
  scans : scan_from most l.count l.number l.at (drop l.at l.list) ≡ Ok (length l.initial.words);
  packs : sets l.words l.number (packed_from most l.count l.number (drop l.at l.list)) ≡ packed l.list;
}

abbrev pub decreases-loop-at : goal.decreases-loop-at
decreases-loop-at l = length l.list - l.at
