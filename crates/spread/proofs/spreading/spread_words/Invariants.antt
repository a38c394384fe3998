-- `spread::spreading::spread_words` meets its contract. The loop's invariant: what is left to do gives the whole. Assumes nothing.
use Rattle.std.proofs.Common.{◌≡◌, ◌+◌, length, drop}
use Rattle.std.proofs.lemmas.List.Edits.{sets}
use Rattle.model.specs.Spread.{unpacked_from, unpacked}
use Rattle.spread.proofs.spreading.spread_words.Given as goal

abbrev pub invariant-loop-i : goal.invariant-loop-i
invariant-loop-i l = record {
  as_long : length l.room ≡ length l.initial.room;
  left : l.at + length (unpacked_from l.count l.i (drop l.i l.image)) ≡ length (unpacked l.image);
  stores : sets l.room l.at (unpacked_from l.count l.i (drop l.i l.image)) ≡ sets l.initial.room 0 (unpacked l.image);
}
