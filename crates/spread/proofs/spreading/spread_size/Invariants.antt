-- `spread::spreading::spread_size` meets its contract. The loop's invariant: what is left to do gives the whole. Assumes nothing.
use Rattle.std.proofs.Common.{◌≡◌, ◌+◌, ◌*◌, ◌≤◌, length, drop}
use Rattle.model.specs.Spread.{unpacked_from, unpacked}
use Rattle.spread.proofs.spreading.spread_size.Given as goal

abbrev pub invariant-loop-i : goal.invariant-loop-i
invariant-loop-i l = record {
  most : l.size ≤ 4 * l.i;
  left : l.size + length (unpacked_from l.count l.i (drop l.i l.image)) ≡ length (unpacked l.image);
}
