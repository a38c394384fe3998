-- `spread::groups::scan_list` meets its contract. The loop's invariant: what is left to do gives the whole. Assumes nothing.
use mathlib.Core.Path.{◌≡◌}
use Prim.Native.Nat.{ℕ, ◌+◌, ◌-◌, ◌≤◌}
use lib.ListN.{length, drop}
use Rattle.model.specs.Spread.{scan_from, scan}
use Rattle.spread.proofs.groups.scan_list.Given as goal

abbrev pub invariant-loop-at : goal.invariant-loop-at
invariant-loop-at l = record {
  most : ℕ;
  fuel : length l.list ≤ l.at + most;
  counts : l.number ≤ l.at;
  inside : l.at ≤ length l.list;
  scans : scan_from most l.count l.number l.at (drop l.at l.list) ≡ scan l.list;
}

abbrev pub decreases-loop-at : goal.decreases-loop-at
decreases-loop-at l = length l.list - l.at
