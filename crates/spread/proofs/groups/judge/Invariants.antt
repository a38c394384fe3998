-- `spread::groups::judge` meets its contract. The loop's invariant: what is left to do gives the whole. Assumes nothing.
use Rattle.std.proofs.Common.{◌≡◌, ◌+◌, ◌≤◌, length, drop}
use Rattle.model.specs.Spread.{judged}
use Rattle.model.specs.Fields.{widths_of, kept_fields}
use Rattle.spread.proofs.groups.judge.Given as goal

abbrev pub invariant-loop-j : goal.invariant-loop-j
invariant-loop-j l = record {
  in_size : l.j ≤ l.size;
  inside : l.at + l.j ≤ length l.list;
  judges : judged (widths_of l.kind) (drop l.j (kept_fields l.kind)) (l.at + l.j) (drop (l.at + l.j) l.list) ≡ judged (widths_of l.kind) (kept_fields l.kind) l.at (drop l.at l.list);
}
