-- `spread::join_of` meets its contract. The loop's invariant: what is left to do gives the whole. Assumes nothing.
use Rattle.std.proofs.Common.{◌≡◌, ◌+◌, drop, Ok}
use Rattle.model.specs.Spread.{packed_word, join_fields, group_size, judged}
use Rattle.model.specs.Fields.{widths_of, kept_fields}
use Rattle.spread.proofs.join_of.Given as goal

abbrev pub invariant-loop-j : goal.invariant-loop-j
invariant-loop-j l = record {
  through : judged (widths_of l.kind) (drop l.j (kept_fields l.kind)) (l.at + l.j) (drop (l.at + l.j) l.list) ≡ Ok (l.at + group_size l.kind);
  joins : l.word + join_fields (widths_of l.kind) (drop l.j (kept_fields l.kind)) (drop (l.at + l.j) l.list) ≡ packed_word l.kind (drop l.at l.list);
}
