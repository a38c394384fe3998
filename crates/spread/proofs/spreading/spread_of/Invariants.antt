-- `spread::spreading::spread_of` meets its contract. The loop's invariant: what is left to do gives the whole. Assumes nothing.
use Rattle.std.proofs.Common.{◌≡◌, ◌+◌, length, drop}
use Rattle.std.proofs.lemmas.List.Edits.{sets}
use Rattle.model.specs.Spread.{spread_fields, spread_word}
use Rattle.model.specs.Fields.{widths_of, kept_fields}
use Rattle.spread.proofs.spreading.spread_of.Given as goal

abbrev pub invariant-loop-j : goal.invariant-loop-j
invariant-loop-j l = record {
  as_long : length l.room ≡ length l.initial.room;
  stores : sets l.room (l.at + l.j) (spread_fields (widths_of l.kind) (drop l.j (kept_fields l.kind)) l.word) ≡ sets l.initial.room l.at (spread_word l.kind l.word);
}
