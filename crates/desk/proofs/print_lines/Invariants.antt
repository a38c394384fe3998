-- There is room in the block for the line to come. Assumes nothing.
use Rattle.std.proofs.Common.{◌+◌, ◌≤◌}
use Rattle.desk.proofs.print_lines.Given as goal

abbrev pub invariant-loop : goal.invariant-loop
invariant-loop g l = l.block.filled + 1024 ≤ 65536
