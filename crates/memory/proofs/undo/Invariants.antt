-- `memory::undo` meets its contract. The loop's invariant: what is left to do gives the whole. Assumes nothing.
use Rattle.std.proofs.Common.{◌≡◌, ◌+◌, ◌-◌, ◌*◌}
use Rattle.model.specs.Steps.{undone}
use Rattle.memory.proofs.undo.Given as goal

abbrev pub invariant-loop-entry : goal.invariant-loop-entry
invariant-loop-entry l = undone (l.count - l.entry) l.trail (l.start + 2 * l.entry) l.array ≡ undone l.count l.trail l.start l.initial.array
