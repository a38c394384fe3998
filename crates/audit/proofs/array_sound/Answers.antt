-- `audit::array_sound` meets its contract: a depth is a field of 6 bits, and the words compared are those of the worker's array. Assumes nothing.
use Rattle.std.proofs.Common.{sym, arith, ap, ◌∙◌, List, ℕ, ◌*◌}
use Rattle.std.specs.Cmp.Lexicographic.{same_text, other_text}
use Rattle.model.specs.Damage.{same_words}
use Rattle.model.specs.Memory.{array_of}
use Rattle.memory.proofs.FieldBounds.{depth-lt}
use Rattle.audit.proofs.AuditLaws.{same-from_part, other-from_part, path-array}
use Rattle.audit.proofs.array_sound.Goals as goal

pub climb-requires : goal.climb-requires
climb-requires c = omega (arith, c.depth-depth.ensures, depth-lt c.args.tree.nodes.now c.args.slot)

pub returns-then-eq : goal.returns-then-eq
returns-then-eq c = let a = c.args in
    c.zeros.ensures ∙ same-from_part a.arrays.now c.climb.new.array (2048 * a.worker) c.min-start.result c.min-there.result c.min-start.ensures c.min-there.ensures (same_text _ _ (sym c.if-eq.true ∙ c.eq.ensures))
    ∙ ap (λ (array : List ℕ). same_words 2048 (array_of a.arrays.now a.worker) array 0) (path-array a.tree.nodes.now a.tree.trail.now a.slot c.depth-depth.result _ c.climb.ensures c.depth-depth.ensures)

pub returns-else-eq : goal.returns-else-eq
returns-else-eq c = let a = c.args in
    c.if-eq.false ∙ other-from_part a.arrays.now c.climb.new.array (2048 * a.worker) c.min-start.result c.min-there.result c.min-start.ensures c.min-there.ensures c.climb.auto.array (other_text _ _ (sym c.if-eq.false ∙ c.eq.ensures))
    ∙ ap (λ (array : List ℕ). same_words 2048 (array_of a.arrays.now a.worker) array 0) (path-array a.tree.nodes.now a.tree.trail.now a.slot c.depth-depth.result _ c.climb.ensures c.depth-depth.ensures)
