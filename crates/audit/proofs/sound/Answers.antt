-- `audit::sound` meets its contract. Assumes nothing.
use Rattle.std.proofs.Common.{refl, sym, ◌∙◌, rules, tests}
use Rattle.model.specs.Damage.{each, root_sound, slot_linked, slot_sound, worker_sound, sound}
use Rattle.words.proofs.Ranges.{each-from_all}
use Rattle.audit.proofs.AuditLaws.{and-then, and-else, and-four}
use Rattle.audit.proofs.sound.Goals.{then-root_sound, else-root_sound, then-all, else-all}
use Rattle.audit.proofs.sound.Goals as goal

pub returns-then-all-2 : goal.returns-then-all-2
unfolding sound
returns-then-all-2 c = let a = c.args in
    let linked = slot_linked a.search.image.now a.search.query.now a.tree.nodes.now a.tree.cells.now a.tree.trail.now in
    let slots = slot_sound a.search.image.now a.search.query.now a.tree.nodes.now a.tree.cells.now a.tree.trail.now in
    let workers = worker_sound a.tree.nodes.now a.tree.trail.now a.arrays.now a.workers.now in
    and-four _ _ _ (root_sound a.tree.nodes.now) (each 64 linked 0) (each 64 slots 0) (each 4 workers 0)
    (elim c.if-root_sound.branch [
      | then-root_sound w ↦ and-then _ _ _ (sym c.root_sound.ensures ∙ w.if-root_sound.true) (w.value-is ∙ each-from_all _ _ _ linked 0 64 64 refl refl w.all.ensures.ran (λ x q k. search (rules, tests)) (λ x q k. search (rules, tests)))
      | else-root_sound w ↦ and-else _ _ _ (sym c.root_sound.ensures ∙ w.if-root_sound.false) (w.value-is ∙ c.root_sound.ensures)
    ])
    (elim c.if-all.branch [
      | then-all w ↦ and-then _ _ _ w.if-all.true (w.value-is ∙ each-from_all _ _ _ slots 0 64 64 refl refl w.all-then-all.ensures.ran (λ x q k. search (rules, tests)) (λ x q k. search (rules, tests)))
      | else-all w ↦ and-else _ _ _ w.if-all.false w.value-is
    ])
    (and-then _ _ _ c.if-all-2.true (each-from_all _ _ _ workers 0 4 4 refl refl c.all-then-all-2.ensures.ran (λ x q k. search (rules, tests)) (λ x q k. search (rules, tests))))

pub returns-else-all-2 : goal.returns-else-all-2
unfolding sound
returns-else-all-2 c = let a = c.args in
    let linked = slot_linked a.search.image.now a.search.query.now a.tree.nodes.now a.tree.cells.now a.tree.trail.now in
    let slots = slot_sound a.search.image.now a.search.query.now a.tree.nodes.now a.tree.cells.now a.tree.trail.now in
    let workers = worker_sound a.tree.nodes.now a.tree.trail.now a.arrays.now a.workers.now in
    and-four _ _ _ (root_sound a.tree.nodes.now) (each 64 linked 0) (each 64 slots 0) (each 4 workers 0)
    (elim c.if-root_sound.branch [
      | then-root_sound w ↦ and-then _ _ _ (sym c.root_sound.ensures ∙ w.if-root_sound.true) (w.value-is ∙ each-from_all _ _ _ linked 0 64 64 refl refl w.all.ensures.ran (λ x q k. search (rules, tests)) (λ x q k. search (rules, tests)))
      | else-root_sound w ↦ and-else _ _ _ (sym c.root_sound.ensures ∙ w.if-root_sound.false) (w.value-is ∙ c.root_sound.ensures)
    ])
    (elim c.if-all.branch [
      | then-all w ↦ and-then _ _ _ w.if-all.true (w.value-is ∙ each-from_all _ _ _ slots 0 64 64 refl refl w.all-then-all.ensures.ran (λ x q k. search (rules, tests)) (λ x q k. search (rules, tests)))
      | else-all w ↦ and-else _ _ _ w.if-all.false w.value-is
    ])
    (and-else _ _ _ c.if-all-2.false refl)
