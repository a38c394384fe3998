-- `moves::common_ancestor` meets its contract. Assumes nothing.
use Rattle.std.proofs.Common.{ap₂, ◌∙◌, ◌+◌, arith}
use Rattle.memory.proofs.FieldBounds.{depth-lt}
use Rattle.moves.proofs.MoveLaws.{meeting_after, meeting-end, meeting-met, meeting-other, meeting-slot}
use Rattle.moves.proofs.common_ancestor.Goals.{then-depth, else-depth}
use Rattle.moves.proofs.common_ancestor.Goals as goal

pub overflow_add-most : goal.overflow_add-most
overflow_add-most c = let a = c.args in omega (arith, c.depth.ensures, c.depth-2.ensures, depth-lt a.nodes.now a.slot, depth-lt a.nodes.now a.other)

pub returns-then-here-there : goal.returns-then-here-there
returns-then-here-there c = let l = c.loop in meeting-met c.args.nodes.now _ l.counter l.here l.there c.loop-test.true c.if-here-there.true ∙ l.invariant

pub loop-preserved : goal.loop-preserved
loop-preserved c =
    let l = c.loop in
    let a = c.args in
    let most = c.depth.result + c.depth-2.result in
    elim c.if-depth.branch [
      | then-depth w ↦
          ap₂ (meeting_after a.nodes.now most (l.counter + 1)) w.here-is (w.there-is ∙ w.parent-there.ensures)
          ∙ meeting-other a.nodes.now most l.counter l.here l.there c.loop-test.true c.if-here-there.false (omega (arith, w.if-depth.true, c.depth-in-loop.ensures, c.depth-in-loop-2.ensures)) ∙ l.invariant
      | else-depth w ↦
          ap₂ (meeting_after a.nodes.now most (l.counter + 1)) (w.here-is ∙ w.parent-here.ensures) w.there-is
          ∙ meeting-slot a.nodes.now most l.counter l.here l.there c.loop-test.true c.if-here-there.false (omega (arith, w.if-depth.false, c.depth-in-loop.ensures, c.depth-in-loop-2.ensures)) ∙ l.invariant
    ]

pub returns : goal.returns
returns c = let l = c.loop in meeting-end c.args.nodes.now _ l.counter l.here l.there c.loop-test.false ∙ l.invariant
