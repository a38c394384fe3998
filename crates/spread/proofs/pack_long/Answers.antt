-- `spread::pack_long` meets its contract. Assumes nothing.
use mathlib.Core.Path.{ap, ◌∙◌}
use native.Mathlib.Omega.{arith}
use Rattle.model.specs.Answers.{refused_at}
use Rattle.model.specs.declared.Refusal.TheVariants.{Image}
use Rattle.model.specs.declared.Fault.{Fault}
use Rattle.model.specs.Spread.{written_to}
use Rattle.spread.specs.TripLaws.{first_group}
use Rattle.spread.proofs.AnswerLaws.{pack-long}
use Rattle.spread.proofs.pack_long.Goals as goal

pub join_group-word-requires : goal.join_group-word-requires
join_group-word-requires c = (first_group c.args.list.now c.args.count (omega (arith, c.requires.long)) c.requires.through).through

pub returns : goal.returns
returns c =
    let a = c.args in
    ap (λ (fault : Fault). written_to (refused_at (Image fault) 0) a.room.now) c.long_fault.ensures ∙ pack-long a.list.now a.room.now a.count c.join_group-word.result c.requires.through c.requires.long c.join_group-word.ensures
