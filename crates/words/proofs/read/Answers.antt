-- `words::read` meets its contract. Assumes nothing.
use Rattle.std.proofs.Common.{arith, pow_pos}
use Rattle.model.specs.Fields.{widths_of}
use Rattle.words.proofs.TableLaws.{within, shl_one, field_past, field-le, shift-reads}
use Rattle.words.proofs.read.Goals as goal

pub returns-then-i-ge6 : goal.returns-then-i-ge6
returns-then-i-ge6 c = field_past c.args.kind c.args.word c.args.i c.if-i-ge6.true

pub overflow_shr-result : goal.overflow_shr-result
overflow_shr-result c = omega (arith, within c.args.kind c.args.i)

pub overflow_shl-result : goal.overflow_shl-result
overflow_shl-result c = omega (arith, within c.args.kind c.args.i)

pub nonzero_rem-result : goal.nonzero_rem-result
nonzero_rem-result c = let a = c.args in
    rw (shl_one c.width-bits.result (omega (arith, within a.kind a.i))) (pow_pos c.width-bits.result)

pub overflow_cast-result-4 : goal.overflow_cast-result-4
overflow_cast-result-4 c = let a = c.args in
    let e = shift-reads a.kind a.word a.i c.low-shift.result c.width-bits.result c.low-shift.ensures c.width-bits.ensures in
    record { fits = omega (arith, e, field-le (widths_of a.kind) a.word a.i) }

pub returns : goal.returns
returns c = let a = c.args in
    shift-reads a.kind a.word a.i c.low-shift.result c.width-bits.result c.low-shift.ensures c.width-bits.ensures
