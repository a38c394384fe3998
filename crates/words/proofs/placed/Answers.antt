-- `words::placed` meets its contract. Assumes nothing.
use Rattle.std.proofs.Common.{arith, pow_pos}
use Rattle.words.proofs.TableLaws.{within, shl_one, placed-lt, placed_past, shift-places}
use Rattle.words.proofs.placed.Goals as goal

pub returns-then-i-ge6 : goal.returns-then-i-ge6
returns-then-i-ge6 c = placed_past c.args.kind c.args.value c.args.i c.if-i-ge6.true

pub overflow_shl-result : goal.overflow_shl-result
overflow_shl-result c = let a = c.args in omega (arith, within a.kind a.i)

pub nonzero_rem-result : goal.nonzero_rem-result
nonzero_rem-result c = let a = c.args in rw (shl_one c.width-bits.result (omega (arith, within a.kind a.i))) (pow_pos c.width-bits.result)

pub overflow_shl-result-2 : goal.overflow_shl-result-2
overflow_shl-result-2 c = let a = c.args in omega (arith, within a.kind a.i)

pub overflow_cast-result-4 : goal.overflow_cast-result-4
overflow_cast-result-4 c = let a = c.args in
    record { fits = rw (shift-places a.kind a.value a.i c.low-shift.result c.width-bits.result c.low-shift.ensures c.width-bits.ensures) (placed-lt a.kind a.value a.i) }

pub returns : goal.returns
returns c = let a = c.args in
    shift-places a.kind a.value a.i c.low-shift.result c.width-bits.result c.low-shift.ensures c.width-bits.ensures
