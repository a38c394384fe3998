-- `words::fits` meets its contract. Assumes nothing.
use Rattle.std.proofs.Common.{refl, arith}
use Rattle.words.proofs.TableLaws.{within, shl_one}
use Rattle.words.proofs.fits.Goals as goal

pub overflow_shl-result : goal.overflow_shl-result
overflow_shl-result c = omega (arith, within c.args.kind c.args.i)

pub returns : goal.returns
returns c = rw (shl_one c.width-bits.result (omega (arith, c.width-bits.ensures, within c.args.kind c.args.i)), c.width-bits.ensures) refl
