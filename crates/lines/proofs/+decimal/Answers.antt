-- `lines::decimal` meets its contract. Assumes nothing.
use Rattle.std.proofs.Common.{◌/◌, arith}
use Rattle.lines.proofs.LineLaws.{decimal-long, decimal_digit, decimal-last}
use Rattle.lines.proofs.+decimal.Goals as goal

pub returns-then-n-lt10 : goal.returns-then-n-lt10
returns-then-n-lt10 t c = let a = c.args in decimal_digit a.n a.at a.line.now _ (omega arith) c.put.ensures

pub overflow_add-result-2 : goal.overflow_add-result-2
overflow_add-result-2 t c =
    omega (arith, decimal-long (c.args.n / 10) (omega arith), c.decimal-end.ensures.1)

pub returns : goal.returns
returns t c =
    let a = c.args in
    decimal-last a.n a.at a.line.now _ _ _ (omega arith) c.decimal-end.ensures c.put-2.ensures
