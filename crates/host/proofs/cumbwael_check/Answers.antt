-- `host::cumbwael_check` meets its contract. Assumes nothing.
use Rattle.std.proofs.Common.{arith}
use Rattle.host.specs.Near.{Near}
use Rattle.host.proofs.BytesLaws.{check_bytes-whole, check_bytes-broken}
use Rattle.host.proofs.cumbwael_check.Goals as goal

pub verdict_number-requires : goal.verdict_number-requires
unfolding Near
verdict_number-requires c = omega arith

pub returns-then-rest-ne0 : goal.returns-then-rest-ne0
returns-then-rest-ne0 c = check_bytes-broken c.args.bytes.now c.min-count.result c.verdict_number.result c.min-count.ensures c.if-rest-ne0.true c.verdict_number.ensures

pub returns-then-count-le1024 : goal.returns-then-count-le1024
returns-then-count-le1024 c = check_bytes-whole c.args.bytes.now c.min-count.result c.check_in.result c.min-count.ensures c.if-rest-ne0.false c.check_in.ensures

pub returns : goal.returns
returns c = check_bytes-whole c.args.bytes.now c.min-count.result c.check_in-2.result c.min-count.ensures c.if-rest-ne0.false c.check_in-2.ensures
