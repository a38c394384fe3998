-- `desk_file::file_parts` meets its contract. Assumes nothing.
use Rattle.desk_file.proofs.FileLaws.{parts-empty, parts-broken, parts-long-query, parts-short, parts-long-image, parts-fit}
use Rattle.std.proofs.Common.{arith}
use Rattle.desk_file.proofs.file_parts.Goals as goal

pub returns-then-length-eq0 : goal.returns-then-length-eq0
returns-then-length-eq0 c = parts-empty c.args.bytes.now c.if-length-eq0.true

pub returns-then-length-ne0 : goal.returns-then-length-ne0
returns-then-length-ne0 c = parts-broken c.args.bytes.now c.if-length-eq0.false c.if-length-ne0.true

pub returns-then-size-gt-QUERY_LIMIT : goal.returns-then-size-gt-QUERY_LIMIT
returns-then-size-gt-QUERY_LIMIT c = parts-long-query c.args.bytes.now c.if-length-eq0.false (omega (arith, c.if-length-ne0.false)) c.word_of_bytes-size.result c.word_of_bytes-size.ensures c.if-size-gt-QUERY_LIMIT.true

pub returns-then-length-size : goal.returns-then-length-size
returns-then-length-size c = parts-short c.args.bytes.now c.if-length-eq0.false (omega (arith, c.if-length-ne0.false)) c.word_of_bytes-size.result c.word_of_bytes-size.ensures c.if-size-gt-QUERY_LIMIT.false c.if-length-size.true

pub returns-then-length-size-gt1024 : goal.returns-then-length-size-gt1024
returns-then-length-size-gt1024 c = parts-long-image c.args.bytes.now c.if-length-eq0.false (omega (arith, c.if-length-ne0.false)) c.word_of_bytes-size.result c.word_of_bytes-size.ensures c.if-size-gt-QUERY_LIMIT.false c.if-length-size.false c.if-length-size-gt1024.true

pub returns : goal.returns
returns c = parts-fit c.args.bytes.now c.if-length-eq0.false (omega (arith, c.if-length-ne0.false)) c.word_of_bytes-size.result c.word_of_bytes-size.ensures c.if-size-gt-QUERY_LIMIT.false c.if-length-size.false c.if-length-size-gt1024.false
