-- `lines::value_texts` meets its contract. Assumes nothing.
use Rattle.std.proofs.Common.{◌∙◌, get_or, arith}
use Rattle.lines.proofs.WholeLaws.{values-turn, values-end, value-short}
use Rattle.lines.proofs.value_texts.Goals as goal

pub loop-word-preserved : goal.loop-word-preserved
loop-word-preserved c =
    let l = c.loop-word in
    let words = c.args.words.now in
    let v = c.value_text-end in
    let t = values-turn words l.word-index l.line l.end _ _ (omega arith) v.ensures in
    (omega (arith, v.ensures.1, value-short (get_or words l.word-index 0), l.invariant.0), omega arith, t.0 ∙ l.invariant.2, t.1 ∙ l.invariant.3)

pub returns : goal.returns
returns c =
    let l = c.loop-word in
    let e = values-end c.args.words.now l.word-index l.line l.end _ (omega arith) c.put.ensures in
    (e.0 ∙ l.invariant.2, e.1 ∙ l.invariant.3)
