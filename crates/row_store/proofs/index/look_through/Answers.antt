use Rattle.std.proofs.Common.{subst, arith, All}
use Rattle.std.proofs.lemmas.List.{take_all}
use Rattle.ssb_schema.specs.Rows.{IsWithinLimits}
use Rattle.row_store.proofs.SevenLaws.{within_more}
use Rattle.row_store.proofs.index.look_through.Goals as goal

pub loop-line-preserved : goal.loop-line-preserved
loop-line-preserved c = within_more c.args.lines.now c.loop-line.line-index c.line-item.result c.loop-line-test.true
    c.line-item.is c.fact-fact.ensures.limits c.loop-line.invariant

pub returns : goal.returns
returns c = subst (All IsWithinLimits) (take_all c.loop-line.line-index c.args.lines.now
    (omega (arith, c.loop-line-test.false))) c.loop-line.invariant
