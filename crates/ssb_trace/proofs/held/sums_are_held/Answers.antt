use Rattle.std.proofs.Common.{IfSome, FitsSigned, refl}
use Rattle.std.specs.Int.{w64}
use Rattle.ssb_answers.specs.declared.answer.ResultRow.{ResultRow}
use Rattle.ssb_text.proofs.EachLaws.{all_held, one_more}
use Rattle.ssb_trace.proofs.held.sums_are_held.Goals as goal

pub loop-row-preserved : goal.loop-row-preserved
loop-row-preserved c =
    one_more (λ (row : ResultRow). IfSome row.sum (FitsSigned w64)) c.args.rows.now c.loop-row.row-index
    c.row-item.result c.loop-row-test.true c.row-item.is c.sum_is_held.ensures c.loop-row.invariant

pub returns : goal.returns
returns c =
    all_held (λ (row : ResultRow). IfSome row.sum (FitsSigned w64)) c.args.rows.now c.args.rows.now c.loop-row.row-index
    c.loop-row-test.false refl c.loop-row.invariant
