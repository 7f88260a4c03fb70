use Rattle.ssb_trace.specs.Allowed.{IsAllowedValue}
use Rattle.ssb_text.proofs.EachLaws.{all_held, one_more}
use Rattle.ssb_trace.proofs.held.question_is_allowed.Goals as goal

pub loop-constant-preserved : goal.loop-constant-preserved
loop-constant-preserved c =
    one_more IsAllowedValue c.constants-constant-items.result.now c.loop-constant.constant-index
    c.constant-item.result c.loop-constant-test.true c.constant-item.is
    c.value_is_allowed.ensures c.loop-constant.invariant

pub returns : goal.returns
returns c = record {
  taken = c.constants-constant-items.ensures.fit;
  constants = all_held IsAllowedValue c.constants-constant-items.result.now c.args.question.now.1
      c.loop-constant.constant-index c.loop-constant-test.false
      c.constants-constant-items.ensures.constants c.loop-constant.invariant;
}
