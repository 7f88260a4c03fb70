use Rattle.std.proofs.Common.{map}
use Rattle.ssb_script.specs.Lines as script
use Rattle.ssb_trace.proofs.DirectLaws.{begins_add, begins_amend, begins_put, begins_withdraw}
use Rattle.ssb_trace.proofs.direct.take_action.Goals as goal

pub returns-in-Some : goal.returns-in-Some
returns-in-Some c =
    (c.in_ok-order.ensures.0, begins_add (map script.Line c.in_ok-order.order) c.in-Some.ensures c.in_ok-order.ensures.1)

pub returns-in-Some-take_word : goal.returns-in-Some-take_word
returns-in-Some-take_word c = (
  c.in_ok-order-2.ensures.0,
  begins_amend (map script.Line c.in_ok-order-2.order) c.in-Some-take_word.ensures c.in_ok-order-2.ensures.1,
)

pub returns-in-Some-take_word-2 : goal.returns-in-Some-take_word-2
returns-in-Some-take_word-2 c = (
  c.in_ok-order-3.ensures.0,
  begins_put (map script.Line c.in_ok-order-3.order) c.in-Some-take_word-2.ensures c.in_ok-order-3.ensures.1,
)

pub returns : goal.returns
returns c = (tt, begins_withdraw c.in_ok-key.ensures)
