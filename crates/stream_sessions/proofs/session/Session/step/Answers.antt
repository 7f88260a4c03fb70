use Rattle.std.proofs.Common.{◌≡◌, ◌∙◌, Err, ap, inl, inr, rules, subst, sym}
use Rattle.ssb_script.proofs.AheadLaws.{ask_nothing}
use Rattle.ssb_script.specs.Ahead.{AskFirst}
use Rattle.stream_sessions.specs.Ahead.{StandsNext, asked_ahead}
use Rattle.stream_sessions.specs.Course.{course}
use Rattle.stream_sessions.specs.declared.ahead.Coming.{Coming}
use Rattle.stream_sessions.specs.declared.outcome.SessionFault.{SessionFault}
use Rattle.stream_sessions.proofs.AheadLaws.{on_ok}
use Rattle.stream_sessions.proofs.session.Session.step.Goals as goal

pub returns-in_err-hand_on_in_time-clause-steps : goal.returns-in_err-hand_on_in_time-clause-steps
returns-in_err-hand_on_in_time-clause-steps g c =
    let failed = c.in_err-hand_on_in_time in
    let is : c.from_residual.result ≡ Err failed.field-0.0 = search rules in
    inl (is ∙ ap (λ (why : SessionFault). Err why) failed.ensures.handed.0, failed.ensures.handed.1)

pub returns-in-Read-clause-steps : goal.returns-in-Read-clause-steps
returns-in-Read-clause-steps g c = inr (record {
  between = course c.args.client.now c.hand_on_in_time.new.self;
  handed = c.in_ok-hand_on_in_time.ensures.handed;
  next = c.take_read.ensures.takes;
})

pub returns-in-Whole-clause-steps : goal.returns-in-Whole-clause-steps
returns-in-Whole-clause-steps g c = inr (record {
  between = course c.args.client.now c.hand_on_in_time.new.self;
  handed = c.in_ok-hand_on_in_time.ensures.handed;
  next = c.take_whole.ensures.takes;
})

pub returns-in-Awaited-clause-steps : goal.returns-in-Awaited-clause-steps
returns-in-Awaited-clause-steps g c = inr (record {
  between = course c.args.client.now c.hand_on_in_time.new.self;
  handed = c.in_ok-hand_on_in_time.ensures.handed;
  next = c.take_awaited.ensures.takes;
})

pub returns-in-Whole-clause-ahead : goal.returns-in-Whole-clause-ahead
returns-in-Whole-clause-ahead g c =
    let asked = asked_ahead c.next-next.new.self.ahead in
    let stands = subst (λ (next : Coming). StandsNext next c.at_hand.result.now asked) c.in-Whole.is c.next-next.ensures in
    on_ok c.take_whole.result _ (subst (AskFirst _) (sym stands.1) (ask_nothing _))

pub returns-in-Awaited-clause-ahead : goal.returns-in-Awaited-clause-ahead
returns-in-Awaited-clause-ahead g c =
    let asked = asked_ahead c.next-next.new.self.ahead in
    let none = subst (λ (next : Coming). StandsNext next c.at_hand.result.now asked) c.in-Awaited.is c.next-next.ensures in
    on_ok c.take_awaited.result _ (subst (AskFirst _) (sym none) (ask_nothing _))
