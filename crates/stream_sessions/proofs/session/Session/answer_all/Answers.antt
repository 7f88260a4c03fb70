use Rattle.std.proofs.Common.{◌≡◌, ◌∙◌, ◌+◌, ap, arith}
use Rattle.history.specs.Members.{number_of}
use Rattle.stream_sessions.specs.Course.{course}
use Rattle.stream_sessions.specs.declared.step.Step.TheVariants as step
use Rattle.stream_sessions.proofs.CourseLaws.{goes_on}
use Rattle.stream_sessions.proofs.EndLaws.{ends_at_bound, has_broken, has_served}
use Rattle.stream_sessions.proofs.session.Session.answer_all.Goals as goal

pub loop-answered-preserved : goal.loop-answered-preserved
loop-answered-preserved g c =
    let inv = c.loop-answered.invariant in
    let arm = c.in-Ok-Request in
    let goes = goes_on arm.field-0 _ (course c.args.client.now c.args.self.now) _ _ arm.field-0-is
    (ap number_of inv.come.alike.who) inv.come arm.ensures.steps in
    record { come = goes.0; many = goes.1 ∙ ap (λ n. n + 1) inv.many; ahead = arm.ensures.ahead }

pub returns-in-Ok-Rest : goal.returns-in-Ok-Rest
returns-in-Ok-Rest g c =
    let inv = c.loop-answered.invariant in
    let arm = c.in-Ok-Rest in
    has_served arm.field-0 step.Rest _ _ (course c.args.client.now c.args.self.now) _ _ arm.field-0-is (λ is. cc)
    (ap number_of inv.come.alike.who) inv.come inv.many arm.ensures.steps

pub returns-in-Ok-Nothing : goal.returns-in-Ok-Nothing
returns-in-Ok-Nothing g c =
    let inv = c.loop-answered.invariant in
    let arm = c.in-Ok-Nothing in
    has_served arm.field-0 step.Nothing _ _ (course c.args.client.now c.args.self.now) _ _ arm.field-0-is (λ is. cc)
    (ap number_of inv.come.alike.who) inv.come inv.many arm.ensures.steps

pub returns-in-Ok-TooLong : goal.returns-in-Ok-TooLong
returns-in-Ok-TooLong g c =
    let inv = c.loop-answered.invariant in
    let arm = c.in-Ok-TooLong in
    has_served arm.field-0 step.TooLong _ _ (course c.args.client.now c.args.self.now) _ _ arm.field-0-is (λ is. cc)
    (ap number_of inv.come.alike.who) inv.come inv.many arm.ensures.steps

pub returns-in-Err : goal.returns-in-Err
returns-in-Err g c =
    let inv = c.loop-answered.invariant in
    has_broken c.in-Err.fault _ _ (course c.args.client.now c.args.self.now) _ _ (ap number_of inv.come.alike.who)
    inv.come inv.many c.in-Err.ensures.steps

pub returns : goal.returns
returns g c =
    let inv = c.loop-answered.invariant in
    let done : c.loop-answered.answered ≡ 18446744073709551615 =
    omega (arith, c.loop-answered-test.false, c.loop-answered.auto.answered-end) in
    ends_at_bound (course c.args.client.now c.args.self.now) _ 18446744073709551615 inv.come (inv.many ∙ done)
