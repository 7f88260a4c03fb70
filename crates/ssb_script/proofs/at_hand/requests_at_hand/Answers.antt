use Rattle.std.proofs.Common.{◌≡◌, ◌+◌, ◌-◌, ap, length, subst, arith, length-drop}
use Rattle.ssb_script.specs.Ahead.{StandFirst}
use Rattle.ssb_script.specs.Cutting.{IsUnfinished}
use Rattle.ssb_script.proofs.AheadLaws.{first_none, first_more, first_rest, stand_first}
use Rattle.ssb_script.proofs.at_hand.requests_at_hand.Goals as goal

pub loop-count-init : goal.loop-count-init
loop-count-init c = (first_none c.args.bytes.now, omega arith)

pub loop-count-preserved : goal.loop-count-preserved
loop-count-preserved c =
    let inv = c.loop-count.invariant in
    let rest = c.loop-count.rest.now in (
      first_more _ rest _ c.loop-count.count c.in-Some.size inv.0 c.in-Some.ensures.whole c.split_at.ensures.back,
      omega (arith, inv.1, ap length c.split_at.ensures.back, length-drop c.in-Some.size rest),
    )

pub returns-in_default-clause-first : goal.returns-in_default-clause-first
returns-in_default-clause-first c =
    let inv = c.loop-count.invariant in
    stand_first _ c.loop-count.rest.now _ _ inv.0 (omega (arith, inv.1))

pub returns-clause-first : goal.returns-clause-first
returns-clause-first c =
    let inv = c.loop-count.invariant in
    let all : c.loop-count.count ≡ c.args.most = omega (arith, c.loop-count-test.false, c.loop-count.auto.count-end) in
    let rest = c.loop-count.rest.now in
    let size = length c.args.bytes.now - length rest in
    let counted : size + length rest ≡ length c.args.bytes.now = omega (arith, inv.1) in
    subst (λ count. StandFirst count size c.args.bytes.now) all
    (stand_first c.args.bytes.now rest c.loop-count.count size inv.0 counted)

pub returns-in_default-clause-all : goal.returns-in_default-clause-all
returns-in_default-clause-all c = λ fewer.
    let inv = c.loop-count.invariant in
    subst IsUnfinished (first_rest _ c.loop-count.rest.now c.loop-count.count _ inv.0 (omega (arith, inv.1)))
    c.in_default.ensures.none
