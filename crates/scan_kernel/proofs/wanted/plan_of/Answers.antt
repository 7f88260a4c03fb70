use Rattle.std.proofs.Common.{◌≡◌, ◌+◌, ◌<◌, ◌∙◌, List, arith, length, subst, sym}
use Rattle.std.proofs.lemmas.Bool.{false≢true}
use Rattle.scan_kernel.specs.declared.wanted.Wanted.{Wanted}
use Rattle.scan_kernel.specs.Masks.{questions_a_pass}
use Rattle.scan_kernel.proofs.PlanLaws.{AreDecided, decided_with, decided_without, suffices}
use Rattle.scan_kernel.proofs.wanted.plan_of.Goals.{then-shares, else-shares}
use Rattle.scan_kernel.proofs.wanted.plan_of.Goals as goal

pub loop-question-preserved : goal.loop-question-preserved
loop-question-preserved c =
    let all : List Wanted = c.args.input.wanted.now in
    let k = c.loop-question.question in
    let few : k < questions_a_pass = c.loop-question-test.true in
    let within : k < length all = omega (arith, few, c.args.input.wants.len) in
    let zone = c.zone_of-zone.result in
    elim c.if-shares.branch [
      | then-shares w ↦
          let with = w.with_question-plan in
          subst (AreDecided zone all (k + 1)) (sym w.plan-is)
          (decided_with zone all k c.loop-question.plan with.result few within c.loop-question.invariant
          with.ensures.active with.ensures.settled with.ensures.kept)
      | else-shares w ↦
          subst (AreDecided zone all (k + 1)) (sym w.plan-is)
          (decided_without zone all k c.loop-question.plan within c.loop-question.invariant (λ shares.
          false≢true (sym w.if-shares.false ∙ c.shares.ensures.shares shares)))
    ]

pub returns : goal.returns
returns c =
    let input = c.args.input in
    let zone = c.zone_of-zone.result in
    let end : c.loop-question.question ≡ questions_a_pass =
    omega (arith, c.loop-question-test.false, c.loop-question.auto.question-end) in
    let all = subst (λ n. AreDecided zone input.wanted.now n c.loop-question.plan) end c.loop-question.invariant in
    suffices input.lines.now input.masks.now input.wanted.now c.args.chunk c.loop-question.plan input.wants c.requires
    (subst (λ z. AreDecided z input.wanted.now questions_a_pass c.loop-question.plan) c.zone_of-zone.ensures all)
