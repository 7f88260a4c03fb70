use Rattle.std.proofs.Common.{arith, ◌≡◌, ◌+◌, length, subst, ap, ◌∙◌}
use Rattle.std.proofs.lemmas.List.{length_push}
use Rattle.history_core.specs.declared.dispatcher.Outcome.TheVariants.{GivenUp}
use Rattle.ssb_server.specs.Hand.{Hand, Keeps}
use Rattle.ssb_server.proofs.GivingLaws.{popped, gave_none, gave_more, left_keeps, may_give_up}
use Rattle.ssb_server.proofs.answers.give_up_all.Goals as goal

pub loop-client-init : goal.loop-client-init
loop-client-init g c = record {
  given = 0;
  total = omega arith;
  gave = gave_none c.args.token.now (GivenUp c.args.cause);
  keeps = c.requires.hand;
}

pub give_one-requires-clause-hand : goal.give_one-requires-clause-hand
give_one-requires-clause-hand g c = (
  c.in-Some.questions,
  (popped c.pop.new.self c.loop-client.token.grabbed c.in-Some.client
      c.in-Some.questions (subst (λ (h : Hand). Keeps h c.loop-client.token.grabbed) c.in-Some.ensures
      c.loop-client.invariant.keeps)).has,
)

pub give_one-requires-clause-request : goal.give_one-requires-clause-request
give_one-requires-clause-request g c = may_give_up c.loop-client.token c.in-Some.client c.in-Some.questions c.args.cause
    (popped c.pop.new.self c.loop-client.token.grabbed c.in-Some.client c.in-Some.questions
    (subst (λ (h : Hand). Keeps h c.loop-client.token.grabbed) c.in-Some.ensures c.loop-client.invariant.keeps)).has
    c.requires.cause

pub loop-client-preserved : goal.loop-client-preserved
loop-client-preserved g c =
    let last = popped c.pop.new.self c.loop-client.token.grabbed c.in-Some.client c.in-Some.questions
    (subst (λ (h : Hand). Keeps h c.loop-client.token.grabbed) c.in-Some.ensures c.loop-client.invariant.keeps) in
    let n : length c.loop-client.batch.clients ≡ length c.pop.new.self.clients + 1 =
    ap (λ (h : Hand). length h.clients) c.in-Some.ensures ∙ length_push c.pop.new.self.clients c.in-Some.client in
    let total = c.loop-client.invariant.total in
    record {
      given = c.loop-client.invariant.given + 1;
      total = omega arith;
      gave = gave_more c.args.token.now c.loop-client.token c.give_one.new.token c.loop-client.invariant.given
          (GivenUp c.args.cause) c.loop-client.invariant.gave c.give_one.ensures;
      keeps = left_keeps c.loop-client.token (GivenUp c.args.cause) c.give_one.new.token c.pop.new.self
          c.in-Some.client c.in-Some.questions c.give_one.ensures last;
    }
