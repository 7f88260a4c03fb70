use Rattle.std.proofs.Common.{arith, ◌≡◌, ◌+◌, length, subst, sym, ap, ◌∙◌}
use Rattle.std.proofs.lemmas.List.{length_push}
use Rattle.history.specs.Tokens.{TokenRecord}
use Rattle.history_core.specs.declared.dispatcher.Outcome.TheVariants.{Served}
use Rattle.ssb_server.specs.Hand.{Hand, Keeps}
use Rattle.ssb_server.specs.Turns.{answers_after, Answered}
use Rattle.ssb_server.proofs.GivingLaws.{popped, gave_none, gave_more, left_keeps, rows_popped, in_hand_of, may_serve}
use Rattle.ssb_server.proofs.answers.give_rows.Goals as goal

pub loop-client-init : goal.loop-client-init
loop-client-init g c = record {
  given = 0;
  total = omega arith;
  gave = gave_none c.args.token.now (Served c.args.at);
  keeps = c.requires.hand;
  rows = c.requires.rows;
}

pub give_one-requires-clause-hand : goal.give_one-requires-clause-hand
give_one-requires-clause-hand g c =
    let last = popped c.pop.new.self c.loop-client.token.grabbed c.in-Some.client c.in-Some.field-0-1
    (subst (λ (h : Hand). Keeps h c.loop-client.token.grabbed) c.in-Some.ensures c.loop-client.invariant.keeps) in
    (c.in-Some.field-0-1, last.has)

pub give_one-requires-clause-request : goal.give_one-requires-clause-request
give_one-requires-clause-request g c =
    let last = popped c.pop.new.self c.loop-client.token.grabbed c.in-Some.client c.in-Some.field-0-1
    (subst (λ (h : Hand). Keeps h c.loop-client.token.grabbed) c.in-Some.ensures c.loop-client.invariant.keeps) in
    let rows = rows_popped c.args.token.now.table.base c.args.token.now.seen c.pop.new.self.requests c.in-Some.field-0-1
    c.loop-client.rows.items c.pop-in-Some.new.self.items c.in-Some-pop.found
    (c.loop-client.invariant.rows ∙ ap (λ (h : Hand). answers_after c.args.token.now.table.base c.args.token.now.seen
    h.requests) c.in-Some.ensures) c.in-Some-pop.ensures.items in
    let now = c.loop-client.invariant.gave.now in
    may_serve c.loop-client.token c.in-Some.client c.args.at c.in-Some-pop.found.questions c.in-Some-pop.found.rows
    (in_hand_of c.loop-client.token.grabbed c.in-Some.client c.in-Some.field-0-1 c.in-Some-pop.found.questions
    rows.questions_is last.has)
    (c.requires.at.0 ∙ ap (λ (t : TokenRecord). length t.seen) (sym now))
    (ap (λ (t : TokenRecord). t.version) now ∙ c.requires.at.1)
    (subst (λ (t : TokenRecord). Answered t.table.base t.seen c.in-Some-pop.found) (sym now) rows.answered)

pub loop-client-preserved-in-Some-pop : goal.loop-client-preserved-in-Some-pop
loop-client-preserved-in-Some-pop g c =
    let last = popped c.pop.new.self c.loop-client.token.grabbed c.in-Some.client c.in-Some.field-0-1
    (subst (λ (h : Hand). Keeps h c.loop-client.token.grabbed) c.in-Some.ensures c.loop-client.invariant.keeps) in
    let rows = rows_popped c.args.token.now.table.base c.args.token.now.seen c.pop.new.self.requests c.in-Some.field-0-1
    c.loop-client.rows.items c.pop-in-Some.new.self.items c.in-Some-pop.found
    (c.loop-client.invariant.rows ∙ ap (λ (h : Hand). answers_after c.args.token.now.table.base c.args.token.now.seen
    h.requests) c.in-Some.ensures) c.in-Some-pop.ensures.items in
    let n : length c.loop-client.batch.clients ≡ length c.pop.new.self.clients + 1 =
    ap (λ (h : Hand). length h.clients) c.in-Some.ensures ∙ length_push c.pop.new.self.clients c.in-Some.client in
    let total = c.loop-client.invariant.total in
    record {
      given = c.loop-client.invariant.given + 1;
      total = omega arith;
      gave = gave_more c.args.token.now c.loop-client.token c.give_one.new.token c.loop-client.invariant.given
          (Served c.args.at) c.loop-client.invariant.gave c.give_one.ensures;
      keeps = left_keeps c.loop-client.token (Served c.args.at) c.give_one.new.token c.pop.new.self c.in-Some.client
          c.in-Some.field-0-1 c.give_one.ensures last;
      rows = rows.rest_is;
    }
