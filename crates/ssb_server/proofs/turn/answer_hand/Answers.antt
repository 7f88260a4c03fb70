use Rattle.std.proofs.Common.{◌≡◌, ◌∙◌, ◌≤◌, sym, subst, ap, Some, arith}
use Rattle.std.specs.Prelude.{IfOk}
use Rattle.history.specs.Tokens.{TableRecord}
use Rattle.ssb_server.specs.Turns.{answers_after, Knows}
use Rattle.ssb_server.proofs.TurningLaws.{has_few_lines, copy_stands, copy_base, left, dispatcher_later, nothing_later}
use Rattle.ssb_server.proofs.TurningLaws.{keeps_later, version_later, seen_finished, may_tell}
use Rattle.ssb_server.proofs.turn.answer_hand.Goals as goal

pub answer_batch-scanned-requires-clause-few : goal.answer_batch-scanned-requires-clause-few
answer_batch-scanned-requires-clause-few g c = has_few_lines c.snapshot.new.token c.in-Ok.guard
    (g.C.Replica.state c.replica-copy.result.now) c.in-Ok.ensures.entered c.replica-copy.ensures.state c.in-Ok.ensures.few

pub finish-turn-requires : goal.finish-turn-requires
finish-turn-requires g c = record {
  dispatcher = dispatcher_later c.args.server.now c.args.token.now c.snapshot.new.token c.in-Ok.ensures.fetched
      c.requires.dispatcher;
  free = nothing_later c.args.token.now c.snapshot.new.token c.in-Ok.ensures.fetched c.requires.free;
  hand = keeps_later c.args.token.now c.snapshot.new.token c.args.batch.now c.in-Ok.ensures.fetched c.requires.hand;
  some = c.requires.some;
  at = (
    c.seen_len-at.ensures,
    version_later c.args.token.now c.snapshot.new.token c.in-Ok.ensures.fetched
        ∙ ap (λ n. Some n) (sym c.seen_len-at.ensures),
  );
  rows = subst (λ base. IfOk c.answer_batch-scanned.result
      (λ rows. rows.items ≡ answers_after base c.snapshot.new.token.seen c.args.batch.now.requests))
      (copy_base c.snapshot.new.token c.in-Ok.guard (g.C.Replica.state c.replica-copy.result.now) c.in-Ok.ensures.entered c.replica-copy.ensures.state)
      (subst (λ qs. IfOk c.answer_batch-scanned.result (λ rows. rows.items ≡ answers_after
      (g.C.Replica.state c.replica-copy.result.now).base c.snapshot.new.token.seen qs)) c.requests.ensures
      (c.answer_batch-scanned.ensures c.snapshot.new.token.seen
      (copy_stands c.snapshot.new.token c.in-Ok.guard (g.C.Replica.state c.replica-copy.result.now)
      c.in-Ok.ensures.entered c.replica-copy.ensures.state)));
}

pub returns-in-Ok : goal.returns-in-Ok
returns-in-Ok g c = record {
  ended = record {
    between = c.snapshot.new.token;
    fetched = c.in-Ok.ensures.fetched;
    finished = c.finish-turn.ensures.finished;
  };
  reader = seen_finished (λ (table : TableRecord) seen. Knows table.base seen c.leave-reader.result) c.snapshot.new.token
      c.finish-turn.new.token c.finish-turn.result c.finish-turn.ensures.finished
      (left c.snapshot.new.token.table.base c.snapshot.new.token.seen c.in-Ok.guard c.leave-reader.result
      c.in-Ok.ensures.entered c.leave-reader.ensures.base c.leave-reader.ensures.told);
  empty = c.finish-turn.ensures.empty;
  hand = c.finish-turn.ensures.hand;
  found = c.finish-turn.ensures.found c.leave-reader.result;
}

pub returns-in-Err-clause-ended : goal.returns-in-Err-clause-ended
returns-in-Err-clause-ended g c =
    let some : 1 ≤ c.give_up_all-count.result = let n = c.give_up_all-count.ensures.count in let m =
    c.requires.some in omega arith in
    record {
      between = c.snapshot.new.token;
      fetched = c.in-Err.ensures.fetched;
      finished = (some, c.in-Err.ensures.entered.cause, c.give_up_all-count.ensures.gave);
    }

pub returns-in-Err-clause-found : goal.returns-in-Err-clause-found
returns-in-Err-clause-found g c = c.in-Err.ensures.entered.found

pub give_up_all-count-requires-clause-cause : goal.give_up_all-count-requires-clause-cause
give_up_all-count-requires-clause-cause g c = may_tell c.snapshot.new.token.seen _ c.in-Err.ensures.entered.cause
