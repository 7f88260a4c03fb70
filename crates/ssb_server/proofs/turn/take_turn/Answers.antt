use Rattle.std.proofs.Common.{arith}
use Rattle.ssb_server.proofs.TurningLaws.{turned, dispatcher_grabbed, nothing_grabbed, knows_grabbed}
use Rattle.ssb_server.proofs.turn.take_turn.Goals as goal

pub answer_hand-answered-requires-clause-dispatcher : goal.answer_hand-answered-requires-clause-dispatcher
answer_hand-answered-requires-clause-dispatcher g c = λ κs outlives. dispatcher_grabbed c.args.server.now c.args.token.now
    c.grab_all.new.token c.grab_all.new.batch c.grab_all.ensures.grabbed c.requires.dispatcher

pub answer_hand-answered-requires-clause-free : goal.answer_hand-answered-requires-clause-free
answer_hand-answered-requires-clause-free g c = λ κs outlives. nothing_grabbed c.args.token.now c.grab_all.new.token
    c.grab_all.new.batch c.grab_all.ensures.grabbed c.requires.free

pub answer_hand-answered-requires-clause-some : goal.answer_hand-answered-requires-clause-some
answer_hand-answered-requires-clause-some g c = λ κs outlives.
    omega (arith, c.len.ensures.clients, c.if-len-eq0.false)

pub answer_hand-answered-requires-clause-reader : goal.answer_hand-answered-requires-clause-reader
answer_hand-answered-requires-clause-reader g c = λ κs outlives. knows_grabbed c.args.token.now c.grab_all.new.token
    c.grab_all.new.batch c.args.reader c.grab_all.ensures.grabbed c.requires.reader

pub returns-clause-turned : goal.returns-clause-turned
returns-clause-turned g c = turned c.args.token.now c.grab_all.new.token c.answer_hand-answered.new.token c.grab_all.new.batch
    c.answer_hand-answered.result.1 c.requires.hand c.grab_all.ensures.grabbed c.answer_hand-answered.ensures.ended
    c.answer_hand-answered.ensures.hand
