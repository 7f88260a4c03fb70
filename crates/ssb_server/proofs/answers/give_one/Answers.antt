use Rattle.std.proofs.Common.{◌∙◌, sym}
use Rattle.ssb_server.proofs.GivingLaws.{gave_one}
use Rattle.ssb_server.proofs.answers.give_one.Goals as goal

pub answer-requires-clause-table : goal.answer-requires-clause-table
answer-requires-clause-table g c = c.requires.dispatcher.table_is ∙ sym c.table.ensures

pub answer-requires-clause-dispatcher : goal.answer-requires-clause-dispatcher
answer-requires-clause-dispatcher g c = (c.requires.dispatcher.number, c.requires.dispatcher.who_is)

pub answer-requires-clause-free : goal.answer-requires-clause-free
answer-requires-clause-free g c = (c.requires.free.rows, c.requires.free.writer)

pub returns : goal.returns
returns g c = gave_one c.args.token.now c.args.client c.requires.hand.0 _ c.answer.new.token c.requires.hand.1
    c.answer.ensures.answers
