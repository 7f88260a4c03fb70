use Rattle.std.proofs.Common.{refl}
use Rattle.history.specs.Members.{number_of}
use Rattle.stream_sessions.proofs.answer.answer.Goals as goal

pub returns-in-Ok-clause-answered : goal.returns-in-Ok-clause-answered
returns-in-Ok-clause-answered g c =
    c.report_taken.ensures.answered c.args.request.now (c.in-Ok.ensures.script c.args.request.now refl)

pub returns-in-Err-clause-answered : goal.returns-in-Err-clause-answered
returns-in-Err-clause-answered g c =
    c.answer_other.ensures (number_of c.args.client.now.who) c.args.client.now c.requires.table
    (c.in-Err.ensures.fault c.args.request.now refl)
