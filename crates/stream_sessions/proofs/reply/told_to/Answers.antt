use Rattle.stream_sessions.proofs.reply.told_to.Goals as goal

pub returns-in-Ok-clause-served : goal.returns-in-Ok-clause-served
returns-in-Ok-clause-served g c = rw c.in-Ok.ensures.statement c.rows_to.ensures.served
