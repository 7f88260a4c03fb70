use Rattle.stream_sessions.proofs.RequestLaws.{refreshed_alike}
use Rattle.stream_sessions.proofs.reply.reply_to.Goals as goal

pub returns-in-Refresh-clause-same : goal.returns-in-Refresh-clause-same
returns-in-Refresh-clause-same g c = refreshed_alike _ _ _ _ _
    (c.refresh-result.ensures.refreshed c.args.number c.requires.who) c.requires.quiet

pub returns-in-Ask-clause-served : goal.returns-in-Ask-clause-served
returns-in-Ask-clause-served g c = rw c.in-Ask.is (c.told_to.ensures.served c.args.number)
