use Rattle.std.proofs.Common.{subst}
use Rattle.stream_sessions.specs.SessionRequests.{AsksSession}
use Rattle.stream_sessions.proofs.answer.answer_own.Goals as goal

pub returns-in-Format : goal.returns-in-Format
returns-in-Format g c = λ number request client table asks.
    c.give_format.ensures number request client (subst (AsksSession request) c.in-Format.is asks)
