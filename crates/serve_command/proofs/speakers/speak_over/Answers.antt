use Rattle.std.proofs.Common.{◌∙◌}
use Rattle.serve_command.proofs.SessionLaws.{fresh_reader, has_streamed, nothing_streamed}
use Rattle.stream_sessions.proofs.RequestLaws.{alike_itself}
use Rattle.serve_command.proofs.speakers.speak_over.Goals as goal

pub returns-in-Err-clause-same : goal.returns-in-Err-clause-same
returns-in-Err-clause-same g c = alike_itself _ c.requires.quiet

pub returns-in-Err-clause-streamed : goal.returns-in-Err-clause-streamed
returns-in-Err-clause-streamed g c =
    rw (c.unused.ensures.output, c.unused.ensures.events) (nothing_streamed _ _ _ _ _)

pub returns-clause-streamed : goal.returns-clause-streamed
returns-clause-streamed g c =
    rw c.close-wire.ensures.events
    (has_streamed _ _ _ _ _ _ _ _ _ _ _ _ _
    (fresh_reader g.I.Read.remaining c.in-Ok.input c.args.ends.input c.in-Ok.ensures.inner c.in-Ok.ensures.empty
    c.in-Ok.ensures.capacity) c.close-wire.ensures.written c.serve_session-left.ensures.served
    c.serve_session-left.ensures.broken c.serve_session-left.ensures.conversed (c.commits.ensures ∙ c.close-wire.ensures.told))
