use Rattle.std.proofs.Common.{subst}
use Rattle.ssb_audit.specs.Legal.{IsLegalTrace}
use Rattle.run_command.proofs.RunLaws.{trace_is_legal}
use Rattle.history.specs.Tokens.{new_dispatchers}
use Rattle.ssb_clients.proofs.StayingLaws.{without_reader}
use Rattle.run_command.proofs.run.serve_scripts.Goals as goal

pub returns-in_ok-speak_scripts-in-Ok-clause-legal : goal.returns-in_ok-speak_scripts-in-Ok-clause-legal
returns-in_ok-speak_scripts-in-Ok-clause-legal g c =
    subst (λ b. IsLegalTrace b c.in_ok-speak_scripts-in-Ok.field-0.trace) c.in-Ok.ensures.base
    (trace_is_legal _ _ _ _ c.in_ok-speak_scripts-in-Ok.field-0.trace c.in_ok-speak_scripts-in-Ok.ensures)

pub speak_scripts-requires-clause-dispatchers : goal.speak_scripts-requires-clause-dispatchers
speak_scripts-requires-clause-dispatchers g c κs outlives =
    let opened = c.in-Ok.opened in
    without_reader opened.dispatchers.items (new_dispatchers opened.server) opened.reader c.in-Ok.ensures.dispatchers
    c.in-Ok.ensures.reader
