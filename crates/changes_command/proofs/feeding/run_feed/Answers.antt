use Rattle.std.proofs.Common.{sym, ◌∙◌}
use Rattle.changes_command.proofs.StatusLaws.{feeding_told}
use Rattle.changes_command.proofs.feeding.run_feed.Goals as goal

pub returns-in-Err-clause-written : goal.returns-in-Err-clause-written
returns-in-Err-clause-written g c = λ zero. absurd (feeding_told c.in-Err.fault (sym c.tell.ensures ∙ zero))
