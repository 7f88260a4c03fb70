use Rattle.std.proofs.Common.{sym, ◌∙◌}
use Rattle.store_command.proofs.StatusLaws.{store_told}
use Rattle.store_command.proofs.store_changes.run_store_changes.Goals as goal

pub returns-in-Err-clause-written : goal.returns-in-Err-clause-written
returns-in-Err-clause-written g c = λ zero. absurd (store_told c.in-Err.fault (sym c.tell.ensures ∙ zero))
