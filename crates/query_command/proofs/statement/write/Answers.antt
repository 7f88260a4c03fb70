use Rattle.query_command.proofs.ReportLaws.{handed_on}
use Rattle.query_command.proofs.statement.write.Goals as goal

pub returns-in-Ok-clause-written : goal.returns-in-Ok-clause-written
returns-in-Ok-clause-written g c = handed_on c.hand_on.result _ _ _ _ c.in-Ok.ensures.text c.hand_on.ensures.kept
