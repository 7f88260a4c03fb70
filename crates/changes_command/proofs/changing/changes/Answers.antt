use Rattle.changes_command.proofs.changing.changes.Goals as goal

pub returns-in-Ok-clause-written : goal.returns-in-Ok-clause-written
returns-in-Ok-clause-written g c = λ texts are. (c.in-Ok.ensures.written texts are).0
