use Rattle.store_core.proofs.CallLaws.{worked_calls}
use Rattle.store_core.proofs.WorkedLaws.{worked_run}
use Rattle.store_core.proofs.laws.worked_run.Goals as goal

pub returns : goal.returns
returns c = record { run = worked_run; calls = worked_calls }
