use Rattle.run_command.proofs.TraceFileLaws.{begins}
use Rattle.run_command.proofs.laws.traces_may_be_replaced.Goals as goal

pub returns : goal.returns
returns c = λ trace. begins trace.commits trace.answers
