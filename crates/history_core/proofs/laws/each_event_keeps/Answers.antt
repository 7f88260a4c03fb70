use Rattle.history_core.proofs.KeepingLaws.{each_event}
use Rattle.history_core.proofs.laws.each_event_keeps.Goals as goal

pub returns : goal.returns
returns c = each_event
