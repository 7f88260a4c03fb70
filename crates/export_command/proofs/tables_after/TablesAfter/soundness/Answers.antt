use Rattle.std.proofs.Common.{subst}
use Rattle.ssb_base.specs.Base.{IsSound}
use Rattle.export_command.proofs.tables_after.TablesAfter.soundness.Goals as goal

pub returns : goal.returns
returns c = subst IsSound c.self.view_is c.self.invariant
