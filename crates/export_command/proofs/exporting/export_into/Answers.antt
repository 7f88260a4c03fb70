use Rattle.std.proofs.Common.{subst}
use Rattle.export_command.specs.Exported.{AreTablesAfter, ReadJournal}
use Rattle.export_command.proofs.ExportLaws.{is_export, left_export}
use Rattle.export_command.proofs.exporting.export_into.Goals as goal

pub returns-in-Ok-clause-exported : goal.returns-in-Ok-clause-exported
returns-in-Ok-clause-exported g c =
    is_export _ _ _ _ _
    (subst (λ (read : ReadJournal). AreTablesAfter read.base read.marks read.file c.read.inside.tables)
    c.read.view_is c.read.invariant.after) c.soundness.ensures c.tables_are_read_back.ensures.spelled
    c.in-Ok.ensures.all c.in-Ok.ensures.known

pub returns-in-Ok-clause-any_moment : goal.returns-in-Ok-clause-any_moment
returns-in-Ok-clause-any_moment g c =
    left_export _ _ _ _ _
    (subst (λ (read : ReadJournal). AreTablesAfter read.base read.marks read.file c.read.inside.tables)
    c.read.view_is c.read.invariant.after) c.fill_folder.ensures.any_moment

pub returns-clause-any_moment : goal.returns-clause-any_moment
returns-clause-any_moment g c =
    left_export _ _ _ _ _
    (subst (λ (read : ReadJournal). AreTablesAfter read.base read.marks read.file c.read.inside.tables)
    c.read.view_is c.read.invariant.after) c.fill_folder.ensures.any_moment
