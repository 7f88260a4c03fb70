use Rattle.table_folder.proofs.FolderLaws.{has_all_after, left_after, left_after_fault, none_or_all}
use Rattle.table_folder.proofs.filling.fill.Goals as goal

pub returns-in_err-prepare-clause-any_moment : goal.returns-in_err-prepare-clause-any_moment
returns-in_err-prepare-clause-any_moment g c = none_or_all _ _ c.prepare.ensures.unnamed

pub returns-in-Ok-clause-all : goal.returns-in-Ok-clause-all
returns-in-Ok-clause-all g c = has_all_after _ _ _ c.in_ok-prepare.ensures.ready c.in-Ok.ensures.named

pub returns-in-Ok-clause-any_moment : goal.returns-in-Ok-clause-any_moment
returns-in-Ok-clause-any_moment g c = left_after _ _ _ c.in_ok-prepare.ensures.ready c.in-Ok.ensures.named

pub returns-in-Err-clause-any_moment : goal.returns-in-Err-clause-any_moment
returns-in-Err-clause-any_moment g c = left_after_fault _ _ _ c.in_ok-prepare.ensures.ready c.in-Err.ensures.failed
