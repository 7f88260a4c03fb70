use Rattle.table_folder.proofs.FolderLaws.{a_crash_leaves_something}
use Rattle.table_folder.proofs.laws.a_crash_leaves_something.Goals as goal

pub returns : goal.returns
returns c = λ calls. a_crash_leaves_something calls
