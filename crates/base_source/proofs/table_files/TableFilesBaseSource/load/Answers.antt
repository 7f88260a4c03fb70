use Rattle.std.proofs.Common.{◌∙◌, sym}
use Rattle.base_source.proofs.table_files.TableFilesBaseSource.load.Goals as goal

pub returns-in-Err-clause-data : goal.returns-in-Err-clause-data
returns-in-Err-clause-data g c = λ one. c.in-Err.ensures.data (sym c.tell.ensures ∙ one)
