use Rattle.ssb_files.proofs.HeadsLaws.{no_rows_told}
use Rattle.ssb_files.proofs.loading.rows_of.Goals as goal

pub returns-in-Err-clause-data : goal.returns-in-Err-clause-data
returns-in-Err-clause-data g c = λ one texts are.
    no_rows_told g.I.Read.remaining c.args.tables c.in-Err.fault c.in-Err.ensures.fault one texts are
