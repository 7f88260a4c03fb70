use Rattle.ssb_text.specs.Load.{reader_of}
use Rattle.ssb_text.proofs.LayoutLaws.{benchmark_rows}
use Rattle.ssb_text.proofs.table_files.TableFiles.benchmark.Goals as goal

pub returns : goal.returns
returns g c = λ texts are t.
    rw c.benchmark.ensures
    (benchmark_rows t (g.R.Read.remaining (reader_of c.args.tables t)) (texts t) (are t))
