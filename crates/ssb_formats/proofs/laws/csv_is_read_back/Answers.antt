use Rattle.ssb_formats.proofs.CsvLaws.{read_back_whole}
use Rattle.ssb_formats.proofs.laws.csv_is_read_back.Goals as goal

pub returns : goal.returns
returns c = read_back_whole
