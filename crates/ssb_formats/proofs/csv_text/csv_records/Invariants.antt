use Rattle.std.proofs.Common.{◌≡◌, ◌++◌, Some, flat_map, take}
use Rattle.csv.specs.Writing.{row_text, text_written}
use Rattle.ssb_formats.specs.CsvText.{IsBetween, csv_setup}
use Rattle.ssb_formats.proofs.csv_text.csv_records.Given as goal

abbrev pub invariant-loop-row : goal.invariant-loop-row
invariant-loop-row l = record {
  between : IsBetween l.writer;
  text : text_written (λ v. Some v.items) l.writer ≡ Some
      (row_text csv_setup l.heads ++ flat_map (row_text csv_setup) (take l.row-index l.rows));
}
