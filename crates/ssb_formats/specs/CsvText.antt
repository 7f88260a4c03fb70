-- An answer as CSV, as the kit's writer quotes it.
use Rattle.std.specs.Prelude.{◌≡◌, ℕ, List, ◌∷◌, ◌++◌, true, false, flat_map, map}
use Rattle.csv.specs.Reading.{AreRecords, default_config}
use Rattle.csv.specs.Writing.{default_writer, with_flexible, read_back, row_text, writer_setup, fields_written}
use Rattle.csv.specs.Writing.{has_written}
use Rattle.csv.specs.declared.parser.State.TheVariants as state
use Rattle.csv.specs.declared.writer.Writer.{Writer}
use Rattle.csv.specs.declared.writer.WriterBuilder.{WriterBuilder}
use Rattle.ssb_questions.specs.declared.plan.Plan.{Plan}
use Rattle.ssb_questions.specs.declared.query.Query.{Query}
use Rattle.ssb_answers.specs.declared.answer.ResultRow.{ResultRow}
use Rattle.ssb_report.specs.AnswerText.{columns_of}
use Rattle.ssb_formats.specs.Cells.{heads_of}

-- fields with commas between them, in double quotes where they need it; a line feed ends a record
abbrev pub csv_setup : WriterBuilder
csv_setup = with_flexible default_writer true

-- a record of the heads, and one for each row
abbrev pub csv_records : List (List ℕ) → List (List (List ℕ)) → List ℕ
csv_records heads rows = row_text csv_setup heads ++ flat_map (row_text csv_setup) rows

-- those of an answer
abbrev pub csv_text : Query → Plan → List ResultRow → List ℕ
csv_text query plan rows =
    row_text csv_setup (heads_of query plan) ++ flat_map (λ row. row_text csv_setup (columns_of query row)) rows

-- a writer that has ended its last record
pub record IsBetween {W : Type 0} (writer : Writer W) : Type 0 where
  pub setup : writer_setup writer ≡ csv_setup
  pub fields : fields_written writer ≡ 0
  pub wrote : has_written writer ≡ false

-- a reader with the defaults reads the heads, and then each row; a record of no field is read as one of an empty field
abbrev pub CsvIsReadBack : Type 0
CsvIsReadBack = (heads : List (List ℕ)) (rows : List (List (List ℕ)))
    → AreRecords default_config state.StartRecord (csv_records heads rows) (map read_back (heads ∷ rows))
