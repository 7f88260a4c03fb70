-- What is written as CSV is read back by the kit's reader.
use Rattle.std.proofs.Common.{◌≡◌, ◌++◌, ◌∷◌, ◌∙◌, [], ℕ, List, None, Some, ap, refl}
use Rattle.std.specs.Prelude.{flat_map, map}
use Rattle.csv.proofs.RoundTrip.{read-write}
use Rattle.csv.specs.Machine.{next_record}
use Rattle.csv.specs.Reading.{Reached, default_config}
use Rattle.csv.specs.Writing.{default_writer, escaped, fields_text, is_blank, read_back, row_text}
use Rattle.csv.specs.declared.parser.State.TheVariants as state
use Rattle.ssb_formats.specs.CsvText.{CsvIsReadBack, csv_setup}

-- a writer that takes records of any length writes each as one with the defaults does
escaped_alike : (field : List ℕ) → escaped csv_setup field ≡ escaped default_writer field
unfolding escaped
escaped_alike [] = refl
escaped_alike (b ∷ rest) = rw (escaped_alike rest) refl

fields_alike : (fields : List (List ℕ)) → fields_text csv_setup fields ≡ fields_text default_writer fields
unfolding fields_text
fields_alike [] = refl
fields_alike (field ∷ rest) = rw (escaped_alike field) (rw (fields_alike rest) refl)

blank_alike : (fields : List (List ℕ)) → is_blank csv_setup fields ≡ is_blank default_writer fields
unfolding is_blank
blank_alike [] = refl
blank_alike (field ∷ []) = rw (escaped_alike field) refl
blank_alike (field ∷ next ∷ rest) = refl

row_alike : (fields : List (List ℕ)) → row_text csv_setup fields ≡ row_text default_writer fields
row_alike [] = rw (blank_alike []) refl
row_alike (field ∷ rest) =
    rw (blank_alike (field ∷ rest)) (rw (escaped_alike field) (rw (fields_alike rest) refl))

read_one : (fields : List (List ℕ)) (tail : List ℕ)
    → next_record default_config state.StartRecord [] [] (row_text csv_setup fields ++ tail)
    ≡ Some (read_back fields, state.StartRecord, tail)
read_one fields tail =
    ap (λ text. next_record default_config state.StartRecord [] [] (text ++ tail)) (row_alike fields)
    ∙ read-write fields tail

-- records one behind the other
read_all : (rows : List (List (List ℕ)))
    → Reached default_config state.StartRecord (flat_map (row_text csv_setup) rows) (map read_back rows)
    state.StartRecord []
unfolding Reached
read_all [] = (refl, refl)
read_all (row ∷ rows) = (
  (read_back row, state.StartRecord, flat_map (row_text csv_setup) rows),
  read_one row (flat_map (row_text csv_setup) rows),
  refl,
  read_all rows,
)

none_left : next_record default_config state.StartRecord [] [] [] ≡ None
unfolding next_record
none_left = refl

pub read_back_whole : CsvIsReadBack
read_back_whole heads rows = (state.StartRecord, [], read_all (heads ∷ rows), none_left)
