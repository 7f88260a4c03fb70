-- The law of lines: the records of a plain text are those of its lines.
use Rattle.std.specs.Prelude.{◌≡◌, ℕ, List, [], ◌∷◌, ◌++◌}
use Rattle.std.specs.List.{AllZip, flat_map}
use Rattle.ssb_text.specs.Records.{HasRecords}
use Rattle.ssb_text.specs.TextLines.{AreLines}

-- the records of a text are those of its lines, and then those of the bytes behind the last LF, each read as a text of its
-- own
abbrev pub HasRecordsOfLines : List ℕ → Type 0
HasRecordsOfLines text =
    (lines : List (List ℕ)) (last : List ℕ) (records : List (List (List ℕ)))
    → AreLines text lines last → HasRecords text records
    → (each : List (List (List (List ℕ)))) × (records ≡ flat_map (λ r. r) each)
    × AllZip HasRecords (lines ++ last ∷ []) each
