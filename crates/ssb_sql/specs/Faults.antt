-- Why tokens are no statement.
use Rattle.std.specs.Prelude.{◌≡◌, Err}
use Rattle.ssb_sql.specs.Reading.{Outcome}
use Rattle.ssb_sql.specs.declared.reading.ReadFault.{ReadFault}
use Rattle.ssb_sql.specs.declared.reading.ReadFault.TheVariants.{Unexpected, OutOfMemory}

-- the fault of such an outcome
abbrev pub IsFault : Outcome → ReadFault → Type 0
IsFault outcome (Unexpected left) = outcome ≡ Err left
IsFault outcome OutOfMemory = Unit {0}
