-- What was parsed of a block.
use Rattle.std.specs.Prelude.{ℕ, List, map, Result, IfOk}
use Rattle.ssb_schema.specs.Rows.{line_values}
use Rattle.ssb_text.specs.declared.records.ReadError.{ReadError}
use Rattle.ssb_text.specs.Lines.{SpellsUntil}
use Rattle.ssb_text.specs.declared.parsing.Parsed.{Parsed}

-- these are the lines of a block, up to its first fault
abbrev pub IsParsed : List ℕ → Parsed → Type 0
IsParsed block parsed = SpellsUntil block (map line_values parsed.lines.items) parsed.fault

-- the same, if the block could be read
abbrev pub IsParsedOk : List ℕ → Result Parsed ReadError → Type 0
IsParsedOk block read = IfOk read (IsParsed block)
