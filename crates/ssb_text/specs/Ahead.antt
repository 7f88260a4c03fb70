-- How far a text was read, where blocks are read and joined while others are parsed.
use Rattle.std.specs.Prelude.{◌≡◌, ℕ, ◌≤◌, List, [], map, length, Option, Result}
use Rattle.std.specs.List.{AllZip}
use Rattle.ssb_schema.specs.Columns.{Value}
use Rattle.ssb_schema.specs.Rows.{line_values}
use Rattle.ssb_text.specs.declared.records.ReadError.{ReadError}
use Rattle.ssb_text.specs.Blocks.{GivesBlocks, WasAll, bytes_left}
use Rattle.ssb_text.specs.Joining.{Joins}
use Rattle.ssb_text.specs.Parsing.{IsParsedOk}
use Rattle.ssb_text.specs.declared.blocks.Block.{Block}
use Rattle.ssb_text.specs.declared.ahead.ReadAhead.{ReadAhead}
use Rattle.ssb_text.specs.declared.ahead.Reading.{Reading}
use Rattle.ssb_text.specs.declared.parsing.Parsed.{Parsed}

-- the bytes of blocks
abbrev pub block_bytes : List Block → List (List ℕ)
block_bytes blocks = map (λ block. block.bytes.items) blocks

-- blocks were given of the bytes that were left, and none only where no bytes were left
pub record Gives (old new : Option (List ℕ)) (blocks : List (List ℕ)) : Type 0 where
  pub given : GivesBlocks old new blocks
  pub ended : length blocks ≡ 0 → WasAll old new

-- the first blocks of a source were read
pub record IsBegun {R H : Type 0} (remaining : R → Option (List ℕ)) (known : Option (List ℕ)) (reading : Reading R H)
    : Type 0 where
  pub no_lines : reading.lines.items ≡ []
  pub none_parsed : reading.parsed.items ≡ []
  pub gives : Gives known (bytes_left remaining reading.source) (block_bytes reading.blocks.items)

-- what was parsed was joined to these lines, and the next blocks were read
pub record GoesAhead {R H : Type 0} (remaining : R → Option (List ℕ)) (limit : ℕ) (rows : List (List Value))
    (parsed : List (Result Parsed ReadError)) (left : Option (List ℕ)) (ahead : ReadAhead R H) : Type 0 where
  pub few : length ahead.joined.lines.items ≤ limit
  pub joins : Joins IsParsedOk parsed rows (map line_values ahead.joined.lines.items)
  pub gives : Gives left (bytes_left remaining ahead.next.source) (block_bytes ahead.next.blocks.items)

-- the same, and the blocks that were read before were parsed
pub record TakesStep {R H : Type 0} (remaining : R → Option (List ℕ)) (limit : ℕ) (old new : Reading R H) : Type 0 where
  pub few : length new.lines.items ≤ limit
  pub joins : Joins IsParsedOk old.parsed.items (map line_values old.lines.items) (map line_values new.lines.items)
  pub gives : Gives (bytes_left remaining old.source) (bytes_left remaining new.source) (block_bytes new.blocks.items)
  pub parsed : AllZip IsParsedOk (block_bytes old.blocks.items) new.parsed.items
