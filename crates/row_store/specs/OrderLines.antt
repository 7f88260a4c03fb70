-- The lines that `OrderLines` lends.
use Rattle.std.specs.Prelude.{ℕ, ◌<◌, ◌≤◌, All, List, length}
use Rattle.ssb_schema.specs.declared.line.LineFields.{LineFields}
use Rattle.row_store.specs.Keyed.{lines_at}
use Rattle.row_store.specs.declared.order_lines.HeldLines.{HeldLines}
use Rattle.row_store.specs.declared.order_lines.HeldLines.TheVariants.{Loaded, Added}

abbrev pub lines_held : HeldLines → List LineFields
lines_held (Loaded lines positions) = lines_at lines.now positions.now
lines_held (Added lines) = lines.now

-- the positions are within the lines
abbrev pub AreWithin : HeldLines → Type 0
AreWithin (Loaded lines positions) = All (λ i. i < length lines.now) positions.now
AreWithin (Added lines) = Unit {0}

-- how many there are
abbrev pub count_held : HeldLines → ℕ
count_held (Loaded lines positions) = length positions.now
count_held (Added lines) = length lines.now

-- one to seven lines
pub record IsHeld (held : HeldLines) : Type 0 where
  pub within : AreWithin held
  pub some : 1 ≤ count_held held
  pub few : count_held held ≤ 7
