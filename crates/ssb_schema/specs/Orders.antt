-- What an order is. An order is seen as the list of its lines.
use Rattle.std.specs.Prelude.{◌≡◌, ℕ, ◌≤◌, ◌<◌, Bool, not, List, [], ◌∷◌, length, All, Option, Some, None, nat_eq}
use Rattle.std.specs.Prelude.{nat_lt, if◌then◌else◌}
use Rattle.std.specs.List.{list_any, list_all}
use Rattle.ssb_schema.specs.FirstFault.{rows_fault, AreDistinct}
use Rattle.ssb_schema.specs.declared.fault.SchemaFault.{SchemaFault}
use Rattle.ssb_schema.specs.declared.fault.SchemaFault.TheVariants as fault
use Rattle.ssb_schema.specs.declared.line.LineFields.{LineFields}

-- the key of an order: that of its first line
abbrev pub order_key : List LineFields → ℕ
order_key [] = 0
order_key (line ∷ lines) = line.order_key

abbrev pub has_number_of : LineFields → LineFields → Bool
has_number_of earlier line = nat_eq earlier.line_number line.line_number

-- a line whose number an earlier line has
abbrev pub repeated_number : List LineFields → LineFields → Option SchemaFault
repeated_number earlier line =
    if list_any (λ e. has_number_of e line) earlier then Some (fault.LineRepeated line.line_number) else None

-- the most lines of an order
abbrev pub most_order_lines : ℕ
most_order_lines = 7

-- the first fault of the lines of an order
abbrev pub order_fault : List LineFields → Option SchemaFault
order_fault lines =
    if nat_eq (length lines) 0 then Some fault.NoLines
    else if nat_lt most_order_lines (length lines) then Some fault.TooManyLines
    else if not (list_all (λ line. nat_eq line.order_key (order_key lines)) lines) then Some fault.KeysDiffer
    else rows_fault repeated_number [] lines

-- one line or more, up to the most, of one key, with distinct numbers
pub record IsOrder (lines : List LineFields) : Type 0 where
  pub some : 0 < length lines
  pub few : length lines ≤ most_order_lines
  pub alike : All (λ line. line.order_key ≡ order_key lines) lines
  pub numbered : AreDistinct has_number_of lines
