-- What the code keeps of the tables after a history, and what it writes of their lines.
use Rattle.std.specs.Prelude.{◌≡◌, ℕ, ◌*◌, ◌≤◌, Bool, true, false, not, nat_eq, List, [], ◌++◌, length, map, filter}
use Rattle.std.specs.Prelude.{flat_map, is_some, slice_get, OnOk, Option, Some, None, Result}
use Rattle.std.specs.HashMap.{get}
use Rattle.std.specs.HashSet.{contains}
use Rattle.std.specs.List.{AllByRecursion}
use Rattle.row_store.specs.History.{CommitRecord, lines_after}
use Rattle.row_store.specs.Lines.{added_by, is_present}
use Rattle.ssb_base.specs.Base.{Tables}
use Rattle.ssb_text.specs.Written.{Writes}
use Rattle.ssb_schema.specs.Rows.{line_values}
use Rattle.ssb_schema.specs.declared.line.LineFields.{LineFields}
use Rattle.ssb_schema.specs.declared.refresh.Action.{Action}
use Rattle.ssb_schema.specs.declared.table.Table.TheVariants as table
use Rattle.ssb_text.specs.RoundTrip.{IsTableRow}
use Rattle.ssb_text.specs.TableText.{rows_text}
use Rattle.export_command.specs.After.{AddsOrder, actions_of}
use Rattle.export_command.specs.declared.standing_orders.AddedOrder.{AddedOrder}
use Rattle.export_command.specs.declared.standing_orders.StandingOrders.{StandingOrders}

-- the lines that the action at a place adds
abbrev lines_of_action : Option Action → List LineFields
lines_of_action None = []
lines_of_action (Some action) = added_by action

abbrev pub lines_at : List Action → ℕ → List LineFields
lines_at actions place = lines_of_action (slice_get actions place)

abbrev pub order_lines : AddedOrder → List LineFields
order_lines order = lines_at order.refresh.value order.place

-- an added order stands where the one of its key that does has its number
abbrev is_number : ℕ → Option ℕ → Bool
is_number number None = false
is_number number (Some standing) = nat_eq standing number

abbrev pub stands_yet : (ℕ → Option ℕ) → AddedOrder → Bool
stands_yet numbers order = is_number order.number (numbers order.key)

-- the loaded lines whose orders are not gone
abbrev pub left_of_loaded : (ℕ → Bool) → List LineFields → List LineFields
left_of_loaded gone loaded = filter (λ line. not (gone line.order_key)) loaded

-- the lines of the added orders that stand
abbrev pub left_of_added : (ℕ → Option ℕ) → List AddedOrder → List LineFields
left_of_added numbers orders = flat_map order_lines (filter (stands_yet numbers) orders)

-- both, the loaded ones first
abbrev pub left_of : List LineFields → StandingOrders → List LineFields
left_of loaded orders =
    left_of_loaded (contains nat_eq orders.gone) loaded
    ++ left_of_added (get nat_eq orders.numbers) orders.added.items

-- an order is one of so many, and its lines have its key
abbrev pub IsOneOf : ℕ → AddedOrder → Type 0
IsOneOf count order = (order.number ≤ count)
    × AllByRecursion (λ (line : LineFields). line.order_key ≡ order.key) (order_lines order)

-- these lines are left of loaded ones; where an added order stands, no loaded one of its key does
pub record AreLeft (loaded lines : List LineFields) (orders : StandingOrders) : Type 0 where
  pub lines_are : lines ≡ left_of loaded orders
  pub apart : (key : ℕ) → is_some (get nat_eq orders.numbers key) ≡ true
      → is_present key (left_of_loaded (contains nat_eq orders.gone) loaded) ≡ false
  pub came : AllByRecursion (IsOneOf orders.count) orders.added.items

-- these orders stand after the commits, whose actions add orders
pub record Follows (base : Tables) (log : List CommitRecord) (orders : StandingOrders) : Type 0 where
  pub left : AreLeft base.lines (lines_after base log) orders
  pub few : orders.count ≤ 64 * length log
  pub adds : AllByRecursion AddsOrder (actions_of log)

-- the tables whose lines these are
abbrev pub tables_left : Tables → StandingOrders → Tables
tables_left base orders =
    record { limits = base.limits; dimensions = base.dimensions; lines = left_of base.lines orders }

-- known bytes grow by the text of these lines, each of which is a row of lineorder; or by a part of it
pub record WritesLines {X E : Type 0} (old new : Option (List ℕ)) (result : Result X E) (lines : List LineFields)
    : Type 0 where
  pub text : Writes old new result (rows_text (map line_values lines))
  pub rows : OnOk result (AllByRecursion (IsTableRow table.Lineorder) (map line_values lines))
