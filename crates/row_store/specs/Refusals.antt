-- Which refresh is refused, and why. Each cause is a test over whole lists.
use Rattle.std.specs.Prelude.{ℕ, ◌+◌, Bool, not, nat_lt, nat_le, if◌then◌else◌, List, [], ◌∷◌, length, Option, Some}
use Rattle.std.specs.Prelude.{None}
use Rattle.std.specs.Option.{option_or, option_map}
use Rattle.std.specs.List.{list_any}
use Rattle.ssb_schema.specs.declared.line.LineFields.{LineFields}
use Rattle.ssb_schema.specs.declared.refresh.Action.{Action}
use Rattle.ssb_schema.specs.declared.refresh.Action.TheVariants.{Add, Amend, Put, Withdraw}
use Rattle.ssb_schema.specs.Orders.{order_key}
use Rattle.ssb_base.specs.Base.{Tables, Dimensions, has_key, customer_key, supplier_key, part_key, date_key}
use Rattle.row_store.specs.Lines.{is_present, lines_without, lines_after_action}
use Rattle.row_store.specs.History.{CommitRecord, lines_after}
use Rattle.row_store.specs.declared.refusal.Cause.{Cause}
use Rattle.row_store.specs.declared.refusal.Cause.TheVariants.{LogFull, Present, UnknownCustomer, UnknownSupplier}
use Rattle.row_store.specs.declared.refusal.Cause.TheVariants.{UnknownPart, UnknownDate, LinesFull, Absent, AmendAbsent}
use Rattle.row_store.specs.declared.refusal.Refusal.{Refusal}

-- the line names a row that the dimension lacks
abbrev pub lacks_customer : Dimensions → LineFields → Bool
lacks_customer dimensions line = not (has_key customer_key dimensions.customers line.customer_key)

abbrev pub lacks_supplier : Dimensions → LineFields → Bool
lacks_supplier dimensions line = not (has_key supplier_key dimensions.suppliers line.supplier_key)

abbrev pub lacks_part : Dimensions → LineFields → Bool
lacks_part dimensions line = not (has_key part_key dimensions.parts line.part_key)

abbrev pub lacks_date : Dimensions → LineFields → Bool
lacks_date dimensions line = not (has_key date_key dimensions.dates line.order_date)

-- the first of customer, supplier, part and date that some line of the order names and the base lacks
abbrev pub unknown_key : Dimensions → List LineFields → Option Cause
unknown_key dimensions order =
    if list_any (lacks_customer dimensions) order then Some UnknownCustomer
    else if list_any (lacks_supplier dimensions) order then Some UnknownSupplier
    else if list_any (lacks_part dimensions) order then Some UnknownPart
    else if list_any (lacks_date dimensions) order then Some UnknownDate
    else None

-- the lines and the order's lines together pass the limit
abbrev pub lines_full : ℕ → List LineFields → List LineFields → Option Cause
lines_full most lines order = if nat_lt most (length lines + length order) then Some LinesFull else None

-- why an order's lines may not join these lines
abbrev pub order_cause : Tables → List LineFields → List LineFields → Option Cause
order_cause base lines order = option_or (unknown_key base.dimensions order) (lines_full base.limits.lines lines order)

-- why an action is refused where these lines are live. The old lines of an order that is amended or put do not count
-- against the limit
abbrev pub cause_of : Tables → List LineFields → Action → Option Cause
cause_of base lines (Add order) =
    if is_present (order_key order) lines then Some (Present (order_key order))
    else order_cause base lines order
cause_of base lines (Amend order) =
    if is_present (order_key order) lines then order_cause base (lines_without (order_key order) lines) order
    else Some (AmendAbsent (order_key order))
cause_of base lines (Put order) = order_cause base (lines_without (order_key order) lines) order
cause_of base lines (Withdraw key) = if is_present key lines then None else Some (Absent key)

-- the first action that is refused, counted from a number on, and why; each is looked at among the lines that the
-- earlier ones leave
abbrev pub first_refusal : Tables → ℕ → List LineFields → List Action → Option Refusal
first_refusal base number lines [] = None
first_refusal base number lines (action ∷ actions) =
    option_or (option_map (λ cause. record { action = number; cause = cause }) (cause_of base lines action))
    (first_refusal base (number + 1) (lines_after_action lines action) actions)

-- the refusal of a refresh after a history, if there is one: first a full log, as action 0, and then action by action
-- from 1
abbrev pub refusal_of : Tables → List CommitRecord → List Action → Option Refusal
refusal_of base history actions =
    if nat_le base.limits.commits (length history) then Some (record { action = 0; cause = LogFull })
    else first_refusal base 1 (lines_after base history) actions
