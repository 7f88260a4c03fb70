-- What a refresh does to the live lines, which are a plain list.
use Rattle.std.specs.Prelude.{ℕ, Bool, not, ◌==◌, List, [], ◌++◌, filter, fold}
use Rattle.std.specs.List.{list_any}
use Rattle.ssb_schema.specs.declared.line.LineFields.{LineFields}
use Rattle.ssb_schema.specs.declared.refresh.Action.{Action}
use Rattle.ssb_schema.specs.declared.refresh.Action.TheVariants.{Add, Amend, Put, Withdraw}
use Rattle.ssb_schema.specs.Orders.{order_key}

-- the line is of the order with this key
abbrev pub is_of : ℕ → LineFields → Bool
is_of key line = line.order_key == key

-- some line is of the order
abbrev pub is_present : ℕ → List LineFields → Bool
is_present key lines = list_any (is_of key) lines

-- the lines of the order
abbrev pub lines_of : ℕ → List LineFields → List LineFields
lines_of key lines = filter (is_of key) lines

-- the lines of all other orders
abbrev pub lines_without : ℕ → List LineFields → List LineFields
lines_without key lines = filter (λ line. not (is_of key line)) lines

-- the lines that an action adds
abbrev pub added_by : Action → List LineFields
added_by (Add order) = order
added_by (Amend order) = order
added_by (Put order) = order
added_by (Withdraw key) = []

-- adding an order appends its lines, amending or putting one puts its lines in place of those with its key (of which an
-- order that is put may have none), withdrawing one drops every line with its key
abbrev pub lines_after_action : List LineFields → Action → List LineFields
lines_after_action lines (Add order) = lines ++ order
lines_after_action lines (Amend order) = lines_without (order_key order) lines ++ order
lines_after_action lines (Put order) = lines_without (order_key order) lines ++ order
lines_after_action lines (Withdraw key) = lines_without key lines

-- the actions one after another
abbrev pub lines_after_refresh : List LineFields → List Action → List LineFields
lines_after_refresh lines actions = fold lines_after_action lines actions
