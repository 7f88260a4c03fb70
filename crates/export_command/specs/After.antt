-- The tables after a history, and which lines stand after it.
use Rattle.std.specs.Prelude.{◌≡◌, ℕ, ◌+◌, Bool, not, nat_eq, List, [], ◌∷◌, ◌++◌}
use Rattle.std.specs.Prelude.{drop, filter, flat_map}
use Rattle.std.specs.List.{AllByRecursion, list_any}
use Rattle.row_store.specs.Absorbing.{gone_by}
use Rattle.row_store.specs.History.{CommitRecord, lines_after}
use Rattle.row_store.specs.Legal.{IsLegal}
use Rattle.row_store.specs.Lines.{added_by}
use Rattle.ssb_base.specs.Base.{Tables, IsSound}
use Rattle.ssb_schema.specs.declared.line.LineFields.{LineFields}
use Rattle.ssb_schema.specs.Orders.{IsOrder}
use Rattle.ssb_schema.specs.declared.refresh.Action.{Action}
use Rattle.ssb_schema.specs.declared.refresh.Action.TheVariants.{Add, Amend, Put, Withdraw}

-- the dimensions as they were, and the lines after the history
abbrev pub tables_after : Tables → List CommitRecord → Tables
tables_after base history =
    record { limits = base.limits; dimensions = base.dimensions; lines = lines_after base history }

-- the actions of a history, one after another
abbrev pub actions_of : List CommitRecord → List Action
actions_of history = flat_map (λ (commit : CommitRecord). commit.actions) history

-- the earlier lines of the order go by the action
abbrev pub goes_by : ℕ → Action → Bool
goes_by key action = list_any (λ gone. nat_eq gone key) (gone_by action)

-- lines of the order that came with the action of this number, counted from 1, stand after all actions: by none of the
-- later ones they go; loaded lines came with number 0
abbrev pub stands : List Action → ℕ → ℕ → Bool
stands actions number key = not (list_any (goes_by key) (drop number actions))

-- the lines that stand, of lines that came with the action of this number
abbrev pub standing : List Action → ℕ → List LineFields → List LineFields
standing actions number lines = filter (λ line. stands actions number line.order_key) lines

-- the lines that some of the actions added and that stand; so many actions come before these
abbrev pub standing_added : List Action → ℕ → List Action → List LineFields
standing_added actions before [] = []
standing_added actions before (action ∷ later) =
    standing actions (before + 1) (added_by action) ++ standing_added actions (before + 1) later

-- the lines after a history are the loaded lines that stand, and then those that its actions added and that stand
abbrev pub LinesStand : Type 0
LinesStand = (base : Tables) (history : List CommitRecord) → let actions = actions_of history in
    lines_after base history ≡ standing actions 0 base.lines ++ standing_added actions 0 actions

-- what an action adds is an order
abbrev pub AddsOrder : Action → Type 0
AddsOrder (Add order) = IsOrder order
AddsOrder (Amend order) = IsOrder order
AddsOrder (Put order) = IsOrder order
AddsOrder (Withdraw key) = Unit {0}

-- the tables after a legal history of such actions keep what those of a base keep
abbrev pub TablesAfterAreSound : Type 0
TablesAfterAreSound = (base : Tables) (history : List CommitRecord) → IsSound base → IsLegal base history
    → AllByRecursion AddsOrder (actions_of history) → IsSound (tables_after base history)
