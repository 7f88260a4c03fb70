-- What a refresh is. A refresh is seen as the list of its actions.
use Rattle.std.specs.Prelude.{ℕ, List, length, Option, Some, None, nat_eq, nat_lt, if◌then◌else◌}
use Rattle.ssb_schema.specs.declared.fault.SchemaFault.{SchemaFault}
use Rattle.ssb_schema.specs.declared.fault.SchemaFault.TheVariants as fault
use Rattle.ssb_schema.specs.declared.refresh.Action.{Action}

-- the most actions of a refresh
abbrev pub most_actions : ℕ
most_actions = 64

abbrev pub refresh_fault : List Action → Option SchemaFault
refresh_fault actions =
    if nat_eq (length actions) 0 then Some fault.NoActions
    else if nat_lt most_actions (length actions) then Some fault.TooManyActions
    else None
