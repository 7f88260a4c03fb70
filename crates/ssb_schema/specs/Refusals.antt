-- The fault that a constructor answers, if it refuses.
use Rattle.std.specs.Prelude.{Option, Some, None, Result, Ok, Err}
use Rattle.ssb_schema.specs.declared.fault.SchemaFault.{SchemaFault}
use Rattle.ssb_schema.specs.declared.fault.Refused.{Refused}

abbrev pub fault_of : {X Y : Type 0} → Result X (Refused Y) → Option SchemaFault
fault_of (Ok x) = None
fault_of (Err refused) = Some refused.fault
