-- What the checks of rows answer.
use Rattle.std.specs.Prelude.{◌≡◌, Option, Some, None, Result, Ok, Err}
use Rattle.ssb_schema.specs.declared.fault.SchemaFault.{SchemaFault}
use Rattle.ssb_base.specs.declared.index.Stop.{Stop}
use Rattle.ssb_base.specs.declared.index.Stop.TheVariants as stop

-- a check finds this fault, if it did not run out of memory
abbrev pub Finds : {X : Type 0} → Result X Stop → Option SchemaFault → Type 0
Finds (Ok x) found = found ≡ None
Finds (Err (stop.Fault f)) found = found ≡ Some f
Finds (Err stop.OutOfMemory) found = Unit {0}
