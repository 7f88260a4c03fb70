-- What `Base::new` is handed, and what it answers.
use Rattle.std.specs.Prelude.{◌≡◌, Option, Some, None, Result, Ok, Err}
use Rattle.ssb_base.specs.Base.{Tables, Dimensions}
use Rattle.ssb_base.specs.declared.base.BaseError.{BaseError}
use Rattle.ssb_base.specs.declared.base.BaseError.TheVariants as errors
use Rattle.ssb_base.specs.declared.base.BaseParts.{BaseParts}
use Rattle.ssb_schema.specs.declared.fault.SchemaFault.{SchemaFault}
use Rattle.ssb_base.specs.declared.limits.Limits.{Limits}

-- the tables that the parts make
abbrev pub dimensions_of : BaseParts → Dimensions
dimensions_of parts = record {
  customers = parts.customers.items;
  suppliers = parts.suppliers.items;
  parts = parts.parts.items;
  dates = parts.dates.items;
}

abbrev pub tables_of : Limits → BaseParts → Tables
tables_of limits parts = record { limits = limits; dimensions = dimensions_of parts; lines = parts.lines.items }

-- a base is made where there is no fault, and else the fault is told, unless memory ran out
abbrev pub Answers : {X : Type 0} → Result X BaseError → Option SchemaFault → Type 0
Answers (Ok base) found = found ≡ None
Answers (Err (errors.Refused refused)) found = found ≡ Some refused.fault
Answers (Err (errors.OutOfMemory parts)) found = Unit {0}

-- the parts come back
abbrev pub HandsBack : BaseParts → BaseError → Type 0
HandsBack parts (errors.Refused refused) = refused.back ≡ parts
HandsBack parts (errors.OutOfMemory back) = back ≡ parts
