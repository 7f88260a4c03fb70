-- The fact table as contracts see it.
use Rattle.fact_columns.specs.declared.fact_table.FactTable.TheInside.{Inside}
use Rattle.fact_columns.specs.Columns.{Held}
use Rattle.fact_columns.specs.Zoned.{AreTableZones}

-- a table's places, and for how many more there is memory
abbrev pub held_in : Inside → Held
held_in table = table.columns

abbrev pub IsZoned : Inside → Type 0
IsZoned table = AreTableZones table.columns table.zones
