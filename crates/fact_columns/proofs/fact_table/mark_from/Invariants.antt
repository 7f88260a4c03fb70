use Rattle.std.proofs.Common.{take}
use Rattle.fact_columns.specs.Zoned.{AreZonesOfPlaces, KeepAll}
use Rattle.fact_columns.proofs.fact_table.mark_from.Given as goal

abbrev pub invariant-loop-at : goal.invariant-loop-at
invariant-loop-at l = record {
  zoned : AreZonesOfPlaces l.zones (take l.at l.columns.places);
  kept : KeepAll l.initial.zones l.zones;
}
