-- The zones of one dimension as contracts see them.
use Rattle.std.specs.Prelude.{ℕ, List}
use Rattle.fact_columns.specs.declared.zone_sets.ZoneSets.TheInside.{Inside}

-- the coarse codes of the dimension's rows, and for each chunk the set of the codes of the rows that its lines name
pub record Sets : Type 0 where
  pub codes : List ℕ
  pub sets : List ℕ

abbrev pub sets_of : Inside → Sets
sets_of zones = record { codes = zones.codes.items; sets = zones.sets.items }
