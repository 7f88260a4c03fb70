-- What columns with standing questions keep.
use Rattle.fact_columns.specs.Watching.{live_lines}
use Rattle.standing_columns.specs.Standing.{AllFollow}
use Rattle.standing_columns.specs.declared.columns.StandingColumns.TheInside.{Inside}

-- the standing questions are made ready over the columns' base, and their totals are those of the live lines
pub record AreKept (s : Inside) : Type 0 where
  pub follow : AllFollow s.standing s.columns.base (live_lines s.columns.places)
