-- What the columns hold, and what they stand for.
use Rattle.std.specs.Prelude.{◌≡◌, ℕ, ◌<◌, ◌^◌, All, List, length}
use Rattle.ssb_base.specs.Base.{Tables}
use Rattle.ssb_schema.specs.declared.fact.Fact.{Fact}
use Rattle.row_store.specs.State.{State, fact_counts}
use Rattle.fact_columns.specs.declared.place.Place.{Place}
use Rattle.fact_columns.specs.Places.{live_facts}
use Rattle.fact_columns.specs.Classed.{IsPlaceOf}

-- the base, the number of commits taken in, the places, and the facts of the live ones
pub record Stored : Type 0 where
  pub base : Tables
  pub commits : ℕ
  pub places : List Place
  pub facts : List Fact

-- the state is that of the live facts, and of nothing else
abbrev pub columns_state : Stored → State
columns_state c = record { base = c.base; commits = c.commits; counts = fact_counts c.facts }

-- what holds of all columns: the facts are those of the live places, read back, and every place, live or free, names
-- rows that are there
pub record IsRead (c : Stored) : Type 0 where
  pub facts_are : c.facts ≡ live_facts c.base.dimensions c.places
  pub within : All (IsPlaceOf c.base.dimensions) c.places
  pub few : length c.places < 2 ^ 32
