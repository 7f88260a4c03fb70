-- Why a scan may go over all places.
use Rattle.std.specs.Prelude.{◌≡◌, Bool, true, ◌&&◌, List, map, filter}
use Rattle.ssb_schema.specs.declared.fact.Fact.{Fact}
use Rattle.ssb_base.specs.Base.{Dimensions}
use Rattle.fact_columns.specs.declared.place.Place.{Place}
use Rattle.fact_columns.specs.Places.{is_live, fact_at, live_facts}

-- a filter over all places with a test that a free place fails is a filter over the live ones
abbrev pub FreePlacesDropOut : Type 0
FreePlacesDropOut = (test : Place → Bool) (places : List Place)
    → ((place : Place) → test place ≡ true → is_live place ≡ true)
    → filter test places ≡ filter test (filter is_live places)

-- the live facts that pass a test are those of the places, live and of a fact that passes
abbrev pub LiveFactsThatPass : Type 0
LiveFactsThatPass = (dimensions : Dimensions) (test : Fact → Bool) (places : List Place)
    → filter test (live_facts dimensions places) ≡ map (fact_at dimensions)
    (filter (λ place. is_live place && test (fact_at dimensions place)) places)
