-- Lines in codes, and what they add to the counts.
use Rattle.std.specs.Prelude.{◌≡◌, ℕ, true, All, List, map, flat_map, fold, Result, IfOk}
use Rattle.std.specs.List.{AllZip}
use Rattle.std.specs.declared.alloc.AllocError.{AllocError}
use Rattle.ssb_base.specs.Base.{Dimensions}
use Rattle.ssb_schema.specs.Facts.{facts_of}
use Rattle.ssb_schema.specs.declared.fact.Fact.{Fact}
use Rattle.ssb_schema.specs.declared.line.LineFields.{LineFields}
use Rattle.ssb_schema.specs.declared.refresh.Action.{Action}
use Rattle.ssb_schema.specs.declared.refresh.Action.TheVariants.{Add, Amend, Put, Withdraw}
use Rattle.ssb_schema.specs.Orders.{order_key}
use Rattle.row_store.specs.State.{Counts, with_fact, fact_counts}
use Rattle.fact_columns.specs.declared.place.Place.{Place}
use Rattle.fact_columns.specs.Places.{is_live, fact_at, live_facts}
use Rattle.fact_columns.specs.Classed.{IsPlaceOf}
use Rattle.fact_columns.specs.Columns.{Held}

-- the place is live, within the dimensions, and read back it is the fact
pub record IsCodeOf (dimensions : Dimensions) (fact : Fact) (place : Place) : Type 0 where
  pub reads : fact_at dimensions place ≡ fact
  pub live : is_live place ≡ true
  pub within : IsPlaceOf dimensions place

-- the places are live, within the dimensions, and read back they are the facts, in order
pub record AreCodesOf (dimensions : Dimensions) (facts : List Fact) (places : List Place) : Type 0 where
  pub read : map (fact_at dimensions) places ≡ facts
  pub lives : All (λ place. is_live place ≡ true) places
  pub inside : All (IsPlaceOf dimensions) places

-- a table of lines in codes, where it could be made
unfoldable pub IsCoded : Dimensions → List LineFields → Result Held AllocError → Type 0
IsCoded dimensions lines table = IfOk table (λ t. AreCodesOf dimensions (facts_of lines) t.places)

-- the lines, cut into pieces, each in a table of its own, where it could be made
pub record AreCoded (dimensions : Dimensions) (lines : List LineFields) (tables : List (Result Held AllocError))
    : Type 0 where
  pub pieces : List (List LineFields)
  pub whole : flat_map (λ piece. piece) pieces ≡ lines
  pub coded : AllZip (IsCoded dimensions) pieces tables

-- how often each fact is live
abbrev pub counts_at : Dimensions → List Place → Counts
counts_at dimensions places = fact_counts (live_facts dimensions places)

-- the counts with these places more
abbrev pub with_places : Dimensions → Counts → List Place → Counts
with_places dimensions counts places = fold (λ m place. with_fact m (fact_at dimensions place)) counts places

-- the order that an action speaks of
abbrev pub key_of : Action → ℕ
key_of (Add order) = order_key order
key_of (Amend order) = order_key order
key_of (Put order) = order_key order
key_of (Withdraw key) = key
