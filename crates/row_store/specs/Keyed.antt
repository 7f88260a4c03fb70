-- How the orders by key stand for the live lines.
use Rattle.std.specs.Prelude.{◌≡◌, ℕ, ◌+◌, ◌<◌, ◌≤◌, All, List, [], length, take, drop, slice_get, Option, Some, None}
use Rattle.std.specs.Option.{option_map_or}
use Rattle.std.specs.List.{filter_map}
use Rattle.ssb_schema.specs.declared.line.LineFields.{LineFields}
use Rattle.ssb_schema.specs.declared.refresh.Action.{Action}
use Rattle.ssb_base.specs.Base.{Tables}
use Rattle.row_store.specs.Lines.{lines_of, added_by}
use Rattle.row_store.specs.History.{CommitRecord, lines_after}
use Rattle.row_store.specs.Legal.{IsLegal}
use Rattle.row_store.specs.Last.{AreLast}
use Rattle.row_store.specs.declared.place.OrderPlace.{OrderPlace}
use Rattle.row_store.specs.declared.place.Source.{Source}
use Rattle.row_store.specs.declared.place.Source.TheVariants.{Loaded, Added}

-- where loaded lines lie: the lines, and an index of them
pub record Sources : Type 0 where
  pub loaded : List LineFields
  pub index : List ℕ

-- the lines at these positions
abbrev pub lines_at : List LineFields → List ℕ → List LineFields
lines_at lines positions = filter_map (λ i. slice_get lines i) positions

-- the order key of the line at a position
abbrev pub key_at : List LineFields → ℕ → ℕ
key_at lines i = option_map_or (λ line. line.order_key) (slice_get lines i) 0

-- the lines that an action of these adds
abbrev pub order_at : List Action → ℕ → List LineFields
order_at actions action = option_map_or added_by (slice_get actions action) []

-- so many lines from a source: the loaded lines in the order of the index, or an order of the refresh that it holds
abbrev pub lines_from : Sources → ℕ → Source → List LineFields
lines_from sources count (Loaded first) = lines_at sources.loaded (take count (drop first sources.index))
lines_from sources count (Added refresh action) = order_at refresh.value action

-- the source is within the index
abbrev pub IsWithin : Sources → ℕ → Source → Type 0
IsWithin sources count (Loaded first) = first + count ≤ length sources.index
IsWithin sources count (Added refresh action) = Unit {0}

-- these lines lie at the place, and there are one to seven
pub record IsAt (sources : Sources) (place : OrderPlace) (lines : List LineFields) : Type 0 where
  pub found : lines_from sources place.lines place.source ≡ lines
  pub count : place.lines ≡ length lines
  pub some : 0 < place.lines
  pub few : place.lines ≤ 7
  pub within : IsWithin sources place.lines place.source

-- an order with no place has no lines
abbrev pub Lies : Sources → Option OrderPlace → List LineFields → Type 0
Lies sources None lines = lines ≡ []
Lies sources (Some place) lines = IsAt sources place lines

-- each key's place is that of its lines
abbrev pub Located : Sources → (ℕ → Option OrderPlace) → List LineFields → Type 0
Located sources orders lines = (key : ℕ) → Lies sources (orders key) (lines_of key lines)

-- each key has its place, the lines are counted together and within the limit, and the index names loaded lines
pub record IsKeyed (base : Tables) (sources : Sources) (orders : ℕ → Option OrderPlace) (line_count : ℕ)
    (lines : List LineFields) : Type 0 where
  pub each : Located sources orders lines
  pub total : line_count ≡ length lines
  pub few : line_count ≤ base.limits.lines
  pub index : All (λ i. i < length sources.loaded) sources.index

-- the orders by key stand for the lines that the log leaves, the log is legal, and its last commits are at hand
pub record IsStore (base : Tables) (index : List ℕ) (log recent : List CommitRecord) (count : ℕ)
    (orders : ℕ → Option OrderPlace) (line_count : ℕ) : Type 0 where
  pub keyed : IsKeyed base (record { loaded = base.lines; index = index }) orders line_count (lines_after base log)
  pub legal : IsLegal base log
  pub last : AreLast log recent count
