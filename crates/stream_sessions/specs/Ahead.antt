-- Requests that are read before their turn.
use Rattle.std.specs.Prelude.{◌≡◌, ℕ, Bool, true, false, List, [], ◌∷◌, map, take, drop, MatchOption, Option}
use Rattle.std.specs.Vec.Iter.{into_iter_items}
use Rattle.ssb_script.specs.Ahead.{AskFirst, AsksOne, IsWhole}
use Rattle.ssb_script.specs.Requests.{RequestRecord, request_of}
use Rattle.ssb_script.specs.declared.request.Request.{Request}
use Rattle.stream_sessions.specs.declared.ahead.Ahead.{Ahead}
use Rattle.stream_sessions.specs.declared.ahead.Coming.{Coming}
use Rattle.stream_sessions.specs.declared.ahead.Coming.TheVariants.{Read, Whole, Awaited}

-- what the requests ask that were read before their turn
abbrev pub asked_ahead : Ahead → List RequestRecord
asked_ahead ahead = map request_of (into_iter_items ahead.requests)

-- the first of them is taken, where there is one
abbrev pub TakesFirst : List RequestRecord → Option Request → List RequestRecord → Type 0
TakesFirst old taken new =
    MatchOption taken ((old ≡ []) × (new ≡ [])) (λ request. old ≡ request_of request ∷ new)

-- whether a request stands whole at hand
abbrev pub is_at_hand : Coming → Bool
is_at_hand (Read request size) = true
is_at_hand (Whole size) = true
is_at_hand Awaited = false

-- what comes next stands so at the front of these bytes, and these are asked behind it
abbrev pub StandsNext : Coming → List ℕ → List RequestRecord → Type 0
StandsNext (Read request size) bytes asked =
    IsWhole size bytes × AsksOne (take size bytes) (request_of request) × AskFirst (drop size bytes) asked
StandsNext (Whole size) bytes asked = IsWhole size bytes × (asked ≡ [])
StandsNext Awaited bytes asked = asked ≡ []
