-- Requests that are at hand and are read before their turn.
use Rattle.std.specs.Prelude.{◌≡◌, ◌≤◌, ℕ, List, [], ◌∷◌, ◌++◌, length, take}
use Rattle.std.specs.List.{AllByRecursion, AllZip, concat}
use Rattle.ssb_script.specs.Cutting.{IsRequest}
use Rattle.ssb_script.specs.Requests.{RequestRecord}
use Rattle.ssb_script.specs.Scripts.{SpellsScript, most_records}

-- the first bytes, so many of them, are a request
abbrev pub IsWhole : ℕ → List ℕ → Type 0
IsWhole size bytes = (size ≤ length bytes) × IsRequest (take size bytes)

-- the first bytes, so many of them, are so many requests
pub record StandFirst (count size : ℕ) (bytes : List ℕ) : Type 0 where
  pub requests : List (List ℕ)
  pub front : take size bytes ≡ concat requests
  pub each : AllByRecursion IsRequest requests
  pub many : length requests ≡ count

-- read as a script of its own, a request asks this and nothing else
abbrev pub AsksOne : List ℕ → RequestRecord → Type 0
AsksOne request one = SpellsScript most_records request (one ∷ [])

-- however a text is so many requests, they ask this, one thing each, in order
abbrev pub AskInTurn : ℕ → List ℕ → List RequestRecord → Type 0
AskInTurn count text asked =
    (requests : List (List ℕ)) → text ≡ concat requests → AllByRecursion IsRequest requests → length requests ≡ count
    → AllZip AsksOne requests asked

-- at the front of these bytes stand requests that ask this, one thing each, in order
pub record AskFirst (bytes : List ℕ) (asked : List RequestRecord) : Type 0 where
  pub requests : List (List ℕ)
  pub more : List ℕ
  pub joined : bytes ≡ concat requests ++ more
  pub each : AllByRecursion IsRequest requests
  pub ask : AllZip AsksOne requests asked

-- the request at the front of these bytes asks this and nothing else
pub record AsksFirst (bytes : List ℕ) (one : RequestRecord) : Type 0 where
  pub request : List ℕ
  pub more : List ℕ
  pub joined : bytes ≡ request ++ more
  pub is : IsRequest request
  pub asks : AsksOne request one
