-- What a turn comes to.
use Rattle.std.specs.Prelude.{◌≡◌, ℕ, ◌≤◌, All, List, [], ◌++◌, length, Some}
use Rattle.row_store.specs.History.{IsPrefix}
use Rattle.history.specs.declared.request.Grabbed.{Grabbed}
use Rattle.history_core.specs.declared.dispatcher.Outcome.{Outcome}
use Rattle.history_core.specs.declared.dispatcher.Outcome.TheVariants.{Served, GivenUp}
use Rattle.history.specs.Tokens.{TokenRecord}
use Rattle.history.specs.Words.{IsFresh}
use Rattle.twin_cell.specs.Twin.{Reading}
use Rattle.ssb_server.specs.Deeds as deeds
use Rattle.ssb_server.specs.Turns.{HasFetched, Gave, IsTrueCause, IsFound}
use Rattle.ssb_server.specs.declared.turn.Turn.{Turn}
use Rattle.ssb_server.specs.declared.turn.Turn.TheVariants.{Idle, Answered, Unserved}

-- from the version on: every request in hand was answered
abbrev pub Finishes : TokenRecord → Turn → TokenRecord → Type 0
Finishes before Idle after = ⊥
Finishes before (Answered at count) after = (at ≡ length before.seen) × (1 ≤ count)
    × Gave before count (Served at) after
Finishes before (Unserved count cause) after = (1 ≤ count) × IsTrueCause before.seen cause
    × Gave before count (GivenUp cause) after

-- from the grabbed requests on
pub record Ends (before : TokenRecord) (turn : Turn) (after : TokenRecord) : Type 0 where
  pub between : TokenRecord
  pub fetched : HasFetched before between
  pub finished : Finishes between turn after

-- it grabbed so many requests, fetched, and answered each of them, the newest first, with this outcome, over the history
-- that is then seen; nothing else of the token changed
pub record Grows (before : TokenRecord) (count : ℕ) (outcome : Outcome) (after : TokenRecord) : Type 0 where
  pub begins : IsPrefix before.seen after.seen
  pub hand : List Grabbed
  pub count_is : length hand ≡ count
  pub some : 1 ≤ count
  pub fresh : All IsFresh (deeds.given_to_all outcome hand)
  pub now : after ≡ record before {
    seen = after.seen;
    beside = [];
    mark = Some (length after.seen);
    version = Some (length after.seen);
    given = before.given ++ deeds.given_to_all outcome hand;
    did = before.did ++ deeds.turned before.who outcome hand;
  }

-- a turn: nothing was asked, and nothing changed; or all that was grabbed was answered at the length of what is then
-- seen; or given up, for a true cause
abbrev pub Turned : TokenRecord → Turn → TokenRecord → Type 0
Turned before Idle after = after ≡ before
Turned before (Answered at count) after = (at ≡ length after.seen) × Grows before count (Served at) after
Turned before (Unserved count cause) after = IsTrueCause after.seen cause × Grows before count (GivenUp cause) after

-- where the turn tells of the twin, the number is that of the copy that this reader entered last
abbrev pub TellsFound : Reading → Turn → Type 0
TellsFound reader Idle = Unit {0}
TellsFound reader (Answered at count) = Unit {0}
TellsFound reader (Unserved count cause) = IsFound reader cause
