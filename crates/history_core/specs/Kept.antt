-- What every world keeps that events lead to from an opening one.
use Rattle.std.specs.Prelude.{◌≡◌, ◌⊎◌, ℕ, ◌≤◌, All, List, length, take, Some}
use Rattle.ssb_base.specs.Base.{Tables}
use Rattle.row_store.specs.History.{CommitRecord, IsPrefix}
use Rattle.row_store.specs.Legal.{IsLegal}
use Rattle.history_core.specs.declared.dispatcher.Given.{Given}
use Rattle.history_core.specs.declared.dispatcher.Outcome.{Outcome}
use Rattle.history_core.specs.declared.dispatcher.Outcome.TheVariants.{Served, GivenUp}
use Rattle.history_core.specs.Events.{Event}
use Rattle.history_core.specs.Numbered.{numbered}
use Rattle.history_core.specs.World.{World, ClientState, DispatcherState, Mailbox, empty, asked, in_hand, answered}
use Rattle.history_core.specs.World.{unserved, all_rows_after, opening_world, step_of}
use Rattle.history_core.specs.World.{run_of}
use Rattle.history_core.specs.OwnCommits.{OwnCommits, commits_of}

-- a dispatcher has this mark or version
abbrev pub HasMark : DispatcherState → ℕ → Type 0
HasMark d mark = (d.mark ≡ Some mark) ⊎ (d.version ≡ Some mark)

abbrev pub Marks : List DispatcherState → ℕ → ℕ → Type 0
Marks dispatchers number mark = (d : DispatcherState) × (numbered dispatchers number ≡ Some d) × HasMark d mark

-- a floor is no more than there is, and than each mark and version of the dispatcher that has the request in hand; an
-- answer is right
abbrev pub MailKept : Tables → List CommitRecord → List DispatcherState → Mailbox → Type 0
MailKept base history dispatchers empty = Unit {0}
MailKept base history dispatchers (asked questions floor) = floor ≤ length history
MailKept base history dispatchers (in_hand holder questions floor) =
    (floor ≤ length history) × ((mark : ℕ) → Marks dispatchers holder mark → floor ≤ mark)
MailKept base history dispatchers (answered questions at rows) =
    (at ≤ length history) × (rows ≡ all_rows_after base questions (take at history))
MailKept base history dispatchers (unserved questions cause) = Unit {0}

abbrev pub OutcomeKept : List CommitRecord → ℕ → Outcome → Type 0
OutcomeKept history floor (Served at) = (floor ≤ at) × (at ≤ length history)
OutcomeKept history floor (GivenUp cause) = Unit {0}

abbrev pub GivenKept : List CommitRecord → Given → Type 0
GivenKept history given = OutcomeKept history given.floor given.outcome

pub record ClientKept (base : Tables) (history : List CommitRecord) (dispatchers : List DispatcherState)
    (client : ClientState) : Type 0 where
  pub seen : IsPrefix client.seen history
  pub mail : MailKept base history dispatchers client.mailbox

pub record DispatcherKept (history : List CommitRecord) (dispatcher : DispatcherState) : Type 0 where
  pub seen : IsPrefix dispatcher.seen history
  pub marks : (mark : ℕ) → HasMark dispatcher mark → mark ≤ length history
  pub marks_seen : (mark : ℕ) → HasMark dispatcher mark → mark ≤ length dispatcher.seen
  pub given : All (GivenKept history) dispatcher.given

-- what a world keeps: its base; a legal history with the clients' own commits; what each client and dispatcher has seen
-- is a
-- beginning of the history; floors, marks, versions and answers are within it
pub record WorldKept (base : Tables) (clients : ℕ) (w : World) : Type 0 where
  pub based : w.base ≡ base
  pub legal : IsLegal w.base w.history
  pub own : OwnCommits clients w
  -- what it made is what it has seen of its own
  pub seen_own : (number : ℕ) (c : ClientState) → numbered w.clients number ≡ Some c → c.mine ≡ commits_of number c.seen
  pub client : (number : ℕ) (c : ClientState) → numbered w.clients number ≡ Some c
      → ClientKept w.base w.history w.dispatchers c
  pub dispatcher : (number : ℕ) (d : DispatcherState) → numbered w.dispatchers number ≡ Some d
      → DispatcherKept w.history d

abbrev pub EachEventKeeps : Type 0
EachEventKeeps = (base : Tables) (clients : ℕ) (w : World) (event : Event) → WorldKept base clients w
    → WorldKept base clients (step_of w event).0

abbrev pub EveryWorldKeeps : Type 0
EveryWorldKeeps =
    (base : Tables) (clients dispatchers : ℕ) (events : List Event)
    → WorldKept base clients (run_of (opening_world base clients dispatchers) events).1
