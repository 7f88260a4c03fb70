-- What a run is to an observer, who sees its events, its replies and the last history, and counts replies.
use Rattle.std.specs.Prelude.{◌≡◌, ℕ, ◌+◌, ◌<◌, ◌≤◌, Bool, true, false, List, length, take, filter, Some, slice_get}
use Rattle.ssb_schema.specs.declared.refresh.Action.{Action}
use Rattle.ssb_base.specs.Base.{Tables}
use Rattle.ssb_answers.specs.declared.answer.ResultRow.{ResultRow}
use Rattle.row_store.specs.History.{CommitRecord}
use Rattle.row_store.specs.Refusals.{refusal_of}
use Rattle.row_store.specs.Legal.{IsLegal}
use Rattle.history_core.specs.declared.event.Who.TheVariants.{Client}
use Rattle.history_core.specs.declared.event.EventReply.{EventReply}
use Rattle.history_core.specs.declared.event.EventReply.TheVariants.{Done, Committed, Refused, Length}
use Rattle.history_core.specs.declared.event.EventReply.TheVariants.{Asked as Asks, Rows, Unserved}
use Rattle.history_core.specs.Events.{Questions, Event, PutRows, Post, Grab, Collect}
use Rattle.history_core.specs.World.{commit_by, all_rows_after}

-- at this place of the run stands this event, with this reply
abbrev pub Happens : List Event → List EventReply → ℕ → Event → EventReply → Type 0
Happens events replies place event reply =
    (slice_get events place ≡ Some event) × (slice_get replies place ≡ Some reply)

abbrev pub is_committed : EventReply → Bool
is_committed (Committed number) = true
is_committed other = false

-- how many Committed replies stand before this place
abbrev pub commits_before : List EventReply → ℕ → ℕ
commits_before replies place = length (filter is_committed (take place replies))

-- it posts, grabs or collects a request of this client, and was enabled
abbrev pub IsOfRequest : ℕ → Event → EventReply → Type 0
IsOfRequest client (Post number questions) Done = number ≡ client
IsOfRequest client (Grab dispatcher number) (Asks questions) = number ≡ client
IsOfRequest client (Collect number) (Rows questions at rows) = number ≡ client
IsOfRequest client (Collect number) (Unserved questions cause) = number ≡ client
IsOfRequest client other reply = ⊥

-- the request that this client has outstanding at a place: it was posted with these questions, then grabbed, and nothing
-- else was done to a request of this client since it was posted
pub record Outstanding (events : List Event) (replies : List EventReply) (client : ℕ) (questions : Questions)
    (place : ℕ)
    : Type 0 where
  pub posted : ℕ
  pub grabbed : ℕ
  pub dispatcher : ℕ
  pub was_posted : Happens events replies posted (Post client questions) Done
  pub was_grabbed : Happens events replies grabbed (Grab dispatcher client) (Asks questions)
  pub posted_first : posted < grabbed
  pub grabbed_before : grabbed < place
  pub alone : (other : ℕ) (event : Event) (reply : EventReply) → posted < other → other < place
      → Happens events replies other event reply → IsOfRequest client event reply → other ≡ grabbed

-- what a reply tells is so: a commit is the next of the history, with the client and the refresh of its event; a
-- refusal and a length are those after so many commits; rows answer each of the questions that the client had
-- outstanding, all of them after one number of commits, at least those before its grab and at most those before the
-- collect
abbrev pub IsTrueReply : Tables → List Event → List EventReply → List CommitRecord → ℕ → Event → EventReply → Type 0
IsTrueReply base events replies history place event (Committed number) = (number ≡ commits_before replies place + 1)
    × ((client : ℕ) × (actions : List Action) × (event ≡ PutRows (Client client) (Some actions))
    × (slice_get history (commits_before replies place) ≡ Some (commit_by client actions)))
IsTrueReply base events replies history place event (Refused at action cause) = (at ≡ commits_before replies place)
    × ((client : ℕ) × (actions : List Action) × (event ≡ PutRows (Client client) (Some actions))
    × (refusal_of base (take at history) actions ≡ Some record { action = action; cause = cause }))
IsTrueReply base events replies history place event (Length number) = number ≡ commits_before replies place
IsTrueReply base events replies history place event (Rows questions at rows) = (client : ℕ) × (event ≡ Collect client)
    × (request : Outstanding events replies client questions place)
    × (commits_before replies request.grabbed ≤ at) × (at ≤ commits_before replies place)
    × (rows ≡ all_rows_after base questions (take at history))
IsTrueReply base events replies history place event (Unserved questions cause) =
    (client : ℕ) × (event ≡ Collect client) × Outstanding events replies client questions place
IsTrueReply base events replies history place event other = Unit {0}

-- the replies to these events are those of one legal history: it has as many commits as there are Committed replies,
-- and each reply is true
pub record IsTrueRun (base : Tables) (events : List Event) (replies : List EventReply) (history : List CommitRecord)
    : Type 0 where
  pub replied : length replies ≡ length events
  pub legal : IsLegal base history
  pub no_others : length history ≡ commits_before replies (length replies)
  pub true_replies : (place : ℕ) (event : Event) (reply : EventReply) → Happens events replies place event reply
      → IsTrueReply base events replies history place event reply

-- in a true run the later of two answers to one client is after no fewer commits
abbrev pub AnswersNeverGoBack : Type 0
AnswersNeverGoBack = (base : Tables) (events : List Event) (replies : List EventReply) (history : List CommitRecord)
    → IsTrueRun base events replies history
    → (client first second : ℕ) (questions other : Questions) (early late : ℕ) (rows later : List (List ResultRow))
    → first < second
    → Happens events replies first (Collect client) (Rows questions early rows)
    → Happens events replies second (Collect client) (Rows other late later)
    → early ≤ late
