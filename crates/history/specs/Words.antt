-- Words that several definitions share.
use Rattle.std.specs.Prelude.{◌≡◌, ◌≢◌, ℕ, ◌≤◌, List, [], length, take, Option, Some, None}
use Rattle.ssb_base.specs.Base.{Tables}
use Rattle.history_core.specs.declared.response.Response.{Response}
use Rattle.history_core.specs.declared.response.Response.TheVariants.{Rows, Unserved}
use Rattle.ssb_answers.specs.declared.answer.Unserved.{Unserved as Cause}
use Rattle.ssb_answers.specs.declared.answer.Unserved.TheVariants.{OutOfMemory, Twin}
use Rattle.row_store.specs.History.{CommitRecord, Warehouse}
use Rattle.row_store.specs.Refusals.{refusal_of}
use Rattle.history_core.specs.declared.event.Who.{Who}
use Rattle.history_core.specs.declared.event.Who.TheVariants.{Client, Dispatcher}
use Rattle.history_core.specs.Events.{Questions}
use Rattle.history_core.specs.OwnCommits.{commits_of}
use Rattle.history_core.specs.World.{all_rows_after}
use Rattle.history.specs.declared.request.PostedRequest.{PostedRequest}
use Rattle.history_core.specs.declared.dispatcher.Outcome.{Outcome}
use Rattle.history_core.specs.declared.dispatcher.Outcome.TheVariants.{Served, GivenUp}
use Rattle.history_core.specs.declared.dispatcher.Given.{Given}

-- the row store over these rows after this log
abbrev pub store : Tables → List CommitRecord → Warehouse
store base log = record { base = base; log = log }

-- nothing speaks against the commit after this history
abbrev pub IsAccepted : Tables → List CommitRecord → CommitRecord → Type 0
IsAccepted base history commit = refusal_of base history commit.actions ≡ None

-- a client has made the commits of its number, in order; a dispatcher none
abbrev pub Owns : Who → List CommitRecord → List CommitRecord → Type 0
Owns (Client number) mine history = mine ≡ commits_of number history
Owns (Dispatcher number) mine history = mine ≡ []

-- the causes that a dispatcher may tell: of the twin, two numbers that differ
abbrev pub IsCause : Cause → Type 0
IsCause OutOfMemory = Unit {0}
IsCause (Twin told found) = told ≢ found

abbrev pub request : Questions → ℕ → PostedRequest
request questions floor = record { questions = questions; floor = floor }

-- the answer is to this request; its rows are right after the first commits of the history, so many as the version says
abbrev pub IsRightAt : Tables → List CommitRecord → Option ℕ → PostedRequest → Response → Type 0
IsRightAt base history version asked (Rows questions at rows) =
    (questions ≡ asked.questions) × (version ≡ Some at) × (rows ≡ all_rows_after base questions (take at history))
IsRightAt base history version asked (Unserved questions cause) = (questions ≡ asked.questions) × IsCause cause

-- the answer is to this request; its rows are right after the first commits of the history, no fewer than the floor
abbrev pub IsRight : Tables → List CommitRecord → PostedRequest → Response → Type 0
IsRight base history asked (Rows questions at rows) = (questions ≡ asked.questions) × (asked.floor ≤ at)
    × (at ≤ length history) × (rows ≡ all_rows_after base questions (take at history))
IsRight base history asked (Unserved questions cause) = (questions ≡ asked.questions) × IsCause cause

abbrev pub outcome_of : Response → Outcome
outcome_of (Rows questions at rows) = Served at
outcome_of (Unserved questions cause) = GivenUp cause

-- the entry of an answer to a client's request
abbrev pub given_to : ℕ → PostedRequest → Response → Given
given_to client asked reply = record { client = client; floor = asked.floor; outcome = outcome_of reply }

-- rows that were given are not older than the floor
abbrev pub IsFresh : Given → Type 0
IsFresh given = (at : ℕ) → given.outcome ≡ Served at → given.floor ≤ at
