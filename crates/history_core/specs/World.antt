-- The protocol as a pure machine: what there is, and what each event does.
use Rattle.std.specs.Prelude.{ℕ, ◌+◌, ◌==◌, Bool, true, false, if◌then◌else◌, List}
use Rattle.std.specs.Prelude.{[], ◌∷◌, ◌++◌, length, take, map, Option, Some, None}
use Rattle.ssb_schema.specs.declared.refresh.Action.{Action}
use Rattle.ssb_base.specs.Base.{Tables}
use Rattle.ssb_schema.specs.Facts.{facts_of}
use Rattle.ssb_answers.specs.declared.answer.ResultRow.{ResultRow}
use Rattle.ssb_answers.specs.declared.answer.Unserved.{Unserved as Cause}
use Rattle.ssb_answers.specs.Answer.{answer_of}
use Rattle.row_store.specs.History.{CommitRecord, lines_after}
use Rattle.row_store.specs.Refusals.{refusal_of}
use Rattle.row_store.specs.declared.refusal.Refusal.{Refusal}
use Rattle.history_core.specs.declared.dispatcher.Given.{Given}
use Rattle.history_core.specs.declared.dispatcher.Outcome.{Outcome}
use Rattle.history_core.specs.declared.dispatcher.Outcome.TheVariants.{Served, GivenUp}
use Rattle.history_core.specs.declared.event.Who.{Who}
use Rattle.history_core.specs.declared.event.Who.TheVariants.{Client, Dispatcher}
use Rattle.history_core.specs.declared.event.EventReply.{EventReply}
use Rattle.history_core.specs.declared.event.EventReply.TheVariants.{NotEnabled, Done, Committed, Refused}
use Rattle.history_core.specs.declared.event.EventReply.TheVariants.{Length, Asked as Asks, Rows, Unserved}
pub use Rattle.history_core.specs.declared.mailbox.Mailbox.{Mailbox}
pub use Rattle.history_core.specs.declared.mailbox.Mailbox.TheVariants.{Empty as empty, Asked as asked}
pub use Rattle.history_core.specs.declared.mailbox.Mailbox.TheVariants.{InHand as in_hand}
pub use Rattle.history_core.specs.declared.mailbox.Mailbox.TheVariants.{Answered as answered, Unserved as unserved}
use Rattle.history_core.specs.Events.{Question, Questions, Event, TakeRows, PutRows, Look, Post, Grab}
use Rattle.history_core.specs.Events.{TakeWriter, PutWriter, Answer, GiveUp, Collect}
use Rattle.history_core.specs.Numbered.{copies, numbered, renewed, is_there}

-- `mine` are the commits that the client made
pub record ClientState : Type 0 where
  pub seen : List CommitRecord
  pub mine : List CommitRecord
  pub mailbox : Mailbox

-- the mark is the length of the history when the dispatcher gave the row store back last, the version the mark when it
-- gave the writer back; grabbing a request and taking the writer clear both
pub record DispatcherState : Type 0 where
  pub seen : List CommitRecord
  pub mark : Option ℕ
  pub version : Option ℕ
  pub given : List Given

-- `rows` and `writer` are those who hold the row store and the writer
pub record World : Type 0 where
  pub base : Tables
  pub history : List CommitRecord
  pub rows : Option Who
  pub writer : Option ℕ
  pub clients : List ClientState
  pub dispatchers : List DispatcherState

-- nothing has happened
abbrev pub opening_world : Tables → ℕ → ℕ → World
opening_world base clients dispatchers = record {
  base = base;
  history = [];
  rows = None;
  writer = None;
  clients = copies clients record { seen = []; mine = []; mailbox = empty };
  dispatchers = copies dispatchers record { seen = []; mark = None; version = None; given = [] };
}

abbrev pub is_known : World → Who → Bool
is_known w (Client number) = is_there (numbered w.clients number)
is_known w (Dispatcher number) = is_there (numbered w.dispatchers number)

abbrev pub is_same : Who → Who → Bool
is_same (Client a) (Client b) = a == b
is_same (Dispatcher a) (Dispatcher b) = a == b
is_same a b = false

abbrev pub holds_rows : Option Who → Who → Bool
holds_rows None who = false
holds_rows (Some holder) who = is_same holder who

abbrev pub holds_writer : Option ℕ → ℕ → Bool
holds_writer None number = false
holds_writer (Some holder) number = holder == number

abbrev pub mailbox_of : Option ClientState → Option Mailbox
mailbox_of None = None
mailbox_of (Some c) = Some c.mailbox

abbrev pub version_of : Option DispatcherState → Option ℕ
version_of None = None
version_of (Some d) = d.version

-- the world in which the part of one client or dispatcher is another
abbrev pub with_client : World → ℕ → (ClientState → ClientState) → World
with_client w number f = record w { clients = renewed w.clients number f }

abbrev pub with_dispatcher : World → ℕ → (DispatcherState → DispatcherState) → World
with_dispatcher w number f = record w { dispatchers = renewed w.dispatchers number f }

-- the whole history has been seen
abbrev pub seen_by : World → Who → World
seen_by w (Client number) = with_client w number (λ c. record c { seen = w.history })
seen_by w (Dispatcher number) = with_dispatcher w number (λ d. record d { seen = w.history })

abbrev pub into_mailbox : World → ℕ → Mailbox → World
into_mailbox w number box = with_client w number (λ c. record c { mailbox = box })

abbrev pub unmarked : DispatcherState → DispatcherState
unmarked d = record d { mark = None; version = None }

abbrev pub gave : ℕ → ℕ → Outcome → DispatcherState → DispatcherState
gave client floor outcome d =
    record d { given = d.given ++ record { client = client; floor = floor; outcome = outcome } ∷ [] }

abbrev pub commit_by : ℕ → List Action → CommitRecord
commit_by client actions = record { client = client; actions = actions }

-- the rows that answer a question after a history
abbrev pub rows_after : Tables → Question → List CommitRecord → List ResultRow
rows_after base question history = answer_of question base.dimensions (facts_of (lines_after base history))

-- the rows that answer each of these questions, all of them after one history
abbrev pub all_rows_after : Tables → Questions → List CommitRecord → List (List ResultRow)
all_rows_after base questions history = map (λ question. rows_after base question history) questions

-- each event: what is known, who holds, or what lies in the mailbox decides whether it is enabled

abbrev pub taking_rows : World → Who → Bool → Option Who → World × EventReply
taking_rows w who true None = (seen_by record w { rows = Some who } who, Done)
taking_rows w who known holder = (w, NotEnabled)

-- a refresh is applied, or refused
abbrev pub committing : World → ℕ → List Action → Option Refusal → World × EventReply
committing w number actions None =
    let commit = commit_by number actions in
    let now = w.history ++ commit ∷ [] in
    let grows : ClientState → ClientState = λ c. record c { seen = now; mine = c.mine ++ commit ∷ [] } in
    (with_client record w { history = now; rows = None } number grows, Committed (length w.history + 1))
committing w number actions (Some refusal) =
    (seen_by record w { rows = None } (Client number), Refused (length w.history) refusal.action refusal.cause)

abbrev pub putting_rows : World → Who → Option (List Action) → Bool → Bool → World × EventReply
putting_rows w (Client number) None true true = (seen_by record w { rows = None } (Client number), Done)
putting_rows w (Client number) (Some actions) true true =
    committing w number actions (refusal_of w.base w.history actions)
putting_rows w (Dispatcher number) None true true =
    let marks : DispatcherState → DispatcherState =
    λ d. record d { seen = w.history; mark = Some (length w.history) } in
    (with_dispatcher record w { rows = None } number marks, Done)
putting_rows w who refresh known holds = (w, NotEnabled)

abbrev pub looking : World → Who → Bool → World × EventReply
looking w who true = (seen_by w who, Length (length w.history))
looking w who false = (w, NotEnabled)

abbrev pub posting : World → ℕ → Questions → Option Mailbox → World × EventReply
posting w client questions (Some empty) =
    (with_client w client (λ c. record c { mailbox = asked questions (length c.seen) }), Done)
posting w client questions other = (w, NotEnabled)

abbrev pub grabbing : World → ℕ → ℕ → Bool → Option Mailbox → World × EventReply
grabbing w number client true (Some (asked questions floor)) =
    (with_dispatcher (into_mailbox w client (in_hand number questions floor)) number unmarked, Asks questions)
grabbing w number client known other = (w, NotEnabled)

abbrev pub taking_writer : World → ℕ → Bool → Option ℕ → World × EventReply
taking_writer w number true None = (with_dispatcher record w { writer = Some number } number unmarked, Done)
taking_writer w number known holder = (w, NotEnabled)

abbrev pub putting_writer : World → ℕ → Bool → Bool → World × EventReply
putting_writer w number true true =
    (with_dispatcher record w { writer = None } number (λ d. record d { version = d.mark }), Done)
putting_writer w number known holds = (w, NotEnabled)

abbrev pub answering : World → ℕ → ℕ → Option ℕ → Option Mailbox → World × EventReply
answering w number client (Some at) (Some (in_hand holder questions floor)) =
    let box = answered questions at (all_rows_after w.base questions (take at w.history)) in
    if holder == number then
    (with_dispatcher (into_mailbox w client box) number (gave client floor (Served at)), Done)
    else (w, NotEnabled)
answering w number client version other = (w, NotEnabled)

abbrev pub giving_up : World → ℕ → ℕ → Cause → Bool → Option Mailbox → World × EventReply
giving_up w number client cause true (Some (in_hand holder questions floor)) =
    let box = unserved questions cause in
    if holder == number then
    (with_dispatcher (into_mailbox w client box) number (gave client floor (GivenUp cause)), Done)
    else (w, NotEnabled)
giving_up w number client cause known other = (w, NotEnabled)

abbrev pub collecting : World → ℕ → Option Mailbox → World × EventReply
collecting w client (Some (answered questions at rows)) = (into_mailbox w client empty, Rows questions at rows)
collecting w client (Some (unserved questions cause)) = (into_mailbox w client empty, Unserved questions cause)
collecting w client other = (w, NotEnabled)

-- what an event leaves of a world, and the reply to it. An unknown number is never enabled
abbrev pub step_of : World → Event → World × EventReply
step_of w (TakeRows who) = taking_rows w who (is_known w who) w.rows
step_of w (PutRows who refresh) = putting_rows w who refresh (is_known w who) (holds_rows w.rows who)
step_of w (Look who) = looking w who (is_known w who)
step_of w (Post client questions) = posting w client questions (mailbox_of (numbered w.clients client))
step_of w (Grab number client) =
    grabbing w number client (is_known w (Dispatcher number)) (mailbox_of (numbered w.clients client))
step_of w (TakeWriter number) = taking_writer w number (is_known w (Dispatcher number)) w.writer
step_of w (PutWriter number) = putting_writer w number (is_known w (Dispatcher number)) (holds_writer w.writer number)
step_of w (Answer number client) =
    answering w number client (version_of (numbered w.dispatchers number)) (mailbox_of (numbered w.clients client))
step_of w (GiveUp number client cause) =
    giving_up w number client cause (is_known w (Dispatcher number)) (mailbox_of (numbered w.clients client))
step_of w (Collect client) = collecting w client (mailbox_of (numbered w.clients client))

-- the replies to these events in turn, and the world at their end
abbrev pub run_of : World → List Event → (List EventReply) × World
run_of w [] = ([], w)
run_of w (event ∷ events) = let next = step_of w event in let rest = run_of next.0 events in (next.1 ∷ rest.0, rest.1)
