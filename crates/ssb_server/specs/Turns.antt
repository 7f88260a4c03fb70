-- What the steps of a turn do to a dispatcher's token.
use Rattle.std.specs.Prelude.{◌≡◌, ℕ, ◌<◌, ◌≤◌, All, false, List, [], ◌∷◌, ◌++◌, length, map, Some, Result, MatchResult}
use Rattle.std.specs.declared.alloc.AllocError.{AllocError}
use Rattle.row_store.specs.History.{CommitRecord, IsPrefix, lines_after}
use Rattle.row_store.specs.State.{State, StandsFor}
use Rattle.ssb_base.specs.Base.{Tables}
use Rattle.ssb_base.specs.Limits.{most_lines}
use Rattle.history_core.specs.declared.dispatcher.Outcome.{Outcome}
use Rattle.history.specs.Tokens.{TokenRecord}
use Rattle.history.specs.Words.{IsFresh}
use Rattle.history.specs.Members.{number_of}
use Rattle.twin_cell.specs.Twin.{Writing, Reading, Entered}
use Rattle.ssb_answers.specs.declared.answer.Unserved.{Unserved}
use Rattle.ssb_answers.specs.declared.answer.Unserved.TheVariants.{OutOfMemory, Twin}
use Rattle.history.specs.declared.request.Grabbed.{Grabbed}
use Rattle.history_core.specs.World.{all_rows_after}
use Rattle.ssb_server.specs.declared.passes.RequestRows.{RequestRows}
use Rattle.history_core.specs.Events.{Questions}
use Rattle.ssb_server.specs.Hand.{Hand, Keeps}
use Rattle.ssb_server.specs.Deeds as deeds

-- it holds neither part
pub record HoldsNothing (t : TokenRecord) : Type 0 where
  pub rows : t.has_rows ≡ false
  pub writer : t.has_writer ≡ false

-- the token has the requests of the hand, and where there is none it is as before
pub record HasGrabbed (before : TokenRecord) (hand : Hand) (after : TokenRecord) : Type 0 where
  pub now : after ≡ record before {
    mark = after.mark;
    version = after.version;
    grabbed = after.grabbed;
    did = before.did ++ deeds.grabbed (number_of before.who) after.grabbed;
  }
  pub hand_is : Keeps hand after.grabbed
  pub none : hand.clients ≡ [] → after ≡ before

-- the token has given both parts back, with the length of what it sees as mark and version
pub record HasFetched (before after : TokenRecord) : Type 0 where
  pub begins : IsPrefix before.seen after.seen
  pub now : after ≡ record before {
    seen = after.seen;
    beside = [];
    mark = Some (length after.seen);
    version = Some (length after.seen);
    did = before.did ++ deeds.fetched before.who;
  }

-- a reader over this base was told a beginning of the history
pub record Knows (base : Tables) (history : List CommitRecord) (reader : Reading) : Type 0 where
  pub base_is : reader.base ≡ base
  pub told : IsPrefix reader.told history

-- the entered copy stands for the whole history over this base, and its reader was told no more
pub record StandsAt (base : Tables) (history : List CommitRecord) (guard : Entered) : Type 0 where
  pub base_is : guard.state.base ≡ base
  pub stands : StandsFor guard.state history
  pub told : IsPrefix guard.told history

-- the writer has the first of these commits pending too
pub record AppendsFirst (before : Writing) (commits : List CommitRecord) (after : Writing) : Type 0 where
  pub kept : List CommitRecord
  pub first : IsPrefix kept commits
  pub now : after ≡ record before { pending = before.pending ++ kept }

-- the writer has these commits pending too, or, where memory was wanting, the first of them
abbrev pub Appends : Writing → List CommitRecord → Result (Unit {0}) AllocError → Writing → Type 0
Appends before commits result after = MatchResult result
    (λ _. after ≡ record before { pending = before.pending ++ commits }) (λ _. AppendsFirst before commits after)

-- the writer is over this base, and has taken a beginning of the history
pub record Follows (base : Tables) (history : List CommitRecord) (writer : Writing) : Type 0 where
  pub base_is : writer.base ≡ base
  pub taken : IsPrefix (writer.published ++ writer.pending) history

-- a cause that is true where this history is seen: want of memory; or of the twin, that the copy stood for more commits
-- than there are
abbrev pub IsTrueCause : List CommitRecord → Unserved → Type 0
IsTrueCause history OutOfMemory = Unit {0}
IsTrueCause history (Twin told found) = (told ≡ length history) × (told < found)

-- what is found in the cause is the number of commits of the copy that this reader entered last
abbrev pub IsFound : Reading → Unserved → Type 0
IsFound reader OutOfMemory = Unit {0}
IsFound reader (Twin told found) = found ≡ length reader.last

-- the state is that of a history that leaves no more lines than can be summed
pub record HasFewLines (state : State) : Type 0 where
  pub history : List CommitRecord
  pub stands : StandsFor state history
  pub few : length (lines_after state.base history) ≤ most_lines

-- no copy is held: the reader, and the cause
pub record Misses (base : Tables) (history : List CommitRecord) (missed : Reading × Unserved) : Type 0 where
  pub reader : Knows base history missed.0
  pub cause : IsTrueCause history missed.1
  pub found : IsFound missed.0 missed.1

-- the token has this writer, over the table's base, and what it has taken lies beside what the token has seen
pub record HasTaken (t : TokenRecord) (writer : Writing) : Type 0 where
  pub more : List (List CommitRecord)
  pub beside_is : t.beside ≡ (writer.published ++ writer.pending) ∷ more
  pub base_is : writer.base ≡ t.table.base

-- the newest request in hand is this client's
pub record HasInHand (grabbed : List Grabbed) (client : ℕ) (questions : Questions) : Type 0 where
  pub newest : Grabbed
  pub others : List Grabbed
  pub grabbed_is : grabbed ≡ newest ∷ others
  pub client_is : newest.client ≡ client
  pub questions_is : newest.request.questions ≡ questions

-- the questions of each request with their rows, all of them after one history
abbrev pub answers_after : Tables → List CommitRecord → List Questions → List RequestRows
answers_after base history requests = map (λ questions.
    record { questions = questions; rows = all_rows_after base questions history }) requests

-- the rows answer the questions, all of them after this history
abbrev pub Answered : Tables → List CommitRecord → RequestRows → Type 0
Answered base history found = found.rows ≡ all_rows_after base found.questions history

-- the newest request has left the hand, and got an answer with this outcome
pub record GaveOne (before : TokenRecord) (outcome : Outcome) (after : TokenRecord) : Type 0 where
  pub newest : Grabbed
  pub others : List Grabbed
  pub grabbed_is : before.grabbed ≡ newest ∷ others
  pub fresh : All IsFresh (deeds.given_to_all outcome (newest ∷ []))
  pub now : after ≡ record before {
    grabbed = others;
    given = before.given ++ deeds.given_to_all outcome (newest ∷ []);
    did = before.did ++ deeds.answered (number_of before.who) outcome (newest ∷ []);
  }

-- so many requests, the newest ones, have left the hand, and got answers with this outcome
pub record Gave (before : TokenRecord) (count : ℕ) (outcome : Outcome) (after : TokenRecord) : Type 0 where
  pub left : List Grabbed
  pub count_is : length left ≡ count
  pub grabbed_is : before.grabbed ≡ left ++ after.grabbed
  pub fresh : All IsFresh (deeds.given_to_all outcome left)
  pub now : after ≡ record before {
    grabbed = after.grabbed;
    given = before.given ++ deeds.given_to_all outcome left;
    did = before.did ++ deeds.answered (number_of before.who) outcome left;
  }
