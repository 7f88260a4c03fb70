-- How far a session has come, and how it goes on.
use Rattle.std.specs.Prelude.{◌≡◌, ◌≤◌, ◌<◌, ℕ, Bool, true, false, List, [], ◌∷◌, ◌++◌, ◌⊎◌, length, Option, Result, Ok, Err}
use Rattle.std.specs.List.{concat}
use Rattle.std.specs.Io.KnownBytes.{Appends, Consumes}
use Rattle.history.specs.Members.{number_of}
use Rattle.history.specs.Tokens.{TokenRecord}
use Rattle.ssb_script.specs.Cutting.{IsUnfinished}
use Rattle.ssb_script.specs.NextRequest.{IsFound, IsRequestFault}
use Rattle.ssb_script.specs.declared.cutting.NextRequest.TheVariants as found
use Rattle.ssb_script.specs.declared.request_error.RequestError.TheVariants as error
use Rattle.ssb_text.specs.Written.{AppendsPart}
use Rattle.stream_sessions.specs.Answers.{AddsAnswer, AddsNothing}
use Rattle.stream_sessions.specs.Conversation.{ConversesTo, IsConversation, most_held}
use Rattle.stream_sessions.specs.Events.{Looks, Takes, Passes, WireRecord}
use Rattle.stream_sessions.specs.Exchange.{passed, texts_taken}
use Rattle.stream_sessions.specs.FaultLine.{too_long_line}
use Rattle.stream_sessions.specs.OneRequest.{AreAlike}
use Rattle.stream_sessions.specs.Session.{Breaks, IsBroken, IsServed, Serves, most_bytes}
use Rattle.stream_sessions.specs.Speaking.{SpeakingRecord, speaking}
use Rattle.stream_sessions.specs.declared.outcome.Served.{Served}
use Rattle.stream_sessions.specs.declared.outcome.SessionError.{SessionError}
use Rattle.stream_sessions.specs.declared.outcome.SessionFault.{SessionFault}
use Rattle.stream_sessions.specs.declared.outcome.SessionFault.TheVariants as fault
use Rattle.stream_sessions.specs.declared.session.Session.{Session}
use Rattle.stream_sessions.specs.declared.step.Step.{Step}
use Rattle.stream_sessions.specs.declared.step.Step.TheVariants as step

-- a session as far as it has come: its client, what its wire has to do with it, and the replies that are held
pub record CourseRecord : Type 0 where
  pub client : SpeakingRecord
  pub wire : WireRecord
  pub held : List ℕ

abbrev pub course : {I O E : Type 0} → TokenRecord → Session I O E → CourseRecord
course client session =
    record { client = speaking client session.manner; wire = session.wire; held = session.replies.items }

-- the number of its client
abbrev pub number_in : CourseRecord → ℕ
number_in course = number_of course.client.token.who

-- all that was told so far, passed on or held
abbrev pub told_by : CourseRecord → List ℕ
told_by course = passed course.wire.events ++ course.held

-- From its first course to this one the session is a conversation, whether or not the last bytes were taken. What was read
-- of known bytes is what was taken, and what was written is what was passed on.
pub record HasCome (first : CourseRecord) (ended : Bool) (now : CourseRecord) : Type 0 where
  pub alike : AreAlike first.client.token now.client.token
  pub conversed : IsConversation ended (number_in first) first.client now.wire.events now.client now.held
  pub read : Consumes first.wire.unread now.wire.unread (concat (texts_taken now.wire.events))
  pub wrote : Appends first.wire.written now.wire.written (passed now.wire.events)

-- Handing on.

-- all that was held was passed on, with evidence in hand of all commits that the client has seen
pub record PassesHeld (old new : CourseRecord) : Type 0 where
  pub covered : ℕ
  pub seen : length old.client.token.seen ≤ covered
  pub events : new.wire.events ≡ Passes old.held covered ∷ old.wire.events
  pub none : new.held ≡ []

-- nothing was passed on
pub record PassesNothing (old new : CourseRecord) : Type 0 where
  pub events : new.wire.events ≡ old.wire.events
  pub held : new.held ≡ old.held

-- what was held was written so
pub record HandsOn (Wrote : Option (List ℕ) → Option (List ℕ) → List ℕ → Type 0) (old new : CourseRecord) : Type 0 where
  pub client : new.client ≡ old.client
  pub unread : new.wire.unread ≡ old.wire.unread
  pub written : Wrote old.wire.written new.wire.written old.held
  pub passed : PassesNothing old new ⊎ PassesHeld old new

-- all of it, and nothing is held any more; or a part of it at most
abbrev pub HandsOnAll : CourseRecord → CourseRecord → Type 0
HandsOnAll old new = HandsOn Appends old new × (new.held ≡ [])

abbrev pub HandsOnPart : CourseRecord → CourseRecord → Type 0
HandsOnPart old new = HandsOn AppendsPart old new

-- where it was not yet time, all is held on
abbrev pub HandsInTime : CourseRecord → CourseRecord → Type 0
HandsInTime old new = (new ≡ old) ⊎ HandsOnAll old new

-- A step.

-- a request was answered; nothing was done
abbrev pub Adds : ℕ → List ℕ → CourseRecord → CourseRecord → Type 0
Adds number bytes old new = AddsAnswer number bytes old.client new.client old.held new.held

abbrev pub Stays : CourseRecord → CourseRecord → Type 0
Stays old new = (new.client ≡ old.client) × (new.held ≡ old.held)

-- a text to be answered: a request, or what is left at the end
abbrev pub IsText : Option (List ℕ) → List ℕ → Type 0
IsText unread bytes = IsFound found.Request unread bytes ⊎ IsFound found.Rest unread bytes

-- memory ran out for the next request, or for the answer to these bytes
abbrev pub RunsOut : ℕ → List ℕ → CourseRecord → CourseRecord → Type 0
RunsOut number bytes old new =
    (IsUnfinished bytes × Stays old new)
    ⊎ (IsText old.wire.unread bytes × AddsNothing number bytes old.client new.client old.held new.held)

-- what came of the bytes that were taken
abbrev pub ComesSo : Result Step SessionFault → ℕ → List ℕ → CourseRecord → CourseRecord → Type 0
ComesSo (Ok step.Request) number bytes old new =
    IsFound found.Request old.wire.unread bytes × Adds number bytes old new
ComesSo (Ok step.Rest) number bytes old new = IsFound found.Rest old.wire.unread bytes × Adds number bytes old new
ComesSo (Ok step.Nothing) number bytes old new = IsFound found.Nothing old.wire.unread bytes × Stays old new
ComesSo (Ok step.TooLong) number bytes old new =
    IsRequestFault error.TooLong most_bytes old.wire.unread bytes × (new.client ≡ old.client)
    × (new.held ≡ old.held ++ too_long_line old.client.format)
ComesSo (Err fault.Read) number bytes old new = IsUnfinished bytes × Stays old new
ComesSo (Err fault.OutOfMemory) number bytes old new = RunsOut number bytes old new
ComesSo (Err fault.Write) number bytes old new = ⊥

-- bytes that are at hand are taken; or the session looks for more, where nothing is held, and takes them
pub record LooksAndTakes (bytes : List ℕ) (old new : CourseRecord) : Type 0 where
  pub at_hand : List ℕ
  pub events : new.wire.events ≡ Takes bytes ∷ Looks at_hand ∷ old.wire.events
  pub none : old.held ≡ []

abbrev pub TakesBytes : List ℕ → CourseRecord → CourseRecord → Type 0
TakesBytes bytes old new = (new.wire.events ≡ Takes bytes ∷ old.wire.events) ⊎ LooksAndTakes bytes old new

-- what a step took, where few replies were held, and what came of it
pub record TakesNext (result : Result Step SessionFault) (number : ℕ) (old new : CourseRecord) : Type 0 where
  pub alike : AreAlike old.client.token new.client.token
  pub few : length old.held < most_held
  pub bytes : List ℕ
  pub read : Consumes old.wire.unread new.wire.unread bytes
  pub written : new.wire.written ≡ old.wire.written
  pub takes : TakesBytes bytes old new
  pub so : ComesSo result number bytes old new

-- it hands on what was held, or holds it on, and takes what comes next
pub record TakesStep (result : Result Step SessionFault) (number : ℕ) (old new : CourseRecord) : Type 0 where
  pub between : CourseRecord
  pub handed : HandsInTime old between
  pub next : TakesNext result number between new

-- a step; or what was held could not be handed on
abbrev pub Steps : Result Step SessionFault → ℕ → CourseRecord → CourseRecord → Type 0
Steps result number old new =
    ((result ≡ Err fault.Write) × HandsOnPart old new) ⊎ TakesStep result number old new

-- whether nothing is taken behind what a step took
abbrev pub is_last : Result Step SessionFault → Bool
is_last (Ok step.Request) = false
is_last (Ok step.Rest) = true
is_last (Ok step.Nothing) = true
is_last (Ok step.TooLong) = true
is_last (Err why) = true

-- The end.

-- a session was served to its end, or it broke; this is what it read, did, told and passed on
abbrev pub IsLeft : Result Served SessionError → CourseRecord → CourseRecord → Type 0
IsLeft (Ok served) first last =
    AreAlike first.client.token last.client.token
    × Serves served (number_in first) first.client last.client first.wire.unread last.wire.unread first.wire.written
    last.wire.written
    × ConversesTo (Ok served) (number_in first) first.client last.client last.wire.events
IsLeft (Err error) first last =
    AreAlike first.client.token last.client.token
    × Breaks error (number_in first) first.client last.client first.wire.unread last.wire.unread first.wire.written
    last.wire.written
    × ConversesTo (Err error) (number_in first) first.client last.client last.wire.events

-- what was told so far is what a session tells that was served to its end, or broke
abbrev pub TellsServed : Served → CourseRecord → CourseRecord → Type 0
TellsServed served first now =
    IsServed served (number_in first) first.client now.client first.wire.unread now.wire.unread (told_by now)

abbrev pub TellsBroken : SessionError → CourseRecord → CourseRecord → Type 0
TellsBroken error first now =
    IsBroken error (number_in first) first.client now.client first.wire.unread now.wire.unread (told_by now)

-- the last replies are still held then
pub record IsServedHeld (served : Served) (first now : CourseRecord) : Type 0 where
  pub come : HasCome first true now
  pub told : TellsServed served first now

pub record IsBrokenHeld (error : SessionError) (first now : CourseRecord) : Type 0 where
  pub other : error.fault ≡ fault.Write → ⊥
  pub ended : Bool
  pub come : HasCome first ended now
  pub told : TellsBroken error first now

-- all requests were answered, to the session's end or until it broke; the last replies are still held, where no write failed
abbrev pub HasAnswered : Result Served SessionError → CourseRecord → CourseRecord → Type 0
HasAnswered (Ok served) first now = IsServedHeld served first now
HasAnswered (Err error) first now =
    ((error.fault ≡ fault.Write) × IsLeft (Err error) first now) ⊎ IsBrokenHeld error first now
