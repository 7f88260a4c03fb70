-- A live session: what was read of a client, what was answered, and what was written.
use Rattle.std.specs.Prelude.{◌≡◌, ◌≤◌, ℕ, ◌+◌, List, [], ◌∷◌, ◌++◌, ◌⊎◌, length, take, Option, Some, slice_get}
use Rattle.std.specs.List.{concat}
use Rattle.std.specs.Io.KnownBytes.{Appends, Consumes}
use Rattle.ssb_script.specs.NextRequest.{IsAllOf, IsLessThan}
use Rattle.ssb_script.specs.Cutting.{IsCutInto}
use Rattle.ssb_formats.specs.declared.reply_format.ReplyFormat.{ReplyFormat}
use Rattle.ssb_text.specs.Written.{AppendsPart}
use Rattle.stream_sessions.specs.Answers.{AreAnswered, BreaksOff}
use Rattle.stream_sessions.specs.FaultLine.{too_long_line}
use Rattle.stream_sessions.specs.Speaking.{SpeakingRecord}
use Rattle.stream_sessions.specs.declared.outcome.Ending.{Ending}
use Rattle.stream_sessions.specs.declared.outcome.Ending.TheVariants as ending
use Rattle.stream_sessions.specs.declared.outcome.Served.{Served}
use Rattle.stream_sessions.specs.declared.outcome.SessionFault.{SessionFault}
use Rattle.stream_sessions.specs.declared.outcome.SessionFault.TheVariants as fault
use Rattle.stream_sessions.specs.declared.outcome.SessionError.{SessionError}

-- the most bytes of a request: 1 MiB
abbrev pub most_bytes : ℕ
most_bytes = 1048576

-- what of a text is answered at its end: its requests, and what is left behind them, where anything is
abbrev pub all_of : List (List ℕ) → List ℕ → List (List ℕ)
all_of requests [] = requests
all_of requests (b ∷ rest) = requests ++ (b ∷ rest) ∷ []

-- what a session answers of what it read: all, or the requests before the one that is too long
abbrev pub answered_at : Ending → List (List ℕ) → List ℕ → List (List ℕ)
answered_at ending.InputEnded requests rest = all_of requests rest
answered_at ending.RequestTooLong requests rest = requests

-- what is written behind the replies, in the client's format
abbrev pub last_line : ReplyFormat → Ending → List ℕ
last_line format ending.InputEnded = []
last_line format ending.RequestTooLong = too_long_line format

-- when a session ends so: all that the client wrote was read; or the next request has more bytes than it may have
abbrev pub EndsSo : Ending → Option (List ℕ) → List ℕ → List ℕ → Type 0
EndsSo ending.InputEnded unread bytes rest = IsAllOf unread bytes
EndsSo ending.RequestTooLong unread bytes rest = (length rest ≡ most_bytes) × IsLessThan unread bytes

-- a session was served to its end: the bytes that it read were answered request by request, and this is what it told
pub record IsServed (served : Served) (number : ℕ) (old new : SpeakingRecord) (unread left : Option (List ℕ))
    (text : List ℕ) : Type 0 where
  pub bytes : List ℕ
  pub read : Consumes unread left bytes
  pub requests : List (List ℕ)
  pub rest : List ℕ
  pub cut : IsCutInto bytes requests rest
  pub ends : EndsSo served.ending unread bytes rest
  pub replies : List (List ℕ)
  pub answered : AreAnswered number old (answered_at served.ending requests rest) replies new
  pub count : length replies ≡ served.answered
  pub told : text ≡ concat replies ++ last_line new.format served.ending

-- the same, and it was written
pub record Serves (served : Served) (number : ℕ) (old new : SpeakingRecord)
    (unread left before after : Option (List ℕ)) : Type 0 where
  pub text : List ℕ
  pub is : IsServed served number old new unread left text
  pub written : Appends before after text

-- where the client is when the next text is not answered: as it was, or in the midst of it
abbrev pub StopsAt : ℕ → List (List ℕ) → ℕ → SpeakingRecord → SpeakingRecord → Type 0
StopsAt number texts done between new =
    (new ≡ between)
    ⊎ ((request : List ℕ) × (slice_get texts done ≡ Some request) × BreaksOff number request between new)

-- what is told behind the replies: nothing; or, where the next request is too long, that
abbrev pub IsLast : ReplyFormat → List ℕ → List ℕ → Type 0
IsLast format rest line = (line ≡ []) ⊎ ((length rest ≡ most_bytes) × (line ≡ too_long_line format))

-- where a session breaks that answered so many: at a read, with all requests answered that were read; or else with
-- all of them, or all but the last
abbrev pub BreaksSo : SessionFault → ℕ → List (List ℕ) → List ℕ → ℕ → SpeakingRecord → SpeakingRecord → List ℕ → Type 0
BreaksSo fault.Read number requests rest done between new line =
    (done ≡ length requests) × (new ≡ between) × (line ≡ [])
BreaksSo fault.Write number requests rest done between new line =
    (length requests ≤ done + 1) × StopsAt number (all_of requests rest) done between new
    × IsLast new.format rest line
BreaksSo fault.OutOfMemory number requests rest done between new line =
    (length requests ≤ done + 1) × StopsAt number (all_of requests rest) done between new × (line ≡ [])

-- a session broke: of the bytes that it read, the first requests were answered, and this is what it told
pub record IsBroken (error : SessionError) (number : ℕ) (old new : SpeakingRecord) (unread left : Option (List ℕ))
    (text : List ℕ) : Type 0 where
  pub bytes : List ℕ
  pub read : Consumes unread left bytes
  pub requests : List (List ℕ)
  pub rest : List ℕ
  pub cut : IsCutInto bytes requests rest
  pub between : SpeakingRecord
  pub replies : List (List ℕ)
  pub answered : AreAnswered number old (take error.answered (all_of requests rest)) replies between
  pub count : length replies ≡ error.answered
  pub line : List ℕ
  pub breaks : BreaksSo error.fault number requests rest error.answered between new line
  pub told : text ≡ concat replies ++ line

-- what was written then: all of it, or a part, where writing itself failed
abbrev pub IsWritten : SessionFault → Option (List ℕ) → Option (List ℕ) → List ℕ → Type 0
IsWritten why before after text =
    AppendsPart before after text × ((why ≡ fault.Write → ⊥) → Appends before after text)

pub record Breaks (error : SessionError) (number : ℕ) (old new : SpeakingRecord)
    (unread left before after : Option (List ℕ)) : Type 0 where
  pub text : List ℕ
  pub is : IsBroken error number old new unread left text
  pub written : IsWritten error.fault before after text
