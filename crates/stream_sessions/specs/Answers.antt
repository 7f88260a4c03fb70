-- What a request of a live session is answered.
use Rattle.std.specs.Prelude.{◌≡◌, ℕ, List, [], ◌∷◌, ◌++◌, ◌⊎◌, Bool, true, false}
use Rattle.ssb_formats.specs.OverviewShown.{overview_shown}
use Rattle.ssb_formats.specs.ReplyTexts.{format_shown}
use Rattle.ssb_report.specs.OverviewText.{OverviewRecord}
use Rattle.ssb_report.specs.Replies.{Reply}
use Rattle.ssb_script.specs.Requests.{RequestRecord}
use Rattle.ssb_script.specs.Scripts.{SpellsScript, IsFirstFault, EndsOpen, most_records}
use Rattle.ssb_script.specs.declared.error.ScriptError.{ScriptError}
use Rattle.ssb_script.specs.declared.error.ScriptError.TheVariants as script
use Rattle.stream_sessions.specs.FaultLine.{fault_line, read_only_line}
use Rattle.stream_sessions.specs.Lookups.{IsOverview}
use Rattle.stream_sessions.specs.Served.{AreServed}
use Rattle.stream_sessions.specs.SessionRequests.{AsksNothing, AsksSession}
use Rattle.stream_sessions.specs.Speaking.{IsTaken, SpeakingRecord, has_refresh}
use Rattle.stream_sessions.specs.WithPast.{replies_told}
use Rattle.stream_sessions.specs.declared.lookup.Lookup.{Lookup}
use Rattle.stream_sessions.specs.declared.session_request.SessionRequest.TheVariants.{Format, LookUp}

-- whether a fault is one of a text, and not of what kept it from being read
abbrev pub is_of_text : ScriptError → Bool
is_of_text script.Read = false
is_of_text script.OutOfMemory = false
is_of_text _ = true

-- read as a script of its own, a text has this fault first
abbrev pub HasFault : List ℕ → ScriptError → Type 0
HasFault text fault = IsFirstFault most_records text fault ⊎ EndsOpen most_records text fault

-- the session takes a request, the client was served all that it asks, as the loop of scripts serves it, and these are
-- the replies in its format; the numbers in them count the commits that came before
pub record IsReported (number : ℕ) (request : List ℕ) (old new : SpeakingRecord) (text : List ℕ) : Type 0 where
  pub asked : List RequestRecord
  pub spelled : SpellsScript most_records request asked
  pub taken : IsTaken old asked
  pub replies : List Reply
  pub served : AreServed number old.token asked replies new.token
  pub report : text ≡ replies_told old.format old.terms.past replies
  pub stays : new.format ≡ old.format
  pub keeps : new.terms ≡ old.terms

-- a request has a fault, asks nothing of its session, and is told that in the client's format; nothing was done
pub record IsRefused (request : List ℕ) (old new : SpeakingRecord) (text : List ℕ) : Type 0 where
  pub fault : ScriptError
  pub has : HasFault request fault
  pub other : AsksNothing request
  pub line : text ≡ fault_line old.format fault
  pub unchanged : new ≡ old

-- a request names a format, which is the client's from here on, and this is told in it; nothing else was done
pub record IsGivenFormat (request : List ℕ) (old new : SpeakingRecord) (text : List ℕ) : Type 0 where
  pub names : AsksSession request (Format new.format)
  pub told : text ≡ format_shown new.format
  pub unchanged : new.token ≡ old.token
  pub keeps : new.terms ≡ old.terms

-- a request has no fault, but a refresh, and the session takes none: the client is told that, whatever else the
-- request asks; nothing was done
pub record IsNotTaken (request : List ℕ) (old new : SpeakingRecord) (text : List ℕ) : Type 0 where
  pub asked : List RequestRecord
  pub spelled : SpellsScript most_records request asked
  pub has : has_refresh asked ≡ true
  pub takes_none : old.terms.takes_refreshes ≡ false
  pub line : text ≡ read_only_line old.format
  pub unchanged : new ≡ old

-- a request looks something up, and is told that in the client's format; nothing was done
pub record IsLookedUp (request : List ℕ) (old new : SpeakingRecord) (text : List ℕ) : Type 0 where
  pub asked : Lookup
  pub asks : AsksSession request (LookUp asked)
  pub overview : OverviewRecord
  pub is : IsOverview old.token.table.base old.terms.past asked overview
  pub told : text ≡ overview_shown old.format overview
  pub unchanged : new ≡ old

-- a client's request was answered by this text
abbrev pub IsAnswered : ℕ → List ℕ → SpeakingRecord → SpeakingRecord → List ℕ → Type 0
IsAnswered number request old new text =
    IsReported number request old new text
    ⊎ (IsRefused request old new text ⊎ (IsGivenFormat request old new text
    ⊎ (IsNotTaken request old new text ⊎ IsLookedUp request old new text)))

-- requests were answered by these texts, each of which finds the client as the one before it left it
abbrev pub AreAnswered : ℕ → SpeakingRecord → List (List ℕ) → List (List ℕ) → SpeakingRecord → Type 0
AreAnswered number old [] [] new = new ≡ old
AreAnswered number old (request ∷ requests) (text ∷ texts) new =
    (between : SpeakingRecord) × IsAnswered number request old between text
    × AreAnswered number between requests texts new
AreAnswered number old [] (text ∷ texts) new = ⊥
AreAnswered number old (request ∷ requests) [] new = ⊥

-- a request was not answered for want of memory: the client was served none of it, or the first of what it asks, where
-- the session takes it
pub record IsServedInPart (number : ℕ) (request : List ℕ) (old new : SpeakingRecord) : Type 0 where
  pub asked : List RequestRecord
  pub left : List RequestRecord
  pub spelled : SpellsScript most_records request (asked ++ left)
  pub taken : IsTaken old (asked ++ left)
  pub replies : List Reply
  pub served : AreServed number old.token asked replies new.token
  pub stays : new.format ≡ old.format
  pub keeps : new.terms ≡ old.terms

abbrev pub BreaksOff : ℕ → List ℕ → SpeakingRecord → SpeakingRecord → Type 0
BreaksOff number request old new = (new ≡ old) ⊎ IsServedInPart number request old new

-- a request was answered, and the reply added to those that are held
pub record AddsAnswer (number : ℕ) (request : List ℕ) (old new : SpeakingRecord) (before after : List ℕ) : Type 0 where
  pub text : List ℕ
  pub answered : IsAnswered number request old new text
  pub added : after ≡ before ++ text

-- a request was not answered for want of memory, and nothing was added
pub record AddsNothing (number : ℕ) (request : List ℕ) (old new : SpeakingRecord) (before after : List ℕ) : Type 0 where
  pub broken : BreaksOff number request old new
  pub added : after ≡ before
