-- A session that took a client from one token to another, whatever its last format is.
use Rattle.std.proofs.Common.{◌≡◌, ◌∙◌, ℕ, List, [], Result, Ok, Err, ap, subst, sym}
use Rattle.std.specs.Prelude.{IfErr, IfOk}
use Rattle.history.specs.Members.{number_of}
use Rattle.history.specs.Tokens.{TokenRecord}
use Rattle.stream_sessions.specs.Conversation.{ConversesTo}
use Rattle.stream_sessions.specs.Course.{CourseRecord, IsLeft, number_in}
use Rattle.stream_sessions.specs.Events.{WireRecord}
use Rattle.stream_sessions.specs.OneRequest.{AreAlike}
use Rattle.stream_sessions.specs.Session.{Breaks, Serves}
use Rattle.stream_sessions.specs.Speaking.{InSession, first_format, manner_of, speaking}
use Rattle.stream_sessions.specs.declared.manner.Manner.{Manner}
use Rattle.stream_sessions.specs.declared.manner.Terms.{Terms}
use Rattle.stream_sessions.specs.declared.outcome.Served.{Served}
use Rattle.stream_sessions.specs.declared.outcome.SessionError.{SessionError}
use Rattle.stream_sessions.proofs.ReadingLaws.{terms_stay}

-- what is said of a session that was left
pub record IsLeftSession (result : Result Served SessionError) (terms : Terms) (old new : TokenRecord) (wire after : WireRecord) :
    Type 0 where
  pub served : IfOk result (λ served. InSession terms old new (λ first last. Serves served (number_of old.who) first last
      wire.unread after.unread wire.written after.written))
  pub broken : IfErr result (λ error. InSession terms old new (λ first last. Breaks error (number_of old.who) first last
      wire.unread after.unread wire.written after.written))
  pub conversed : InSession terms old new (λ first last. ConversesTo result (number_of old.who) first last after.events)
  pub same : AreAlike old new

-- a course with these parts
abbrev at : TokenRecord → Manner → WireRecord → List ℕ → CourseRecord
at client manner wire held = record { client = speaking client manner; wire = wire; held = held }

left_session : (result : Result Served SessionError) (old new : TokenRecord) (wire after : WireRecord) (manner : Manner)
    (held : List ℕ)
    → IsLeft result (at old (manner_of manner.terms first_format) wire []) (at new manner after held)
    → IsLeftSession result manner.terms old new wire after
left_session (Ok served) old new wire after manner held left =
    record { served = (manner.format, left.1); broken = tt; conversed = (manner.format, left.2); same = left.0 }
left_session (Err error) old new wire after manner held left =
    record { served = tt; broken = (manner.format, left.1); conversed = (manner.format, left.2); same = left.0 }

-- its terms are to its end as they were when it began
left_stays : (result : Result Served SessionError) (first last : CourseRecord) → IsLeft result first last
    → last.client.terms ≡ first.client.terms
left_stays (Ok served) first last left = terms_stay (Ok served) (number_in first) first.client last.client _ left.2
left_stays (Err error) first last left = terms_stay (Err error) (number_in first) first.client last.client _ left.2

-- the same of a session as it was made
pub begun_session : (result : Result Served SessionError) (terms : Terms) (old new : TokenRecord)
    (was wire after : WireRecord) (first manner : Manner) (none held : List ℕ)
    → was ≡ wire → first ≡ manner_of terms first_format → none ≡ []
    → IsLeft result (at old first was none) (at new manner after held) → IsLeftSession result terms old new wire after
begun_session result terms old new was wire after first manner none held same begins empty left =
    let last = at new manner after held in
    let stays = left_stays result (at old first was none) last left ∙ ap (λ (m : Manner). m.terms) begins in
    let is : at old first was none ≡ at old (manner_of manner.terms first_format) wire [] =
    ap (λ m. at old m was none) (begins ∙ ap (λ t. manner_of t first_format) (sym stays))
    ∙ ap (λ w. at old (manner_of manner.terms first_format) w none) same
    ∙ ap (at old (manner_of manner.terms first_format) wire) empty in
    subst (λ (t : Terms). IsLeftSession result t old new wire after) stays
    (left_session result old new wire after manner held
    (subst (λ (course : CourseRecord). IsLeft result course last) is left))
