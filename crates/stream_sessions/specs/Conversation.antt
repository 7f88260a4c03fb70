-- What goes over the wire of a session, in order.
use Rattle.std.specs.Prelude.{◌≡◌, ◌≤◌, ◌<◌, ℕ, Bool, true, false, List, [], ◌∷◌, ◌++◌, ◌⊎◌, length, Result, Ok, Err}
use Rattle.ssb_script.specs.Cutting.{IsRequest}
use Rattle.stream_sessions.specs.Answers.{AddsAnswer, AddsNothing}
use Rattle.stream_sessions.specs.Events.{Event, Looks, Takes, Passes}
use Rattle.stream_sessions.specs.FaultLine.{too_long_line}
use Rattle.stream_sessions.specs.Speaking.{SpeakingRecord}
use Rattle.stream_sessions.specs.declared.outcome.Served.{Served}
use Rattle.stream_sessions.specs.declared.outcome.SessionError.{SessionError}
use Rattle.stream_sessions.specs.declared.outcome.SessionFault.TheVariants as fault

-- so many bytes of replies are held at most before one more is added, less one: 64 KiB
abbrev pub most_held : ℕ
most_held = 65536

-- what comes of bytes that were taken, where replies are held, and whether they are the last: a request is answered, and
-- the reply held behind the others; of the last bytes, what the input's end left is answered likewise, or nothing is, for
-- want of memory or since they are no request, or it is told that the request is too long
abbrev pub AddsReply : Bool → ℕ → List ℕ → SpeakingRecord → SpeakingRecord → List ℕ → List ℕ → Type 0
AddsReply false number bytes old new held kept = IsRequest bytes × AddsAnswer number bytes old new held kept
AddsReply true number bytes old new held kept =
    AddsAnswer number bytes old new held kept
    ⊎ (AddsNothing number bytes old new held kept ⊎ ((new ≡ old) × (kept ≡ held ++ too_long_line old.format)))

-- what went over a session's wire, the newest first, left the client so, and these replies are held; whether the last bytes
-- were taken: the session looks for more before that, and only where nothing is held; what it takes is answered where
-- few bytes are held; and all that is held is passed on, with evidence in hand of all commits that the client has seen
abbrev pub IsConversation : Bool → ℕ → SpeakingRecord → List Event → SpeakingRecord → List ℕ → Type 0
IsConversation ended number old [] now held = (ended ≡ false) × (now ≡ old) × (held ≡ [])
IsConversation ended number old (Looks at_hand ∷ earlier) now held =
    (ended ≡ false) × IsConversation false number old earlier now held × (held ≡ [])
IsConversation ended number old (Takes bytes ∷ earlier) now held =
    (before : SpeakingRecord) × (was : List ℕ) × IsConversation false number old earlier before was
    × (length was < most_held) × AddsReply ended number bytes before now was held
IsConversation ended number old (Passes text covered ∷ earlier) now held =
    IsConversation ended number old earlier now text × (length now.token.seen ≤ covered) × (held ≡ [])

-- what went over the wire of a session that ended so: a conversation to its end, in which nothing is held any more; or one
-- until it broke, in which nothing is held but what could not be written
abbrev pub ConversesTo : Result Served SessionError → ℕ → SpeakingRecord → SpeakingRecord → List Event → Type 0
ConversesTo (Ok served) number old now events = IsConversation true number old events now []
ConversesTo (Err error) number old now events =
    (ended : Bool) × (held : List ℕ) × IsConversation ended number old events now held
    × ((error.fault ≡ fault.Write → ⊥) → held ≡ [])
