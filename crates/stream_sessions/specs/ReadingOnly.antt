-- What a session leaves that takes no refreshes.
use Rattle.std.specs.Prelude.{◌≡◌, ℕ, false, List, Result}
use Rattle.history.specs.Tokens.{TokenRecord}
use Rattle.stream_sessions.specs.Conversation.{ConversesTo}
use Rattle.stream_sessions.specs.Events.{Event}
use Rattle.stream_sessions.specs.Speaking.{InSession}
use Rattle.stream_sessions.specs.declared.manner.Terms.{Terms}
use Rattle.stream_sessions.specs.declared.outcome.Served.{Served}
use Rattle.stream_sessions.specs.declared.outcome.SessionError.{SessionError}

-- a session that takes no refreshes, and over whose wire this went, served to its end or broken: its client has made
-- the commits that it had made before, and no more
abbrev pub CommitsNothing : List Event → Type 0
CommitsNothing events =
    (result : Result Served SessionError) (number : ℕ) (terms : Terms) (old new : TokenRecord)
    → terms.takes_refreshes ≡ false
    → InSession terms old new (λ first last. ConversesTo result number first last events) → new.mine ≡ old.mine
