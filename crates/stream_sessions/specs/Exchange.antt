-- What a client wrote and what it was told, over a session's wire.
use Rattle.std.specs.Prelude.{◌≡◌, ℕ, true, false, List, [], ◌∷◌, ◌++◌}
use Rattle.std.specs.List.{AllByRecursion, concat}
use Rattle.ssb_script.specs.Cutting.{IsRequest}
use Rattle.stream_sessions.specs.Answers.{AreAnswered}
use Rattle.stream_sessions.specs.Conversation.{AddsReply, IsConversation}
use Rattle.stream_sessions.specs.Events.{Event, Looks, Takes, Passes}
use Rattle.stream_sessions.specs.Speaking.{SpeakingRecord}

-- all that was taken, one after another
abbrev pub texts_taken : List Event → List (List ℕ)
texts_taken [] = []
texts_taken (Looks at_hand ∷ earlier) = texts_taken earlier
texts_taken (Takes bytes ∷ earlier) = texts_taken earlier ++ bytes ∷ []
texts_taken (Passes text covered ∷ earlier) = texts_taken earlier

-- all texts that were passed on
abbrev pub passed : List Event → List ℕ
passed [] = []
passed (Looks at_hand ∷ earlier) = passed earlier
passed (Takes bytes ∷ earlier) = passed earlier
passed (Passes text covered ∷ earlier) = passed earlier ++ text

-- what was taken is requests, each of which was answered; what was passed on, and then what is held, is their replies
pub record HasReplies (number : ℕ) (old now : SpeakingRecord) (events : List Event) (held : List ℕ) : Type 0 where
  pub each : AllByRecursion IsRequest (texts_taken events)
  pub replies : List (List ℕ)
  pub answered : AreAnswered number old (texts_taken events) replies now
  pub told : passed events ++ held ≡ concat replies

-- the same, and then what comes of the last bytes that were taken
pub record HasRepliesToLast (number : ℕ) (old now : SpeakingRecord) (events : List Event) (held : List ℕ) : Type 0 where
  pub requests : List (List ℕ)
  pub each : AllByRecursion IsRequest requests
  pub last : List ℕ
  pub took : texts_taken events ≡ requests ++ last ∷ []
  pub replies : List (List ℕ)
  pub between : SpeakingRecord
  pub answered : AreAnswered number old requests replies between
  pub told : AddsReply true number last between now (concat replies) (passed events ++ held)

-- in a conversation all requests that were taken were answered, in order, and nothing else was told
abbrev pub TellsReplies : List Event → Type 0
TellsReplies events =
    (number : ℕ) (old now : SpeakingRecord) (held : List ℕ)
    → (IsConversation false number old events now held → HasReplies number old now events held)
    × (IsConversation true number old events now held → HasRepliesToLast number old now events held)
