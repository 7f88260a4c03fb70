-- A client in a session, and the manner in which it is served.
use Rattle.std.specs.Prelude.{◌≡◌, ◌⊎◌, Bool, true, false, List}
use Rattle.std.specs.List.{list_any}
use Rattle.history.specs.Tokens.{TokenRecord}
use Rattle.ssb_formats.specs.declared.reply_format.ReplyFormat.{ReplyFormat}
use Rattle.ssb_formats.specs.declared.reply_format.ReplyFormat.TheVariants.{Report}
use Rattle.ssb_script.specs.Requests.{RequestRecord, Refresh, Ask, Order, Abort}
use Rattle.stream_sessions.specs.declared.manner.Manner.{Manner}
use Rattle.stream_sessions.specs.declared.manner.Terms.{Terms}
use Rattle.stream_sessions.specs.declared.past.Past.{Past}

-- a client's token, the format of the replies to it, and the terms of its session
pub record SpeakingRecord : Type 0 where
  pub token : TokenRecord
  pub format : ReplyFormat
  pub terms : Terms

abbrev pub speaking : TokenRecord → Manner → SpeakingRecord
speaking token manner = record { token = token; format = manner.format; terms = manner.terms }

-- the format that a session begins with
abbrev pub first_format : ReplyFormat
first_format = Report

-- the terms of a session that takes refreshes or not, where so many commits came before
abbrev pub terms_of : Bool → Past → Terms
terms_of takes_refreshes past = record { takes_refreshes = takes_refreshes; past = past }

-- the manner of a session of these terms in this format
abbrev pub manner_of : Terms → ReplyFormat → Manner
manner_of terms format = record { format = format; terms = terms }

-- of a session that began on these terms, and took a client from one token to another, whatever format it ended with:
-- the terms were the same to its end
abbrev pub InSession : Terms → TokenRecord → TokenRecord → (SpeakingRecord → SpeakingRecord → Type 0) → Type 0
InSession terms old new Took =
    (format : ReplyFormat)
    × Took (speaking old (manner_of terms first_format)) (speaking new (manner_of terms format))

-- whether what is asked is a refresh
abbrev pub is_refresh : RequestRecord → Bool
is_refresh (Refresh actions) = true
is_refresh (Ask asking) = false
is_refresh (Order key) = false
is_refresh Abort = false

-- whether there is a refresh among all that a request asks
abbrev pub has_refresh : List RequestRecord → Bool
has_refresh asked = list_any is_refresh asked

-- a session takes what is asked: it takes refreshes, or there is none in it
abbrev pub IsTaken : SpeakingRecord → List RequestRecord → Type 0
IsTaken client asked = (client.terms.takes_refreshes ≡ true) ⊎ (has_refresh asked ≡ false)
