-- One thing that a request of a session asks, served and replied to.
use Rattle.std.specs.Prelude.{◌≡◌, ℕ, List, ◌++◌, ◌⊎◌}
use Rattle.history.specs.Tokens.{TokenRecord}
use Rattle.ssb_report.specs.Replies.{Reply}
use Rattle.ssb_script.specs.Requests.{RequestRecord}
use Rattle.stream_sessions.specs.Served.{IsServed}
use Rattle.stream_sessions.specs.WithPast.{reply_told}
use Rattle.stream_sessions.specs.declared.manner.Manner.{Manner}

-- it was served, and the reply was added, in the manner of the session
pub record RepliesTo (number : ℕ) (manner : Manner) (old new : TokenRecord) (request : RequestRecord)
    (before after : List ℕ) : Type 0 where
  pub reply : Reply
  pub served : IsServed number old request reply new
  pub added : after ≡ before ++ reply_told manner.format manner.terms.past reply

-- memory ran out before it was served, or for the reply, of which a part may have been added
pub record LacksReply (number : ℕ) (old new : TokenRecord) (request : RequestRecord)
    (before after : List ℕ) : Type 0 where
  pub done : (new ≡ old) ⊎ ((reply : Reply) × IsServed number old request reply new)
  pub part : List ℕ
  pub added : after ≡ before ++ part
