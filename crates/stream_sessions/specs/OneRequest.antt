-- One request of a script, served.
use Rattle.std.specs.Prelude.{◌≡◌, ℕ, List, Option, None}
use Rattle.std.specs.Io.KnownBytes.{Appends, Keeps}
use Rattle.history.specs.Tokens.{TokenRecord}
use Rattle.ssb_script.specs.Requests.{RequestRecord}
use Rattle.ssb_report.specs.Replies.{Reply, reply_text}
use Rattle.ssb_text.specs.Written.{StopsShort}
use Rattle.stream_sessions.specs.Keeping.{KeepsMore}
use Rattle.stream_sessions.specs.Served.{IsServed, told_of}
use Rattle.ssb_audit.specs.declared.trace.Told.{Told}
use Rattle.stream_sessions.specs.declared.serve_error.ServeError.{ServeError}
use Rattle.stream_sessions.specs.declared.serve_error.ServeError.TheVariants as error
use Rattle.stream_sessions.specs.declared.serve_error.ServeStop.{ServeStop}
use Rattle.stream_sessions.specs.declared.serve_error.ServeStop.TheVariants.{Write, OutOfMemory}

-- a request was served, its report written, and its answer kept
pub record ServesOne (number : ℕ) (old new : TokenRecord) (request : RequestRecord) (told_old told_new : Option (List Told))
    (before after : Option (List ℕ)) : Type 0 where
  pub reply : Reply
  pub served : IsServed number old request reply new
  pub kept : KeepsMore told_old told_new (told_of number reply)
  pub written : Appends before after (reply_text reply)

-- a request was served and its answer kept, but a part of the report alone was written
pub record ServesInPart (number : ℕ) (old new : TokenRecord) (request : RequestRecord) (told_old told_new : Option (List Told))
    (before after : Option (List ℕ)) : Type 0 where
  pub reply : Reply
  pub served : IsServed number old request reply new
  pub kept : KeepsMore told_old told_new (told_of number reply)
  pub written : StopsShort before after (reply_text reply)

-- where serving stops: at a report, or before the request, with everything as it was
abbrev pub StopsIn : ServeStop → ℕ → TokenRecord → TokenRecord → RequestRecord → Option (List Told) → Option (List Told)
    → Option (List ℕ) → Option (List ℕ) → Type 0
StopsIn Write number old new request told_old told_new before after =
    ServesInPart number old new request told_old told_new before after
StopsIn OutOfMemory number old new request told_old told_new before after =
    (new ≡ old) × (told_new ≡ told_old) × Keeps before after

-- why the run ends then, so many requests having been served and reported before
abbrev pub error_after : ServeStop → ℕ → ServeError
error_after Write done = error.Write done
error_after OutOfMemory done = error.OutOfMemory done

-- it is the same client of the same table, and asks nothing
pub record AreAlike (old new : TokenRecord) : Type 0 where
  pub table : new.table ≡ old.table
  pub who : new.who ≡ old.who
  pub quiet : new.asked ≡ None
