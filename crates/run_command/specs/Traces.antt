-- What clients were told in a run, and the trace that it leaves.
use Rattle.std.specs.Prelude.{◌≡◌, ◌≢◌, ℕ, ◌<◌, List, slice_get, Some, flat_map}
use Rattle.ssb_base.specs.Base.{Tables}
use Rattle.row_store.specs.History.{CommitRecord, IsPrefix}
use Rattle.row_store.specs.Legal.{IsLegal}
use Rattle.history.specs.Tokens.{TokenRecord}
use Rattle.ssb_script.specs.Requests.{RequestRecord}
use Rattle.ssb_report.specs.Replies.{Reply}
use Rattle.ssb_audit.specs.declared.trace.Told.{Told}
use Rattle.ssb_audit.specs.Legal.{IsLegalTrace}
use Rattle.stream_sessions.specs.Served.{AreServed, told_of}

-- a client of this number had requests served at a server over the base, sees a beginning of the log, and was told this
pub record WasTold (base : Tables) (log : List CommitRecord) (number : ℕ) (told : List Told) : Type 0 where
  pub opened : TokenRecord
  pub closed : TokenRecord
  pub requests : List RequestRecord
  pub replies : List Reply
  pub over : opened.table.base ≡ base
  pub served : AreServed number opened requests replies closed
  pub begins : IsPrefix closed.seen log
  pub all : told ≡ flat_map (told_of number) replies

-- what each client was told, the clients by number; no number twice
pub record WereTold (base : Tables) (log : List CommitRecord) (told : List (ℕ × List Told)) : Type 0 where
  pub each : (i : ℕ) (client : ℕ × List Told) → slice_get told i ≡ Some client → WasTold base log client.0 client.1
  pub once : (i j : ℕ) (first second : ℕ × List Told) → i < j → slice_get told i ≡ Some first
      → slice_get told j ≡ Some second → first.0 ≢ second.0

-- a legal log, and what its clients were told, one client after another, are a legal trace
abbrev pub RunsAreLegal : Type 0
RunsAreLegal = (base : Tables) (log : List CommitRecord) (told : List (ℕ × List Told)) → IsLegal base log
    → WereTold base log told
    → IsLegalTrace base (record { commits = log; answers = flat_map (λ client. client.1) told })
