-- What a client is served by its script.
use Rattle.std.specs.Prelude.{ℕ, List, [], Some}
use Rattle.history.specs.Tokens.{TokenRecord}
use Rattle.history.specs.Members.{number_of}
use Rattle.ssb_audit.specs.declared.trace.Told.{Told}
use Rattle.ssb_script.specs.declared.request.Script.{Script}
use Rattle.ssb_script.specs.Requests.{requests_of}
use Rattle.stream_sessions.specs.Served.{Serves}

-- what a script that was served leaves: what was reported to its client, and what the client was told
pub record SessionRecord : Type 0 where
  pub report : List ℕ
  pub told : List Told

-- the client was served the script whole, with nothing reported and told before
abbrev pub IsSessionOf : Script → TokenRecord → TokenRecord → SessionRecord → Type 0
IsSessionOf script old new session =
    Serves (number_of old.who) old new (requests_of script) (Some []) (Some session.told) (Some []) (Some session.report)
