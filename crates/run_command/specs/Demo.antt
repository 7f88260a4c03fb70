-- A script served over the small data set.
use Rattle.std.specs.Prelude.{◌⊎◌, ℕ, List, [], Option, Some}
use Rattle.std.specs.Io.KnownBytes.{Appends, Keeps}
use Rattle.small_data.specs.SmallTexts.{small_texts}
use Rattle.row_store.specs.History.{Warehouse}
use Rattle.ssb_base.specs.Base.{Tables}
use Rattle.ssb_files.specs.Loaded.{AreRefused, IsLoaded}
use Rattle.ssb_files.specs.Scripts.{IsRefusedScript}
use Rattle.ssb_report.specs.Report.{Serves}
use Rattle.ssb_text.specs.Written.{AppendsPart}
use Rattle.ssb_script.specs.Requests.{RequestRecord}
use Rattle.ssb_script.specs.Scripts.{AreAsked}
use Rattle.run_command.specs.Alone.{may_be_told}

-- a report of the requests, as the one-thread warehouse gives it to client 1 over a base, from no commit on
pub record IsReport (base : Tables) (requests : List RequestRecord) (report : List ℕ) : Type 0 where
  pub ended : Warehouse
  pub served : Serves may_be_told 1 (record { base = base; log = [] }) ended requests (Some []) (Some report)

-- a report of the script that the input spells, over the base that the small data set spells
pub record IsSmallReport (remaining : Option (List ℕ)) (report : List ℕ) : Type 0 where
  pub base : Tables
  pub loaded : IsLoaded small_texts base
  pub requests : List RequestRecord
  pub asked : AreAsked remaining requests
  pub is_report : IsReport base requests report

-- known bytes grow by such a report
pub record ServesSmall (remaining before after : Option (List ℕ)) : Type 0 where
  pub report : List ℕ
  pub is_report : IsSmallReport remaining report
  pub written : Appends before after report

-- known bytes grow by a part of such a report from its beginning on
pub record ServesPartSmall (remaining before after : Option (List ℕ)) : Type 0 where
  pub report : List ℕ
  pub is_report : IsSmallReport remaining report
  pub written : AppendsPart before after report

-- nothing was written, or a part of a report, which may be all of it where it was not handed on
abbrev pub EndsEarly : Option (List ℕ) → Option (List ℕ) → Option (List ℕ) → Type 0
EndsEarly remaining before after = Keeps before after ⊎ ServesPartSmall remaining before after

-- the script is refused; or else the small data set is
abbrev pub IsOfScript : Option (List ℕ) → Type 0
IsOfScript remaining = IsRefusedScript remaining ⊎ AreRefused small_texts
