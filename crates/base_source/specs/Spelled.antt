-- The base that five table files hold.
use Rattle.std.specs.Prelude.{◌≡◌, ℕ, List}
use Rattle.ssb_base.specs.Base.{Tables}
use Rattle.ssb_files.specs.Loaded.{AreRefused, IsLoaded}
use Rattle.ssb_schema.specs.declared.table.Table.{Table}

-- the texts whose rows the tables have, where they are known, spell this base; no commit has changed it
pub record IsSpelled (AreTheirs : (Table → List ℕ) → Type 0) (base : Tables) (after : ℕ) : Type 0 where
  pub loaded : (texts : Table → List ℕ) → AreTheirs texts → IsLoaded texts base
  pub unchanged : after ≡ 0

-- the texts whose rows the tables have, where they are known, are refused
abbrev pub AreRefusedTables : ((Table → List ℕ) → Type 0) → Type 0
AreRefusedTables AreTheirs = (texts : Table → List ℕ) → AreTheirs texts → AreRefused texts
