-- Histories: lists of commits.
use Rattle.std.specs.Prelude.{◌≡◌, ℕ, List, [], ◌∷◌, ◌++◌, fold}
use Rattle.ssb_schema.specs.declared.line.LineFields.{LineFields}
use Rattle.ssb_schema.specs.declared.refresh.Action.{Action}
use Rattle.ssb_base.specs.Base.{Tables}
use Rattle.row_store.specs.Lines.{lines_after_refresh}

-- a commit as contracts see it: the client that made it, and the actions of its refresh
pub record CommitRecord : Type 0 where
  pub client : ℕ
  pub actions : List Action

-- the live lines after a history: the loaded lines, changed by each commit in turn
abbrev pub lines_after : Tables → List CommitRecord → List LineFields
lines_after base history = fold (λ lines commit. lines_after_refresh lines commit.actions) base.lines history

-- the longer history is the shorter one followed by some commits
pub record IsPrefix (shorter longer : List CommitRecord) : Type 0 where
  pub rest : List CommitRecord
  pub whole : longer ≡ shorter ++ rest

-- a warehouse as contracts see it: its base, and its commits so far
pub record Warehouse : Type 0 where
  pub base : Tables
  pub log : List CommitRecord

-- the warehouse with one commit more
abbrev pub with_commit : Warehouse → CommitRecord → Warehouse
with_commit warehouse commit = record { base = warehouse.base; log = warehouse.log ++ commit ∷ [] }
