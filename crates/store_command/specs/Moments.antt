-- The tables of a store after so many commits, and the changes of its commits.
use Rattle.std.specs.Prelude.{ℕ, List, Option, None}
use Rattle.changes_command.specs.Written.{Changes}
use Rattle.changes_command.specs.declared.format.ChangesFormat.{ChangesFormat}
use Rattle.changes_command.specs.declared.signed.ChangesStart.{ChangesStart}
use Rattle.export_command.specs.Histories.{AreTablesAt}
use Rattle.journal_opening.specs.Marks.{AreMarks}
use Rattle.ssb_base.specs.Base.{Tables}
use Rattle.ssb_journal.specs.declared.head.TableMark.{TableMark}
use Rattle.ssb_schema.specs.declared.table.Table.{Table}

-- these are the tables after commits of a journal over other tables, which are after so many commits themselves. Which
-- tables and which journal the store has is not said
pub record IsStoreBase (at : Option ℕ) (tables : Tables) (after : ℕ) : Type 0 where
  pub past : ℕ
  pub base : Tables
  pub marks : List TableMark
  pub marked : AreMarks base marks
  pub are : AreTablesAt base marks None past at tables after

-- what is asked for of the signed lines was written in a format, of a journal over the tables that the texts spell, which are after so
-- many commits themselves. How many these are, and which journal the store has, is not said
abbrev pub WritesStoreChanges : (Table → List ℕ) → ChangesStart → ChangesFormat → Option (List ℕ) → Option (List ℕ)
    → Type 0
WritesStoreChanges texts start format old new = (past : ℕ) × Changes texts None past start format old new
