-- What follows of columns that stand for a history.
use Rattle.std.specs.Prelude.{List, IsPermutation}
use Rattle.ssb_schema.specs.Facts.{facts_of}
use Rattle.row_store.specs.History.{CommitRecord, lines_after}
use Rattle.row_store.specs.State.{StandsFor}
use Rattle.fact_columns.specs.Stored.{Stored, columns_state}

-- the live facts are the lines after any history that the columns stand for, rearranged
abbrev pub LiveFactsAreTheLines : Type 0
LiveFactsAreTheLines = (c : Stored) (history : List CommitRecord) → StandsFor (columns_state c) history
    → IsPermutation c.facts (facts_of (lines_after c.base history))
