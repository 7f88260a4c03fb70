-- Histories that are joined.
use Rattle.std.specs.Prelude.{◌≡◌, ◌≤◌, List, [], ◌∷◌, ◌++◌, length, fold}
use Rattle.ssb_base.specs.Base.{Tables}
use Rattle.row_store.specs.History.{CommitRecord, lines_after}
use Rattle.row_store.specs.Legal.{IsLegal}

-- the dimensions as they were, and the lines after the history
abbrev pub tables_after : Tables → List CommitRecord → Tables
tables_after base history =
    record { limits = base.limits; dimensions = base.dimensions; lines = lines_after base history }

-- the tables after a history and then another are those after the two joined
abbrev pub TablesJoin : Type 0
TablesJoin = (base : Tables) (history later : List CommitRecord)
    → tables_after base (history ++ later) ≡ tables_after (tables_after base history) later

-- a history that is legal over the tables after a legal one is legal behind it, where the two are not too long
abbrev pub LegalHistoriesJoin : Type 0
LegalHistoriesJoin = (base : Tables) (history later : List CommitRecord)
    → length (history ++ later) ≤ base.limits.commits → IsLegal base history
    → IsLegal (tables_after base history) later → IsLegal base (history ++ later)

-- the tables after a history are those after each of its commits in turn
abbrev pub TablesFollowCommits : Type 0
TablesFollowCommits = (base : Tables) (history : List CommitRecord)
    → tables_after base history ≡ fold (λ tables commit. tables_after tables (commit ∷ [])) base history
