-- The law of blocks: the records of a text in two parts, the second of which begins with a line feed, are those of the
-- first and then those of the second.
use Rattle.std.specs.Prelude.{ℕ, List, ◌++◌}
use Rattle.ssb_text.specs.Records.{BeginsWith, HasRecords}
use Rattle.ssb_text.specs.Blocks.{Follows}

-- all records of both parts
abbrev pub RecordsOfAppended : Type 0
RecordsOfAppended = (a b : List ℕ) (rs ss : List (List (List ℕ))) → Follows a b → HasRecords a rs → HasRecords b ss
    → HasRecords (a ++ b) (rs ++ ss)

-- all records of the first part and the first ones of the second
abbrev pub FirstOfAppended : Type 0
FirstOfAppended = (a b : List ℕ) (rs ss : List (List (List ℕ))) → Follows a b → HasRecords a rs → BeginsWith b ss
    → BeginsWith (a ++ b) (rs ++ ss)

-- the first records of the first part, whatever the second is
abbrev pub FirstOfLonger : Type 0
FirstOfLonger = (a b : List ℕ) (rs : List (List (List ℕ))) → Follows a b → BeginsWith a rs → BeginsWith (a ++ b) rs
