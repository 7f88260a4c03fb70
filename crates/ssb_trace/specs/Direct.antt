-- What a commit is read off: the lines at the start of a text.
use Rattle.std.specs.Prelude.{ℕ, ◌+◌, ◌≤◌, List, [], length, map}
use Rattle.csv.specs.Reading.{Reached}
use Rattle.csv.specs.declared.parser.State.TheVariants as st
use Rattle.row_store.specs.History.{CommitRecord}
use Rattle.ssb_script.specs.Lines.{ScriptLine}
use Rattle.ssb_text.specs.Records.{record_config}
use Rattle.ssb_trace.specs.Lines.{TraceLine, Inside, AreLines}
use Rattle.ssb_trace.specs.Traces.{SpellsTrace}

-- lines of a refresh, as those of a commit
abbrev pub lines_in : List ScriptLine → List TraceLine
lines_in lines = map Inside lines

-- csv's first records of a text, each of a byte at least, spell these lines, and behind them are these bytes, from which
-- it goes on as at a start
pub record BeginsWithLines (text : List ℕ) (lines : List TraceLine) (behind : List ℕ) : Type 0 where
  pub records : List (List (List ℕ))
  pub reached : Reached record_config st.StartRecord text records st.StartRecord behind
  pub said : AreLines records lines
  pub fewer : length records + length behind ≤ length text

-- a text spells these commits and nothing else
abbrev pub SpellsCommits : List ℕ → List CommitRecord → Type 0
SpellsCommits text commits = (most : ℕ) × SpellsTrace most text (record { commits = commits; answers = [] })
