-- The commits and answers of a trace, and the lines that spell them.
use Rattle.std.specs.Prelude.{◌≡◌, ℕ, ◌<◌, true, List, [], ◌∷◌, length, map}
use Rattle.std.specs.List.{flat_map}
use Rattle.row_store.specs.History.{CommitRecord}
use Rattle.ssb_audit.specs.declared.trace.Told.{Told}
use Rattle.ssb_script.specs.Lines.{ScriptLine}
use Rattle.ssb_script.specs.Lines as script
use Rattle.ssb_script.specs.Requests.{IsWholeRequest, Refresh, lines_of_refresh}
use Rattle.ssb_script.specs.Scripts.{HasRoom, IsSettled, is_refreshing, lines_of_begun}
use Rattle.ssb_script.specs.Steps.{begun_in}
use Rattle.ssb_trace.specs.Lines.{TraceLine, Begin, Inside, Answer, Row}
use Rattle.ssb_trace.specs.Rows.{group_kinds}
use Rattle.ssb_trace.specs.declared.entry.TraceEntry.{TraceEntry}
use Rattle.ssb_trace.specs.declared.entry.TraceEntry.TheVariants as entry
use Rattle.ssb_trace.specs.declared.heads.AnswerHead.{AnswerHead}
use Rattle.ssb_trace.specs.declared.unfinished.Unfinished.{Unfinished}
use Rattle.ssb_trace.specs.declared.unfinished.Unfinished.TheVariants as unfinished

-- the commits and the answers among entries
abbrev pub commit_in : TraceEntry → List CommitRecord
commit_in (entry.Commit commit) = commit ∷ []
commit_in (entry.Answer told) = []

abbrev pub commits_in : List TraceEntry → List CommitRecord
commits_in entries = flat_map commit_in entries

abbrev pub answer_in : TraceEntry → List Told
answer_in (entry.Commit commit) = []
answer_in (entry.Answer told) = told ∷ []

abbrev pub answers_in : List TraceEntry → List Told
answers_in entries = flat_map answer_in entries

-- a line of a script's refresh, in a commit of this client
abbrev pub in_commit : ℕ → ScriptLine → TraceLine
in_commit client script.Begin = Begin client
in_commit client line = Inside line

-- the lines of a commit: those that its refresh has in a script
abbrev pub lines_of_commit : CommitRecord → List TraceLine
lines_of_commit commit = map (in_commit commit.client) (lines_of_refresh commit.actions)

-- the lines of an answer: its first one, which tells how many rows there are, and its rows
abbrev pub head_of_told : Told → AnswerHead
head_of_told told = record { client = told.client; at = told.at; question = told.question; count = length told.rows }

abbrev pub lines_of_told : Told → List TraceLine
lines_of_told told = Answer (head_of_told told) ∷ map (Row told.question) told.rows

abbrev pub lines_of_entry : TraceEntry → List TraceLine
lines_of_entry (entry.Commit commit) = lines_of_commit commit
lines_of_entry (entry.Answer told) = lines_of_told told

abbrev pub lines_of_entries : List TraceEntry → List TraceLine
lines_of_entries entries = flat_map lines_of_entry entries

-- the refresh of a commit is one that a script may have
abbrev pub IsWholeEntry : TraceEntry → Type 0
IsWholeEntry (entry.Commit commit) = IsWholeRequest (Refresh commit.actions)
IsWholeEntry (entry.Answer told) = Unit {0}

-- the lines of the commit, or of the answer, that is begun and not ended
abbrev pub lines_of_unfinished : Unfinished → List TraceLine
lines_of_unfinished unfinished.Nothing = []
lines_of_unfinished (unfinished.Commit commit) = map (in_commit commit.client) (lines_of_begun (begun_in commit.begun))
lines_of_unfinished (unfinished.Answer answer) = Answer answer.head ∷ map (Row answer.head.question) answer.rows

-- what is begun is not ended, after so many records: a refresh has room for what was read of it; an answer lacks rows,
-- and is kept with what the group columns of its question hold
abbrev pub IsUnfinished : ℕ → Unfinished → Type 0
IsUnfinished count unfinished.Nothing = Unit {0}
IsUnfinished count (unfinished.Commit commit) =
    (is_refreshing (begun_in commit.begun) ≡ true) × HasRoom count (begun_in commit.begun)
    × IsSettled (begun_in commit.begun)
IsUnfinished count (unfinished.Answer answer) =
    (length answer.rows < answer.head.count) × (answer.kinds ≡ group_kinds answer.head.question)
