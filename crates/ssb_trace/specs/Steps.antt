-- What one record of a trace does to what is begun.
use Rattle.std.specs.Prelude.{◌≡◌, ℕ, ◌++◌, true, List, [], ◌∷◌, All, Option, map}
use Rattle.std.specs.Option.{option_to_list}
use Rattle.ssb_script.specs.Begun.{Begun}
use Rattle.ssb_script.specs.Lines.{ScriptLine}
use Rattle.ssb_script.specs.Lines as script
use Rattle.ssb_script.specs.Scripts.{is_refreshing, lines_of_begun}
use Rattle.ssb_script.specs.Steps.{Follows as FollowsInScript}
use Rattle.ssb_script.specs.declared.begun.ScriptStep.{ScriptStep}
use Rattle.ssb_trace.specs.Entries.{IsUnfinished, IsWholeEntry, in_commit, lines_of_entries, lines_of_unfinished}
use Rattle.ssb_trace.specs.Lines.{TraceLine, SaysAfter}
use Rattle.ssb_trace.specs.declared.entry.TraceEntry.{TraceEntry}
use Rattle.ssb_trace.specs.declared.unfinished.TraceStep.{TraceStep}
use Rattle.ssb_trace.specs.declared.unfinished.Unfinished.{Unfinished}
use Rattle.ssb_trace.specs.declared.word.TraceWord.{TraceWord}

-- the entry that a step ends
abbrev pub ended : TraceStep → List TraceEntry
ended step = option_to_list step.entry

-- a step takes up these lines, the last of which is of the record of this number
pub record Takes (number : ℕ) (taken : List TraceLine) (step : TraceStep) : Type 0 where
  pub lines : taken ≡ lines_of_entries (ended step) ++ lines_of_unfinished step.unfinished
  pub whole : All IsWholeEntry (ended step)
  pub unfinished : IsUnfinished number step.unfinished

-- a step takes up one more line, of the record of this number
abbrev pub Follows : ℕ → Unfinished → TraceLine → TraceStep → Type 0
Follows number old line step = Takes number (lines_of_unfinished old ++ line ∷ []) step

-- a step takes up the line that a record of this word spells
abbrev pub TakesRecord : ℕ → Unfinished → Option TraceWord → List (List ℕ) → TraceStep → Type 0
TakesRecord number old word fields step = (line : TraceLine) × SaysAfter word fields line × Follows number old line step

-- a line that may stand in a refresh, behind its first
abbrev pub StandsInside : ScriptLine → Type 0
StandsInside (script.Query question) = ⊥
StandsInside (script.Sql text) = ⊥
StandsInside (script.Order key) = ⊥
StandsInside script.Begin = ⊥
StandsInside script.Ask = ⊥
StandsInside script.Answer = ⊥
StandsInside script.Abort = ⊥
StandsInside _ = Unit {0}

-- a step in a refresh of a script is this one in a commit of the client
abbrev pub CommitStep : ℕ → ScriptStep → TraceStep → Type 0
CommitStep client inside step = (number : ℕ) (old : Begun) (line : ScriptLine) → is_refreshing old ≡ true
    → StandsInside line
    → FollowsInScript number old line inside → Takes number (map (in_commit client) (lines_of_begun old ++ line ∷ []))
    step
