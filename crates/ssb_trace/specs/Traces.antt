-- What the text of a trace spells, and its first fault.
use Rattle.std.specs.Prelude.{◌≡◌, ℕ, ◌+◌, ◌≤◌, ◌⊎◌, ◌++◌, List, [], ◌∷◌, length, All, Option, Some, None}
use Rattle.std.specs.Prelude.{if◌then◌else◌}
use Rattle.ssb_audit.specs.declared.trace.Trace.{Trace}
use Rattle.ssb_text.specs.Records.{BeginsWith, HasRecords}
use Rattle.ssb_script.specs.Begun.{Begun}
use Rattle.ssb_script.specs.Scripts.{checks_in, first_of, refusal_at_end, too_long}
use Rattle.ssb_script.specs.Steps.{begun_in}
use Rattle.ssb_script.specs.declared.error.ScriptError.{ScriptError}
use Rattle.ssb_script.specs.declared.error.ScriptError.TheVariants as error
use Rattle.ssb_trace.specs.Entries.{IsUnfinished, IsWholeEntry, answers_in, commits_in, lines_of_entries}
use Rattle.ssb_trace.specs.Entries.{lines_of_unfinished}
use Rattle.ssb_trace.specs.Lines.{AreLines, entry_begun, is_line, line_inside, row_after, word_of}
use Rattle.ssb_trace.specs.declared.entry.TraceEntry.{TraceEntry}
use Rattle.ssb_trace.specs.declared.unfinished.Unfinished.{Unfinished}
use Rattle.ssb_trace.specs.declared.unfinished.Unfinished.TheVariants as unfinished
use Rattle.ssb_trace.specs.declared.word.TraceWord.{TraceWord}

-- a text spells this trace: its records, at most so many, spell the lines of commits and answers and nothing else, and
-- these
-- are the trace's, each in order
pub record SpellsTrace (most : ℕ) (text : List ℕ) (trace : Trace) : Type 0 where
  pub records : List (List (List ℕ))
  pub all : HasRecords text records
  pub few : length records ≤ most
  pub entries : List TraceEntry
  pub spelled : AreLines records (lines_of_entries entries)
  pub whole : All IsWholeEntry entries
  pub commits : commits_in entries ≡ trace.commits
  pub answers : answers_in entries ≡ trace.answers

-- records spell whole entries, and then what is begun and not ended
pub record Spells (records : List (List (List ℕ))) (entries : List TraceEntry) (begun : Unfinished) : Type 0 where
  pub spelled : AreLines records (lines_of_entries entries ++ lines_of_unfinished begun)
  pub whole : All IsWholeEntry entries
  pub unfinished : IsUnfinished (length records) begun

-- a record has to spell something
abbrev pub bad_unless : {A : Type 0} → ℕ → Option A → Option ScriptError
bad_unless number (Some said) = None
bad_unless number None = Some (error.BadLine number)

-- a record that is no `line` ends the order that is being read, which then may be refused
abbrev pub order_refused : Begun → Option TraceWord → Option ScriptError
order_refused begun word = if is_line word then None else refusal_at_end begun

-- the checks of the record of a number, whose word this is: in a commit those of a script's refresh
abbrev pub checks_after : ℕ → Unfinished → Option TraceWord → List (List ℕ) → List (Option ScriptError)
checks_after number unfinished.Nothing word fields = bad_unless number (entry_begun word fields) ∷ []
checks_after number (unfinished.Commit commit) word fields =
    order_refused (begun_in commit.begun) word ∷ checks_in number (begun_in commit.begun) (line_inside word fields)
checks_after number (unfinished.Answer answer) word fields =
    bad_unless number (row_after answer.head.question word fields) ∷ []

-- first of all, a record is not past the bound
abbrev pub fault_of : ℕ → ℕ → Unfinished → List (List ℕ) → Option ScriptError
fault_of most number begun fields = first_of (too_long most number ∷ checks_after number begun (word_of fields) fields)

-- a record is the first with a fault: those before it spell entries and what is begun
pub record IsFirstFault (most : ℕ) (text : List ℕ) (e : ScriptError) : Type 0 where
  pub before : List (List (List ℕ))
  pub fields : List (List ℕ)
  pub begins : BeginsWith text (before ++ fields ∷ [])
  pub few : length before ≤ most
  pub entries : List TraceEntry
  pub begun : Unfinished
  pub spells : Spells before entries begun
  pub is : fault_of most (length before + 1) begun fields ≡ Some e

-- whether something is begun
abbrev pub IsBegun : Unfinished → Type 0
IsBegun unfinished.Nothing = ⊥
IsBegun (unfinished.Commit commit) = Unit {0}
IsBegun (unfinished.Answer answer) = Unit {0}

-- the text ends inside a commit, or before the last row of an answer
pub record EndsInBlock (most : ℕ) (text : List ℕ) : Type 0 where
  pub records : List (List (List ℕ))
  pub all : HasRecords text records
  pub few : length records ≤ most
  pub entries : List TraceEntry
  pub begun : Unfinished
  pub spells : Spells records entries begun
  pub inside : IsBegun begun

-- an error tells the first fault of a text; two tell nothing of it: that its reader failed, and that memory ran out
abbrev pub IsTraceFault : ℕ → List ℕ → ScriptError → Type 0
IsTraceFault most text e =
    (e ≡ error.Read) ⊎ ((e ≡ error.OutOfMemory) ⊎ (IsFirstFault most text e
    ⊎ ((e ≡ error.NoCommit) × EndsInBlock most text)))
