-- The commits that a journal keeps.
use Rattle.std.specs.Prelude.{◌≡◌, ◌⊎◌, ◌<◌, ◌≤◌, ◌^◌, List, ℕ, [], ◌++◌, length, ◌+◌, take, slice_get, Some}
use Rattle.std.specs.List.{AllZip, flat_map}
use Rattle.journal.specs.Groups.{recovered}
use Rattle.row_store.specs.History.{CommitRecord}
use Rattle.ssb_journal.specs.Seals.{sealed}
use Rattle.ssb_journal.specs.Texts.{AreSealed, IsJournalOf}
use Rattle.ssb_journal.specs.declared.head.HeadForm.{HeadForm}
use Rattle.ssb_journal.specs.declared.head.TableMark.{TableMark}
use Rattle.ssb_audit.specs.declared.trace.Trace.{Trace}
use Rattle.ssb_script.specs.declared.error.ScriptError.{ScriptError}
use Rattle.ssb_journal.specs.declared.fault.JournalFault.{JournalFault}
use Rattle.ssb_journal.specs.declared.fault.JournalFault.TheVariants.{Damaged}
use Rattle.ssb_trace.specs.Traces.{EndsInBlock, IsFirstFault, SpellsTrace}
use Rattle.ssb_trace.specs.TraceText.{trace_text}

-- the trace of these commits, without answers
abbrev pub trace_of : List CommitRecord → Trace
trace_of commits = record { commits = commits; answers = [] }

-- a text spells these commits and nothing else
abbrev pub SpellsBatch : List ℕ → List CommitRecord → Type 0
SpellsBatch text commits = (most : ℕ) × SpellsTrace most text (trace_of commits)

-- texts spell these commits, each text some of them, in order
pub record SpellCommits (texts : List (List ℕ)) (commits : List CommitRecord) : Type 0 where
  pub batches : List (List CommitRecord)
  pub spelled : AllZip SpellsBatch texts batches
  pub whole : flat_map (λ batch. batch) batches ≡ commits

-- a file is a journal over tables of these marks, and keeps these commits
pub record KeepsCommits (marks : List TableMark) (commits : List CommitRecord) (file : List ℕ) : Type 0 where
  pub texts : List (List ℕ)
  pub is_journal : IsJournalOf marks texts file
  pub spelled : SpellCommits texts commits

-- a file begins with a journal over tables of these marks, which keeps these commits
pub record BeginsWithCommits (marks : List TableMark) (commits : List CommitRecord) (file : List ℕ) : Type 0 where
  pub first : List (List ℕ)
  pub more : List (List ℕ)
  pub groups : recovered file ≡ first ++ more
  pub form : HeadForm
  pub texts : List (List ℕ)
  pub sealed : AreSealed form marks texts first
  pub spelled : SpellCommits texts commits

-- a file keeps these commits, with the new ones all or without them
abbrev pub KeepsWithOrWithout : List TableMark → List CommitRecord → List CommitRecord → List ℕ → Type 0
KeepsWithOrWithout marks commits more file = KeepsCommits marks commits file ⊎ KeepsCommits marks (commits ++ more) file

-- a file has no room for these commits as one group: it has 2^60 bytes, or their group more than 2^49
abbrev pub HasNoRoom : List ℕ → List CommitRecord → Type 0
HasNoRoom file commits = (2 ^ 60 ≤ length file) ⊎ (2 ^ 49 < length (sealed (trace_text (trace_of commits))))

-- a file stands for these groups, or is a new journal, where one is being made
abbrev pub IsAsItWasOrNew : List TableMark → List (List ℕ) → List ℕ → Type 0
IsAsItWasOrNew marks groups file =
    (recovered file ≡ groups) ⊎ ((groups ≡ []) × IsJournalOf marks [] file)

-- a text has a record that stands in a wrong place or spells nothing, ends inside a commit, or spells answers
abbrev pub SpellsNoBatch : List ℕ → Type 0
SpellsNoBatch text =
    ((most : ℕ) × (e : ScriptError) × IsFirstFault most text e)
    ⊎ (((most : ℕ) × EndsInBlock most text)
    ⊎ ((most : ℕ) × (trace : Trace) × SpellsTrace most text trace × (0 < length trace.answers)))

-- the text of this group is the first that spells no commits; the first text is that of group 1
pub record IsFirstNoBatch (texts : List (List ℕ)) (fault : JournalFault) : Type 0 where
  pub place : ℕ
  pub told : fault ≡ Damaged (place + 1)
  pub text : List ℕ
  pub is : slice_get texts place ≡ Some text
  pub no_batch : SpellsNoBatch text
  pub before : List CommitRecord
  pub spelled : SpellCommits (take place texts) before

-- a group is a text that spells these commits, behind the line of its checksum
pub record IsGroupOf (commits : List CommitRecord) (group : List ℕ) : Type 0 where
  pub text : List ℕ
  pub is : group ≡ sealed text
  pub spells : SpellsBatch text commits
