-- A text spells a trace where its records say the lines of the trace's commits, and then those of its answers.
use Rattle.std.proofs.Common.{◌≡◌, ℕ, ◌≤◌, List, [], ◌∷◌, ◌++◌, length, refl, ap, ◌∙◌, subst}
use Rattle.std.specs.List.{AllByRecursion, flat_map}
use Rattle.std.proofs.lemmas.List.Elements.{All-from_recursion}
use Rattle.row_store.specs.History.{CommitRecord}
use Rattle.ssb_audit.specs.declared.trace.Told.{Told}
use Rattle.ssb_audit.specs.declared.trace.Trace.{Trace}
use Rattle.ssb_text.specs.Records.{HasRecords}
use Rattle.ssb_script.specs.Requests.{IsWholeRequest, Refresh}
use Rattle.ssb_trace.specs.Entries.{IsWholeEntry, answers_in, commits_in, lines_of_entries, lines_of_commit}
use Rattle.ssb_trace.specs.Entries.{lines_of_told}
use Rattle.ssb_trace.specs.Lines.{AreLines}
use Rattle.ssb_trace.specs.Traces.{SpellsTrace}
use Rattle.ssb_trace.specs.declared.entry.TraceEntry.{TraceEntry}
use Rattle.ssb_trace.specs.declared.entry.TraceEntry.TheVariants as entry
use Rattle.std.proofs.Common.{append_assoc}

in_order : List CommitRecord → List Told → List TraceEntry
in_order [] [] = []
in_order [] (told ∷ answers) = entry.Answer told ∷ in_order [] answers
in_order (commit ∷ commits) answers = entry.Commit commit ∷ in_order commits answers

commits-of : (commits : List CommitRecord) (answers : List Told) → commits_in (in_order commits answers) ≡ commits
unfolding in_order
commits-of [] [] = refl
commits-of [] (told ∷ answers) = commits-of [] answers
commits-of (commit ∷ commits) answers = ap (λ rest. commit ∷ rest) (commits-of commits answers)

answers-of : (commits : List CommitRecord) (answers : List Told) → answers_in (in_order commits answers) ≡ answers
unfolding in_order
answers-of [] [] = refl
answers-of [] (told ∷ answers) = ap (λ rest. told ∷ rest) (answers-of [] answers)
answers-of (commit ∷ commits) answers = answers-of commits answers

lines-of : (commits : List CommitRecord) (answers : List Told)
    → flat_map lines_of_commit commits ++ flat_map lines_of_told answers ≡ lines_of_entries (in_order commits answers)
unfolding in_order
lines-of [] [] = refl
lines-of [] (told ∷ answers) = ap (λ rest. lines_of_told told ++ rest) (lines-of [] answers)
lines-of (commit ∷ commits) answers =
    append_assoc (lines_of_commit commit) (flat_map lines_of_commit commits) (flat_map lines_of_told answers)
    ∙ ap (λ rest. lines_of_commit commit ++ rest) (lines-of commits answers)

all-whole : (commits : List CommitRecord) (answers : List Told)
    → AllByRecursion (λ commit. IsWholeRequest (Refresh commit.actions)) commits
    → AllByRecursion IsWholeEntry (in_order commits answers)
unfolding in_order
all-whole [] [] whole = tt
all-whole [] (told ∷ answers) whole = (tt, all-whole [] answers whole)
all-whole (commit ∷ commits) answers whole = (whole.0, all-whole commits answers whole.1)

pub spells_in_order : (most : ℕ) (text : List ℕ) (records : List (List (List ℕ))) (trace : Trace)
    → HasRecords text records → length records ≤ most
    → AreLines records (flat_map lines_of_commit trace.commits ++ flat_map lines_of_told trace.answers)
    → AllByRecursion (λ commit. IsWholeRequest (Refresh commit.actions)) trace.commits
    → SpellsTrace most text trace
spells_in_order most text records trace all few said whole = record {
  records = records;
  all = all;
  few = few;
  entries = in_order trace.commits trace.answers;
  spelled = subst (AreLines records) (lines-of trace.commits trace.answers) said;
  whole = All-from_recursion IsWholeEntry (in_order trace.commits trace.answers)
      (all-whole trace.commits trace.answers whole);
  commits = commits-of trace.commits trace.answers;
  answers = answers-of trace.commits trace.answers;
}
