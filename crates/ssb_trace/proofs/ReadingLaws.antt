-- What is known of a trace's text while it is read.
use Rattle.std.proofs.Common.{◌≡◌, ℕ, ◌+◌, ◌<◌, ◌≤◌, true, false, List, [], ◌∷◌, ◌++◌, Option, Some, Result, Ok, Err}
use Rattle.std.proofs.Common.{length, refl, sym, ap, ◌∙◌, subst, inl, inr, arith}
use Rattle.std.proofs.lemmas.List.Elements.{All-append, All-nil}
use Rattle.std.specs.Result.{IfOk, IfErr}
use Rattle.std.proofs.lemmas.Bool.{le-ltb, lt-ltb}
use Rattle.std.proofs.lemmas.List.{append_assoc, append-nil, length_push}
use Rattle.std.proofs.lemmas.Grind.{flat_map-append}
use Rattle.csv.specs.declared.reader.Reader.{Reader}
use Rattle.row_store.specs.History.{CommitRecord}
use Rattle.ssb_audit.specs.declared.trace.Told.{Told}
use Rattle.ssb_audit.specs.declared.trace.Trace.{Trace}
use Rattle.ssb_text.specs.Records.{GivesNext, HasGiven}
use Rattle.ssb_text.specs.declared.records.ReadError.TheVariants as read
use Rattle.ssb_script.specs.Scripts.{first_of}
use Rattle.ssb_script.specs.Steps.{IsFoundBy}
use Rattle.ssb_script.specs.declared.error.ScriptError.{ScriptError}
use Rattle.ssb_script.specs.declared.error.ScriptError.TheVariants as error
use Rattle.ssb_trace.specs.Entries.{IsWholeEntry, answer_in, answers_in, commit_in, commits_in, lines_of_entry}
use Rattle.ssb_trace.specs.Entries.{lines_of_entries, lines_of_unfinished}
use Rattle.ssb_trace.specs.Lines.{TraceLine, AreLines, Says, word_of}
use Rattle.ssb_trace.specs.Steps.{Follows, TakesRecord, ended}
use Rattle.ssb_trace.specs.Traces.{EndsInBlock, IsBegun, IsFirstFault, IsTraceFault, Spells, SpellsTrace, checks_after}
use Rattle.ssb_trace.specs.Traces.{fault_of}
use Rattle.ssb_trace.specs.declared.entry.TraceEntry.{TraceEntry}
use Rattle.ssb_trace.specs.declared.unfinished.TraceStep.{TraceStep}
use Rattle.ssb_trace.specs.declared.unfinished.Unfinished.{Unfinished}
use Rattle.ssb_trace.specs.declared.unfinished.Unfinished.TheVariants.{Nothing}

-- so many records that a reader has given of a text spell these commits and answers, and what is begun
pub record HasRead {R : Type 0} (remaining : R → Option (List ℕ)) (text : List ℕ) (reader : Reader R) (count : ℕ)
    (commits : List CommitRecord) (answers : List Told) (begun : Unfinished) : Type 0 where
  pub records : List (List (List ℕ))
  pub given : HasGiven remaining text reader records
  pub many : length records ≡ count
  pub entries : List TraceEntry
  pub spells : Spells records entries begun
  pub commits_are : commits_in entries ≡ commits
  pub answers_are : answers_in entries ≡ answers

-- the same, of whatever text is known
abbrev pub HasReadKnown : {R : Type 0} → (R → Option (List ℕ)) → Option (List ℕ) → Reader R → ℕ → List CommitRecord
    → List Told → Unfinished → Type 0
HasReadKnown remaining known reader count commits answers begun =
    (text : List ℕ) → known ≡ Some text → HasRead remaining text reader count commits answers begun

-- at the start nothing was read
pub read_nothing : {R : Type 0} (remaining : R → Option (List ℕ)) (text : List ℕ) (reader : Reader R)
    → HasGiven remaining text reader [] → HasRead remaining text reader 0 [] [] Nothing
read_nothing remaining text reader given = record {
  records = [];
  given = given;
  many = refl;
  entries = [];
  spells = record { spelled = tt; whole = All-nil IsWholeEntry; unfinished = tt };
  commits_are = refl;
  answers_are = refl;
}

-- the line of one record more
are_more : (records : List (List (List ℕ))) (lines : List TraceLine) (fields : List (List ℕ)) (line : TraceLine)
    → AreLines records lines → Says fields line → AreLines (records ++ fields ∷ []) (lines ++ line ∷ [])
are_more [] [] fields line are says = (says, tt)
are_more [] (l ∷ lines) fields line are says = absurd are
are_more (r ∷ records) [] fields line are says = absurd are
are_more (r ∷ records) (l ∷ lines) fields line are says = (are.0, are_more records lines fields line are.1 says)

lines_more : (entries more : List TraceEntry) (begun next line : List TraceLine) → begun ++ line ≡ lines_of_entries more
    ++ next → (lines_of_entries entries ++ begun) ++ line ≡ lines_of_entries (entries ++ more) ++ next
lines_more entries more begun next line e =
    append_assoc (lines_of_entries entries) begun line
    ∙ (ap (λ rest. lines_of_entries entries ++ rest) e
    ∙ (sym (append_assoc (lines_of_entries entries) (lines_of_entries more) next)
    ∙ ap (λ lines. lines ++ next) (sym (flat_map-append lines_of_entry entries more))))

spells_more : (records : List (List (List ℕ))) (entries : List TraceEntry) (old : Unfinished) (fields : List (List ℕ))
    (line : TraceLine) (step : TraceStep)
    → Spells records entries old → Says fields line → Follows (length records + 1) old line step
    → Spells (records ++ fields ∷ []) (entries ++ ended step) step.unfinished
spells_more records entries old fields line step so_far says follows = record {
  spelled = subst (AreLines (records ++ fields ∷ [])) (lines_more entries (ended step) (lines_of_unfinished old)
      (lines_of_unfinished step.unfinished) (line ∷ []) follows.lines)
      (are_more records (lines_of_entries entries ++ lines_of_unfinished old) fields line so_far.spelled says);
  whole = All-append IsWholeEntry entries (ended step) so_far.whole follows.whole;
  unfinished = rw (length_push records fields) follows.unfinished;
}

-- one more record was read
pub read_more : {R : Type 0} (remaining : R → Option (List ℕ)) (text : List ℕ) (old new : Reader R) (count : ℕ)
    (commits : List CommitRecord) (answers : List Told) (begun : Unfinished) (fields : List (List ℕ)) (step : TraceStep)
    → HasRead remaining text old count commits answers begun → GivesNext remaining old new true fields
    → TakesRecord (count + 1) begun (word_of fields) fields step
    → HasRead remaining text new (count + 1) (commits ++ commits_in (ended step)) (answers ++ answers_in (ended step))
    step.unfinished
read_more remaining text old new count commits answers begun fields step so_far next takes = record {
  records = so_far.records ++ fields ∷ [];
  given = next text so_far.records so_far.given;
  many = length_push so_far.records fields ∙ ap (λ n. n + 1) so_far.many;
  entries = so_far.entries ++ ended step;
  spells = spells_more so_far.records so_far.entries begun fields takes.0 step so_far.spells takes.1
      (rw so_far.many takes.2);
  commits_are = flat_map-append commit_in so_far.entries (ended step)
      ∙ ap (λ before. before ++ commits_in (ended step)) so_far.commits_are;
  answers_are = flat_map-append answer_in so_far.entries (ended step)
      ∙ ap (λ before. before ++ answers_in (ended step)) so_far.answers_are;
}

-- there was no more record, and nothing is begun
read_all : {R : Type 0} (remaining : R → Option (List ℕ)) (most : ℕ) (text : List ℕ) (old new : Reader R) (count : ℕ)
    (commits : List CommitRecord) (answers : List Told) (fields : List (List ℕ))
    → HasRead remaining text old count commits answers Nothing → GivesNext remaining old new false fields → count ≤ most
    → SpellsTrace most text (record { commits = commits; answers = answers })
read_all remaining most text old new count commits answers fields so_far next few = record {
  records = so_far.records;
  all = next text so_far.records so_far.given;
  few = rw so_far.many few;
  entries = so_far.entries;
  spelled = subst (AreLines so_far.records) (append-nil (lines_of_entries so_far.entries)) so_far.spells.spelled;
  whole = so_far.spells.whole;
  commits = so_far.commits_are;
  answers = so_far.answers_are;
}

-- there was no more record, and something is begun
ends_inside : {R : Type 0} (remaining : R → Option (List ℕ)) (most : ℕ) (text : List ℕ) (old new : Reader R) (count : ℕ)
    (commits : List CommitRecord) (answers : List Told) (begun : Unfinished) (fields : List (List ℕ))
    → HasRead remaining text old count commits answers begun → GivesNext remaining old new false fields → count ≤ most
    → IsBegun begun → EndsInBlock most text
ends_inside remaining most text old new count commits answers begun fields so_far next few inside = record {
  records = so_far.records;
  all = next text so_far.records so_far.given;
  few = rw so_far.many few;
  entries = so_far.entries;
  begun = begun;
  spells = so_far.spells;
  inside = inside;
}

-- one more record was read, and it has a fault
first_fault : {R : Type 0} (remaining : R → Option (List ℕ)) (most : ℕ) (text : List ℕ) (old new : Reader R) (count : ℕ)
    (commits : List CommitRecord) (answers : List Told) (begun : Unfinished) (fields : List (List ℕ)) (e : ScriptError)
    → HasRead remaining text old count commits answers begun → GivesNext remaining old new true fields → count ≤ most
    → fault_of most (count + 1) begun fields ≡ Some e → IsFirstFault most text e
first_fault remaining most text old new count commits answers begun fields e so_far next few bad =
    let given = next text so_far.records so_far.given in
    record {
      before = so_far.records;
      fields = fields;
      begins = (_, given.unread, given.reached);
      few = rw so_far.many few;
      entries = so_far.entries;
      begun = begun;
      spells = so_far.spells;
      is = rw so_far.many bad;
    }

-- past the bound no record is read; within it, the other checks decide
past_bound : (most number : ℕ) (b : Unfinished) (fields : List (List ℕ)) → most < number
    → fault_of most number b fields ≡ Some error.TooLong
past_bound most number b fields past = rw (lt-ltb most number past) refl

within_bound : (most number : ℕ) (b : Unfinished) (fields : List (List ℕ)) → number ≤ most
    → fault_of most number b fields ≡ first_of (checks_after number b (word_of fields) fields)
within_bound most number b fields few = rw (le-ltb most number few) refl

-- what an error tells, where the other checks found it
pub found_fault : {R : Type 0} (remaining : R → Option (List ℕ)) (most : ℕ) (known : Option (List ℕ))
    (old new : Reader R) (count : ℕ) (commits : List CommitRecord) (answers : List Told) (begun : Unfinished)
    (fields : List (List ℕ)) (e : ScriptError)
    → HasReadKnown remaining known old count commits answers begun → GivesNext remaining old new true fields
    → count < most
    → IsFoundBy (checks_after (count + 1) begun (word_of fields) fields) e
    → (text : List ℕ) → known ≡ Some text → IsTraceFault most text e
found_fault remaining most known old new count commits answers begun fields e so_far next few (inl memory) text is =
    inr (inl memory)
found_fault remaining most known old new count commits answers begun fields e so_far next few (inr found) text is =
    inr (inr (inl (first_fault remaining most text old new count commits answers begun fields e (so_far text is) next
    (omega arith) (within_bound most (count + 1) begun fields (omega arith) ∙ found))))

-- what an error tells past the bound
pub too_long_fault : {R : Type 0} (remaining : R → Option (List ℕ)) (most : ℕ) (known : Option (List ℕ))
    (old new : Reader R) (count : ℕ) (commits : List CommitRecord) (answers : List Told) (begun : Unfinished)
    (fields : List (List ℕ))
    → HasReadKnown remaining known old count commits answers begun → GivesNext remaining old new true fields
    → count ≤ most → most < count + 1
    → (text : List ℕ) → known ≡ Some text → IsTraceFault most text error.TooLong
too_long_fault remaining most known old new count commits answers begun fields so_far next few past text is =
    inr (inr (inl (first_fault remaining most text old new count commits answers begun fields error.TooLong
    (so_far text is) next few (past_bound most (count + 1) begun fields past))))

-- what the reading gives where there is no more record
pub read_trace_all : {R : Type 0} (remaining : R → Option (List ℕ)) (most : ℕ) (known : Option (List ℕ))
    (old new : Reader R) (count : ℕ) (commits : List CommitRecord) (answers : List Told) (begun : Unfinished)
    (fields : List (List ℕ)) (result : Result Trace ScriptError)
    → HasReadKnown remaining known old count commits answers begun → GivesNext remaining old new false fields
    → count ≤ most
    → IfOk result (λ trace. (begun ≡ Nothing) × (trace ≡ record { commits = commits; answers = answers }))
    → IfOk result (λ trace. (text : List ℕ) → known ≡ Some text → SpellsTrace most text trace)
read_trace_all remaining most known old new count commits answers begun fields (Ok trace) so_far next few made =
    λ text is.
    rw made.1 (read_all remaining most text old new count commits answers fields (rw made.0 at (so_far text is)) next
    few)
read_trace_all remaining most known old new count commits answers begun fields (Err e) so_far next few made = tt

pub read_trace_ends : {R : Type 0} (remaining : R → Option (List ℕ)) (most : ℕ) (known : Option (List ℕ))
    (old new : Reader R) (count : ℕ) (commits : List CommitRecord) (answers : List Told) (begun : Unfinished)
    (fields : List (List ℕ)) (result : Result Trace ScriptError)
    → HasReadKnown remaining known old count commits answers begun → GivesNext remaining old new false fields
    → count ≤ most
    → IfErr result (λ e. (e ≡ error.NoCommit) × IsBegun begun)
    → IfErr result (λ e. (text : List ℕ) → known ≡ Some text → IsTraceFault most text e)
read_trace_ends remaining most known old new count commits answers begun fields (Ok trace) so_far next few told = tt
read_trace_ends remaining most known old new count commits answers begun fields (Err e) so_far next few told =
    λ text is.
    inr (inr (inr (
      told.0,
      ends_inside remaining most text old new count commits answers begun fields (so_far text is)
          next few told.1,
    )))
