-- The order in which the rows of a trace's answers are looked at, and what is found.
use Rattle.std.specs.Prelude.{◌≡◌, ℕ, ◌<◌, ◌≤◌, ◌⊎◌, Bool, true, false, List, length, take, map, slice_get, Some}
use Rattle.std.specs.List.{enumerate_from}
use Rattle.std.specs.Cmp.Lexicographic.{pointwise}
use Rattle.ssb_base.specs.Base.{Tables}
use Rattle.ssb_questions.specs.declared.query.Query.{Query}
use Rattle.ssb_questions.specs.declared.value.Value.{Value}
use Rattle.ssb_answers.specs.AnswerEq.{row_eq}
use Rattle.ssb_answers.specs.declared.answer.ResultRow.{ResultRow}
use Rattle.ssb_answers.specs.declared.answer.Rows.{Rows}
use Rattle.row_store.specs.History.{CommitRecord}
use Rattle.ssb_audit.specs.Traces.{rows_after}
use Rattle.ssb_audit.specs.declared.trace.Told.{Told}
use Rattle.ssb_audit.specs.declared.visits.Visit.{Visit}

-- a visit to each answer, in the trace's order
abbrev pub visits_of : List Told → List Visit
visits_of answers = map (λ entry. record { at = entry.1.at; place = entry.0 }) (enumerate_from 0 answers)

-- a visit is to an answer of these, after its number of commits
pub record IsIn (answers : List Told) (visit : Visit) : Type 0 where
  pub told : Told
  pub there : slice_get answers visit.place ≡ Some told
  pub at_is : visit.at ≡ told.at

-- the questions of the answers that are visited
pub record AreAsked (answers : List Told) (visits : List Visit) (questions : List (Query × List Value)) : Type 0 where
  pub len : length questions ≡ length visits
  pub each : (k : ℕ) (visit : Visit) (told : Told) → slice_get visits k ≡ Some visit
      → slice_get answers visit.place ≡ Some told
      → slice_get questions k ≡ Some told.question

-- whether an answer has these rows
abbrev pub has_rows : Told → List ResultRow → Bool
has_rows told rows = pointwise row_eq told.rows rows

-- whether an answer has the rows of its question after its number of commits
abbrev pub has_its_rows : Tables → List CommitRecord → Told → Bool
has_its_rows base commits told = has_rows told (rows_after base (take told.at commits) told)

-- of the answers that are visited, and rows found for each, one differs, and stands at the place
pub record IsOther (answers : List Told) (visits : List Visit) (found : List Rows) (place : ℕ) : Type 0 where
  pub k : ℕ
  pub visit : Visit
  pub told : Told
  pub rows : Rows
  pub visited : slice_get visits k ≡ Some visit
  pub place_is : place ≡ visit.place
  pub there : slice_get answers visit.place ≡ Some told
  pub found_is : slice_get found k ≡ Some rows
  pub other : has_rows told rows.list ≡ false

-- of the first answers that are visited, and rows found for each, place is the first before the limit where they
-- differ, or
-- the limit
pub record IsFirstOther (answers : List Told) (visits : List Visit) (found : List Rows) (count limit place : ℕ) :
    Type 0 where
  pub at_most : place ≤ limit
  pub same : (k : ℕ) (visit : Visit) (told : Told) (rows : Rows) → k < count → slice_get visits k ≡ Some visit
      → slice_get answers visit.place ≡ Some told
      → slice_get found k ≡ Some rows → visit.place < place → has_rows told rows.list ≡ true
  pub other : (place ≡ limit) ⊎ IsOther answers visits found place

-- of the answers that are visited, after some history, one has not its question's rows, and stands at the place
pub record IsWrongOf (base : Tables) (history : List CommitRecord) (answers : List Told) (visits : List Visit)
    (place : ℕ) : Type 0 where
  pub k : ℕ
  pub visit : Visit
  pub told : Told
  pub visited : slice_get visits k ≡ Some visit
  pub place_is : place ≡ visit.place
  pub there : slice_get answers visit.place ≡ Some told
  pub wrong : has_rows told (rows_after base history told) ≡ false

-- of the answers that are visited, after some history, place is the first before the limit that has not its question's
-- rows, or
-- the limit
pub record IsFirstWrongOf (base : Tables) (history : List CommitRecord) (answers : List Told) (visits : List Visit)
    (limit place : ℕ) : Type 0 where
  pub at_most : place ≤ limit
  pub right : (k : ℕ) (visit : Visit) (told : Told) → slice_get visits k ≡ Some visit
      → slice_get answers visit.place ≡ Some told
      → visit.place < place → has_rows told (rows_after base history told) ≡ true
  pub wrong : (place ≡ limit) ⊎ IsWrongOf base history answers visits place

-- the answers before the place have their rows, and the one at the place, if there is one, has not
pub record IsFirstWrong (base : Tables) (commits : List CommitRecord) (answers : List Told) (place : ℕ) : Type 0 where
  pub right : (i : ℕ) (told : Told) → i < place → slice_get answers i ≡ Some told
      → has_its_rows base commits told ≡ true
  pub wrong : (told : Told) → slice_get answers place ≡ Some told → has_its_rows base commits told ≡ false
