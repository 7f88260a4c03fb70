-- What is listed of a statement: its rows under their heads, or why there are none.
use Rattle.std.specs.Prelude.{◌≡◌, ◌⊎◌, ℕ, Bool, true, false, List, [], ◌∷◌, map, Option, None, Some, option_map}
use Rattle.std.specs.Prelude.{slice_get, unwrap_or}
use Rattle.ssb_schema.specs.declared.column.Column.{Column}
use Rattle.ssb_questions.specs.Clause.{kind_in}
use Rattle.ssb_questions.specs.declared.kind.ConstantKind.{ConstantKind}
use Rattle.ssb_questions.specs.declared.kind.ConstantKind.TheVariants as kind
use Rattle.ssb_answers.specs.Ordered.{in_order}
use Rattle.ssb_answers.specs.declared.answer.Answer.{Answer}
use Rattle.ssb_answers.specs.declared.answer.Answer.TheVariants as answer
use Rattle.ssb_answers.specs.declared.answer.Unserved.{Unserved as Cause}
use Rattle.ssb_answers.specs.declared.answer.Unserved.TheVariants.{OutOfMemory}
use Rattle.ssb_sql.specs.declared.statement.Shown.{Shown}
use Rattle.ssb_sql.specs.declared.statement.Shown.TheVariants.{Group, Sum, Count, Average}
use Rattle.ssb_sql.specs.declared.statement.Statement.{Statement}
use Rattle.ssb_statements.specs.Arranged.{AreArranged, at_most, cells_at, numbers_kept, row_cmp}
use Rattle.ssb_statements.specs.declared.cell.StatementCell.{StatementCell}
use Rattle.ssb_statements.specs.declared.listing.Listing.{Listing}
use Rattle.ssb_statements.specs.declared.listing.Listing.TheVariants as held
use Rattle.ssb_statements.specs.declared.listing.StatementRows.{StatementRows}

-- rows under their heads; which of the columns have numbers; and after how many commits the rows are so
pub record RowsRecord : Type 0 where
  pub heads : List (List ℕ)
  pub are_numbers : List Bool
  pub at : ℕ
  pub rows : List (List StatementCell)

abbrev pub rows_of : StatementRows → RowsRecord
rows_of rows = record {
  heads = rows.heads.items;
  are_numbers = rows.are_numbers.items;
  at = rows.at;
  rows = rows.rows.items;
}

-- the rows of a statement, or why there are none
pub data ListingRecord : Type 0 where
  Rows : RowsRecord → ListingRecord
  Unserved : Cause → ListingRecord

abbrev pub listing_of : Listing → ListingRecord
listing_of (held.Rows rows) = Rows (rows_of rows)
listing_of (held.Unserved cause) = Unserved cause

-- whether a printed column has numbers
abbrev pub takes_number : ConstantKind → Bool
takes_number kind.Number = true
takes_number (kind.Text column) = false

abbrev pub is_number : List Column → Shown → Bool
is_number groups (Group place) = unwrap_or (option_map (λ column. takes_number (kind_in column)) (slice_get groups place)) false
is_number groups (Sum place) = true
is_number groups (Count place) = true
is_number groups (Average sum lines) = true

-- rows are those of a statement, whose questions have these answers after so many commits
pub record HasRows (statement : Statement) (answers : List Answer) (at : ℕ) (rows : RowsRecord) : Type 0 where
  pub heads : rows.heads ≡ statement.heads.items
  pub are_numbers : rows.are_numbers ≡ map (is_number statement.groups.items) statement.shown.items
  pub at_is : rows.at ≡ at
  pub arranged : AreArranged answers statement.shown.items statement.having.items statement.order.items statement.limit
      rows.rows

-- the first cause for which one of these is left unanswered
abbrev pub cause_in : List Answer → Option Cause
cause_in [] = None
cause_in (answer.Rows question at rows ∷ answers) = cause_in answers
cause_in (answer.Unserved question cause ∷ answers) = Some cause

-- after how many commits the first of these is so
abbrev pub moment_of : List Answer → ℕ
moment_of [] = 0
moment_of (answer.Rows question at rows ∷ answers) = at
moment_of (answer.Unserved question cause ∷ answers) = 0

-- what may be listed of a statement whose questions have these answers: its rows, where all have theirs, unless memory
-- runs out; else the cause
abbrev pub IsListing : Statement → List Answer → ListingRecord → Type 0
IsListing statement answers (Rows rows) =
    (cause_in answers ≡ None) × HasRows statement answers (moment_of answers) rows
IsListing statement answers (Unserved cause) = (cause_in answers ≡ Some cause) ⊎ (cause ≡ OutOfMemory)

-- the rows of a statement, where memory does not run out
abbrev pub true_rows : Statement → List Answer → RowsRecord
true_rows statement answers = record {
  heads = statement.heads.items;
  are_numbers = map (is_number statement.groups.items) statement.shown.items;
  at = moment_of answers;
  rows = at_most statement.limit (map (cells_at answers statement.shown.items)
      (in_order (row_cmp answers statement.order.items) (numbers_kept answers statement.having.items)));
}

abbrev pub true_listing : Statement → List Answer → ListingRecord
true_listing statement answers = Rows (true_rows statement answers)
