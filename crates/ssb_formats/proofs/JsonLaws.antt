use Rattle.std.proofs.Common.{arith}
-- No answer and no reply has a float.
use Rattle.std.proofs.Common.{◌≡◌, ℕ, ℤ, pos, negsuc, Bool, true, false, List, [], ◌∷◌, ◌++◌, map, Option, Some, None}
use Rattle.std.proofs.Common.{Result, Ok, Err, refl, codes, if◌then◌else◌}
use Rattle.serde_json.specs.Data.{Data, put}
use Rattle.serde_json.specs.View.{items_of}
use Rattle.serde_json.specs.Written.{has_float, items_have_float, members_have_float}
use Rattle.row_store.specs.declared.commit.Receipt.{Receipt}
use Rattle.row_store.specs.declared.refusal.RefreshError.{RefreshError}
use Rattle.row_store.specs.declared.refusal.RefreshError.TheVariants.{Refused, OutOfMemory}
use Rattle.ssb_answers.specs.declared.answer.Answer.{Answer}
use Rattle.ssb_answers.specs.declared.answer.Answer.TheVariants.{Rows, Unserved}
use Rattle.ssb_answers.specs.declared.answer.ResultRow.{ResultRow}
use Rattle.ssb_formats.specs.JsonText.{answer_members, list_data, row_data, sum_data, text_data, value_data}
use Rattle.ssb_formats.specs.OrderJson.{cell_data as column_data, line_data, line_names, order_members}
use Rattle.ssb_formats.specs.OverviewShown.{overview_members}
use Rattle.ssb_formats.specs.ReplyJson.{answer_data, listing_members, refreshed_members}
use Rattle.ssb_formats.specs.Reports.{rows_members}
use Rattle.ssb_formats.specs.StatementText as statement
use Rattle.ssb_formats.specs.StatementText.{cell_data}
use Rattle.ssb_questions.specs.Query.{sum_first}
use Rattle.ssb_report.specs.OverviewText.{OverviewRecord}
use Rattle.ssb_report.specs.declared.order.ShownOrder.{ShownOrder}
use Rattle.ssb_report.specs.declared.order.ShownOrder.TheVariants as order
use Rattle.ssb_schema.specs.Columns as columns
use Rattle.ssb_schema.specs.Rows.{line_values}
use Rattle.ssb_schema.specs.declared.line.LineFields.{LineFields}
use Rattle.ssb_questions.specs.declared.query.Query.{Query}
use Rattle.ssb_questions.specs.declared.value.Value.{Value}
use Rattle.ssb_questions.specs.declared.value.Value.TheVariants as printed
use Rattle.ssb_statements.specs.Listing.{ListingRecord, RowsRecord}
use Rattle.ssb_statements.specs.Listing as listed
use Rattle.ssb_statements.specs.declared.cell.StatementCell.{StatementCell}
use Rattle.ssb_statements.specs.declared.cell.StatementCell.TheVariants.{Plain, Number, Decimal}

value_exact : (value : Value) → has_float (value_data value) ≡ false
value_exact (printed.Text text) = refl
value_exact (printed.Number n) = refl

sum_exact : (sum : Option ℤ) → has_float (sum_data sum) ≡ false
sum_exact None = refl
sum_exact (Some (pos n)) = refl
sum_exact (Some (negsuc n)) = refl

items_exact : {X : Type 0} (f : X → Data) (xs : List X) → ((x : X) → has_float (f x) ≡ false)
    → items_have_float (items_of (map f xs)) ≡ false
items_exact f [] each = refl
items_exact f (x ∷ xs) each = rw (each x) (items_exact f xs each)

more_exact : {X : Type 0} (f : X → Data) (xs : List X) (last : Data) → ((x : X) → has_float (f x) ≡ false)
    → has_float last ≡ false → items_have_float (items_of (map f xs ++ last ∷ [])) ≡ false
more_exact f [] last each is = rw is refl
more_exact f (x ∷ xs) last each is = rw (each x) (more_exact f xs last each is)

placed_exact : (first : Bool) (sum : Data) (values : List Value) → has_float sum ≡ false
    → items_have_float (items_of (if first then sum ∷ map value_data values else map value_data values ++ sum ∷ []))
    ≡ false
placed_exact true sum values is = rw is (items_exact value_data values value_exact)
placed_exact false sum values is = more_exact value_data values sum value_exact is

row_exact : (query : Query) (row : ResultRow) → has_float (row_data query row) ≡ false
row_exact query row = placed_exact (sum_first query) (sum_data row.sum) row.groups (sum_exact row.sum)

pub answer_exact : (answer : Answer) → members_have_float (answer_members answer) ≡ false
answer_exact (Rows question at rows) = grind (arith, items_exact, value_exact, row_exact)
answer_exact (Unserved question cause) = grind (arith, items_exact, value_exact)

cell_exact : (cell : StatementCell) → has_float (cell_data cell) ≡ false
cell_exact (Plain None) = refl
cell_exact (Plain (Some value)) = value_exact value
cell_exact (Number n) = sum_exact n
cell_exact (Decimal None) = refl
cell_exact (Decimal (Some n)) = refl

cells_exact : (row : List StatementCell) → has_float (statement.row_data row) ≡ false
cells_exact row = items_exact cell_data row cell_exact

text_exact : (text : List ℕ) → has_float (text_data text) ≡ false
text_exact text = refl

pub statement_exact : (at : ℕ) (heads : List (List ℕ)) (rows : List (List StatementCell))
    → members_have_float (statement.members at (statement.heads_data heads) (statement.rows_data rows)) ≡ false
statement_exact at heads rows =
    rw (items_exact text_data heads text_exact, items_exact statement.row_data rows cells_exact) refl

pub overview_exact : (overview : OverviewRecord) → members_have_float (overview_members overview) ≡ false
overview_exact overview =
    rw (items_exact text_data overview.heads text_exact, items_exact statement.row_data overview.rows cells_exact) refl

pub titled_rows_exact : (title : List ℕ) (rows : RowsRecord)
    → members_have_float (put (codes "title") (text_data title) (rows_members rows)) ≡ false
titled_rows_exact title rows = grind (arith, items_exact, text_exact, cells_exact)

pub titled_exact : (title : List ℕ) (answer : Answer)
    → members_have_float (put (codes "title") (text_data title) (answer_members answer)) ≡ false
titled_exact title (Rows question at rows) = grind (arith, items_exact, value_exact, row_exact)
titled_exact title (Unserved question cause) = grind (arith, items_exact, value_exact)

pub answers_exact : (answers : List Answer) → has_float (list_data (map answer_data answers)) ≡ false
answers_exact answers = items_exact answer_data answers answer_exact

pub refreshed_exact : (reply : Result Receipt RefreshError) → members_have_float (refreshed_members reply) ≡ false
refreshed_exact (Ok receipt) = refl
refreshed_exact (Err (Refused at action cause)) = refl
refreshed_exact (Err OutOfMemory) = refl

column_exact : (value : columns.Value) → has_float (column_data value) ≡ false
column_exact (columns.Number n) = refl
column_exact (columns.Text text) = refl

line_exact : (line : LineFields) → has_float (line_data line) ≡ false
line_exact line = items_exact column_data (line_values line) column_exact

pub order_exact : (order : ShownOrder) → members_have_float (order_members order) ≡ false
order_exact (order.Lines key at lines) =
    rw (items_exact text_data line_names text_exact, items_exact line_data lines line_exact) refl
order_exact (order.Unserved key) = refl

pub listing_exact : (listing : ListingRecord) → members_have_float (listing_members listing) ≡ false
listing_exact (listed.Rows rows) = statement_exact rows.at rows.heads rows.rows
listing_exact (listed.Unserved cause) = refl
