-- What a client looks up beside its answers: the columns that questions read, the values of one, the server's figures.
use Rattle.std.specs.Prelude.{◌≡◌, ℕ, pos, ◌+◌, ◌-◌, ◌^◌, min, true, false, List, [], ◌∷◌, ◌++◌, map, take, length, codes, Some}
use Rattle.dimension_index.specs.Values.{values_of}
use Rattle.server_figures.specs.declared.figures.Figures.{Figures}
use Rattle.server_figures.specs.declared.refused.Refused.{Refused}
use Rattle.ssb_answers.specs.Ordered.{in_order}
use Rattle.ssb_base.specs.Base.{Tables}
use Rattle.ssb_base.specs.Limits.{most_lines}
use Rattle.ssb_questions.specs.Clause.{kind_in}
use Rattle.ssb_questions.specs.Value.{value_cmp}
use Rattle.ssb_questions.specs.declared.kind.ConstantKind.{ConstantKind}
use Rattle.ssb_questions.specs.declared.kind.ConstantKind.TheVariants as kind
use Rattle.ssb_questions.specs.declared.value.Value.{Value}
use Rattle.ssb_questions.specs.declared.value.Value.TheVariants.{Text}
use Rattle.ssb_report.specs.OverviewText.{OverviewRecord}
use Rattle.ssb_schema.specs.Columns.{column_name, query_columns, table_name}
use Rattle.ssb_schema.specs.declared.column.Column.{Column}
use Rattle.ssb_statements.specs.Listing.{takes_number}
use Rattle.ssb_statements.specs.declared.cell.StatementCell.{StatementCell}
use Rattle.ssb_statements.specs.declared.cell.StatementCell.TheVariants.{Plain, Number}
use Rattle.stream_sessions.specs.declared.lookup.Lookup.{Lookup}
use Rattle.stream_sessions.specs.declared.lookup.Lookup.TheVariants.{Columns, Values, Status}
use Rattle.stream_sessions.specs.declared.past.Past.{Past}

abbrev pub text_cell : List ℕ → StatementCell
text_cell text = Plain (Some (Text text))

-- what a column takes, in a word
abbrev pub kind_word : ConstantKind → List ℕ
kind_word kind.Number = codes "number"
kind_word (kind.Text column) = codes "text"

-- a column that questions read, its table, and what it takes
abbrev pub column_row : Column → List StatementCell
column_row column =
    text_cell (column_name column) ∷ text_cell (table_name column.table) ∷ text_cell (kind_word (kind_in column)) ∷ []

abbrev pub columns_overview : OverviewRecord
columns_overview = record {
  name = codes "columns";
  heads = codes "column" ∷ codes "table" ∷ codes "takes" ∷ [];
  are_numbers = false ∷ false ∷ false ∷ [];
  rows = map column_row query_columns;
  count = length query_columns;
}

-- the most values of a column that are shown
unfoldable pub most_values : ℕ
most_values = 10000

-- the values that the rows of its dimension have in a column, each once, in order
abbrev pub distinct_values : Tables → Column → List Value
distinct_values base column = in_order value_cmp (values_of base column)

abbrev pub value_row : Value → List StatementCell
value_row value = Plain (Some value) ∷ []

-- the first of these values, and how many there are
abbrev pub values_overview : Column → List Value → OverviewRecord
values_overview column values = record {
  name = codes "values " ++ column_name column;
  heads = column_name column ∷ [];
  are_numbers = takes_number (kind_in column) ∷ [];
  rows = map value_row (take most_values values);
  count = length values;
}

-- a number of a status; one above 2^63 - 1 is told as that
abbrev pub amount_cell : ℕ → StatementCell
amount_cell amount = Number (Some (pos (min amount 9223372036854775807)))

-- a figure, with its name
abbrev pub amount_row : List ℕ → ℕ → List StatementCell
amount_row name amount = text_cell name ∷ amount_cell amount ∷ []

-- refusals, by their cause
abbrev pub refused_rows : Refused → List (List StatementCell)
refused_rows refused =
    amount_row (codes "40 LogFull") refused.log_full
    ∷ amount_row (codes "41 Present") refused.present
    ∷ amount_row (codes "42 UnknownCustomer") refused.unknown_customer
    ∷ amount_row (codes "43 UnknownSupplier") refused.unknown_supplier
    ∷ amount_row (codes "44 UnknownPart") refused.unknown_part
    ∷ amount_row (codes "45 UnknownDate") refused.unknown_date
    ∷ amount_row (codes "46 LinesFull") refused.lines_full
    ∷ amount_row (codes "47 Absent") refused.absent
    ∷ amount_row (codes "48 AmendAbsent") refused.amend_absent ∷ []

-- commits in all, where so many came before, as far as 64 bits count them
abbrev pub all_commits : ℕ → Figures → ℕ
all_commits past figures = min (past + figures.commits) (2 ^ 64 - 1)

-- what the server has done, with so many commits
abbrev pub done_rows : ℕ → Figures → List (List StatementCell)
done_rows commits figures =
    amount_row (codes "commits") commits
    ∷ amount_row (codes "live lines") figures.lines
    ∷ amount_row (codes "most live lines") most_lines
    ∷ amount_row (codes "sessions") figures.sessions
    ∷ amount_row (codes "broken sessions") figures.broken
    ∷ amount_row (codes "batches") figures.batches
    ∷ amount_row (codes "answers") figures.answers
    ∷ amount_row (codes "answers from totals") figures.by_totals
    ∷ amount_row (codes "refused") figures.refusals ∷ []

abbrev pub status_rows : ℕ → Figures → List (List StatementCell)
status_rows commits figures = done_rows commits figures ++ refused_rows figures.refused

abbrev pub status_overview : ℕ → Figures → OverviewRecord
status_overview past figures = record {
  name = codes "status";
  heads = codes "figure" ∷ codes "amount" ∷ [];
  are_numbers = false ∷ true ∷ [];
  rows = status_rows (all_commits past figures) figures;
  count = length (status_rows (all_commits past figures) figures);
}

-- what may be shown of what is looked up, over a base, where so many commits came before: of a status any figures
abbrev pub IsOverview : Tables → Past → Lookup → OverviewRecord → Type 0
IsOverview base past Columns overview = overview ≡ columns_overview
IsOverview base past (Values column) overview = overview ≡ values_overview column (distinct_values base column)
IsOverview base past Status overview = (figures : Figures) × (overview ≡ status_overview past.commits figures)
