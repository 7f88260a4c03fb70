-- The report of a statement.
use Rattle.std.specs.Prelude.{ℕ, ℤ, pos, int_lt, unsigned_abs, ◌/◌, ◌%◌, if◌then◌else◌, List, [], ◌∷◌, ◌++◌, length, map}
use Rattle.std.specs.Prelude.{flat_map, codes, decimal, Option, Some, None}
use Rattle.std.specs.List.{concat}
use Rattle.ssb_report.specs.AnswerText.{unserved_by, value_text}
use Rattle.ssb_statements.specs.Listing.{ListingRecord, Rows, Unserved}
use Rattle.ssb_statements.specs.declared.cell.StatementCell.{StatementCell}
use Rattle.ssb_statements.specs.declared.cell.StatementCell.TheVariants.{Plain, Number, Decimal}
use Rattle.ssb_text.specs.Numbers.{line_feed, sum_text}

-- the four digits of a number below 10,000
abbrev pub digits_of : ℕ → List ℕ
digits_of n = concat
    (decimal (n / 1000) ∷ decimal (n / 100 % 10) ∷ decimal (n / 10 % 10) ∷ decimal (n % 10) ∷ [])

abbrev pub sign_of : ℤ → List ℕ
sign_of n = if int_lt n (pos 0) then codes "-" else codes ""

-- ten-thousandths in decimal, with all four digits behind the point; NULL where there are none
abbrev pub size_text : ℕ → List ℕ
size_text n = decimal (n / 10000) ++ codes "." ++ digits_of (n % 10000)

abbrev pub decimal_text : ℤ → List ℕ
decimal_text n = sign_of n ++ size_text (unsigned_abs n)

abbrev pub average_text : Option ℤ → List ℕ
average_text None = codes "NULL"
average_text (Some n) = decimal_text n

-- what a cell prints; a value that is not there prints nothing
abbrev pub cell_text : StatementCell → List ℕ
cell_text (Plain None) = []
cell_text (Plain (Some value)) = value_text value
cell_text (Number n) = sum_text n
cell_text (Decimal n) = average_text n

abbrev pub texts_of : List StatementCell → List (List ℕ)
texts_of row = map cell_text row

-- a cell behind a bar; cells with a bar between one and the next
abbrev pub cell_behind : StatementCell → List ℕ
cell_behind cell = 124 ∷ cell_text cell

abbrev pub cells_text : List StatementCell → List ℕ
cells_text [] = []
cells_text (first ∷ others) = cell_text first ++ flat_map cell_behind others

-- the line before the rows: after how many commits, and how many rows; and a line for each, its cells joined by |
abbrev pub report_head : ℕ → ℕ → List ℕ
report_head at count = concat (codes "sql at " ∷ decimal at ∷ codes " rows " ∷ decimal count ∷ line_feed ∷ [])

abbrev pub report_line : List StatementCell → List ℕ
report_line row = cells_text row ++ line_feed

abbrev pub report_text : ℕ → List (List StatementCell) → List ℕ
report_text at rows = report_head at (length rows) ++ flat_map report_line rows

-- the report of what is listed of a statement; where there are no rows, the line that says why
abbrev pub listing_text : ListingRecord → List ℕ
listing_text (Rows rows) = report_text rows.at rows.rows
listing_text (Unserved cause) = unserved_by (codes "sql") cause
