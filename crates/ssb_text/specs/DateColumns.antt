-- The columns of a date in two parts, which are read one after the other.
use Rattle.std.specs.Prelude.{List, [], ◌∷◌}
use Rattle.ssb_schema.specs.Columns.{Value, Number, Text, amount, key, text}
use Rattle.ssb_schema.specs.declared.kind.Kind.{Kind}
use Rattle.ssb_text.specs.declared.date.FirstColumns.{FirstColumns}
use Rattle.ssb_text.specs.declared.date.LastColumns.{LastColumns}

abbrev pub first_kinds : List Kind
first_kinds = key ∷ text ∷ text ∷ text ∷ amount ∷ amount ∷ text ∷ []

abbrev pub last_kinds : List Kind
last_kinds = text ∷ text ∷ text ∷ text ∷ amount ∷ text ∷ text ∷ text ∷ text ∷ text ∷ []

abbrev pub first_values : FirstColumns → List Value
first_values row = Number row.key ∷ Text row.date_text ∷ Text row.day_of_week ∷ Text row.month ∷ Number row.year ∷ Number
    row.year_month_number ∷ Text row.year_month ∷ []

abbrev pub last_values : LastColumns → List Value
last_values row =
    Text row.day_in_week ∷ Text row.day_in_month ∷ Text row.day_in_year ∷ Text row.month_in_year ∷ Number row.week ∷ Text row.selling_season ∷ Text
    row.last_day_in_week_flag ∷ Text row.last_day_in_month_flag ∷ Text row.holiday_flag ∷ Text row.weekday_flag ∷ []
