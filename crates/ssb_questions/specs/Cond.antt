-- The tests of a column.
use Rattle.std.specs.Prelude.{Bool, true, false, not, ◌&&◌, nat_eq, nat_le}
use Rattle.std.specs.List.{list_any}
use Rattle.ssb_questions.specs.Text.{text_eq, text_le}
use Rattle.ssb_questions.specs.declared.value.Value.{Value}
use Rattle.ssb_questions.specs.declared.value.Value.TheVariants as value
use Rattle.ssb_questions.specs.declared.cond.ColumnValue.{ColumnValue}
use Rattle.ssb_questions.specs.declared.cond.ColumnValue.TheVariants as column
use Rattle.ssb_questions.specs.declared.cond.Cond.{Cond}
use Rattle.ssb_questions.specs.declared.cond.Cond.TheVariants.{TextIs, TextFromTo, TextOneOf, NumberIs, NumberFromTo}
use Rattle.ssb_questions.specs.declared.cond.Cond.TheVariants.{NumberOneOf, TextNoneOf, NumberNoneOf}

-- the value that a row has there
abbrev pub column_value : ColumnValue → Value
column_value (column.Text text) = value.Text text.now
column_value (column.Number number) = value.Number number

-- whether a value passes; a number is none of any texts, else a test of texts holds of no number; so it is of numbers
abbrev pub holds : Cond → Value → Bool
holds (TextIs text) (value.Text v) = text_eq v text
holds (TextFromTo from to) (value.Text v) = text_le from v && text_le v to
holds (TextOneOf texts) (value.Text v) = list_any (λ text. text_eq text v) texts
holds (NumberIs number) (value.Number v) = nat_eq v number
holds (NumberFromTo from to) (value.Number v) = nat_le from v && nat_le v to
holds (NumberOneOf numbers) (value.Number v) = list_any (λ number. nat_eq number v) numbers
holds (TextNoneOf texts) (value.Text v) = not (list_any (λ text. text_eq text v) texts)
holds (TextNoneOf texts) (value.Number v) = true
holds (NumberNoneOf numbers) (value.Number v) = not (list_any (λ number. nat_eq number v) numbers)
holds (NumberNoneOf numbers) (value.Text v) = true
holds _ _ = false
