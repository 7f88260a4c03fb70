-- What one constant of a star question says.
use Rattle.std.specs.Prelude.{ℕ, ◌^◌, List, [], ◌∷◌, length, drop, codes, find, nat_eq, nat_le, nat_lt, Option, None}
use Rattle.std.specs.Prelude.{Some}
use Rattle.std.specs.Prelude.{option_map, option_and_then, if◌then◌else◌}
use Rattle.std.specs.List.{starts_with}
use Rattle.std.specs.Option.{option_or}
use Rattle.ssb_schema.specs.Columns.{column_kind, column_name, query_columns}
use Rattle.ssb_schema.specs.Numerals.{number_of}
use Rattle.ssb_schema.specs.declared.column.Column.{Column}
use Rattle.ssb_schema.specs.declared.kind.Kind.{Kind}
use Rattle.ssb_schema.specs.declared.kind.Kind.TheVariants as takes
use Rattle.ssb_questions.specs.Kind.{fits}
use Rattle.ssb_questions.specs.Text.{text_eq}
use Rattle.ssb_questions.specs.declared.kind.ConstantKind.{ConstantKind}
use Rattle.ssb_questions.specs.declared.kind.ConstantKind.TheVariants as kind
use Rattle.ssb_questions.specs.declared.plan.Measure.{Measure}
use Rattle.ssb_questions.specs.declared.plan.Measure.TheVariants as measure
use Rattle.ssb_questions.specs.declared.plan.NumberRange.{NumberRange}
use Rattle.ssb_questions.specs.declared.value.Value.{Value}
use Rattle.ssb_questions.specs.declared.value.Value.TheVariants as value

-- a measure is summed; a column is a group column; a column has a value; it has not; it lies between two values, both
-- included; the quantity, or the discount, of the line lies in a range; rows stand from the greatest sum down
pub data Clause : Type 0 where
  Sums : Measure → Clause
  GroupsBy : Column → Clause
  Is : Column → Value → Clause
  IsNot : Column → Value → Clause
  FromTo : Column → Value → Value → Clause
  QuantityIn : NumberRange → Clause
  DiscountIn : NumberRange → Clause
  BySum : Clause

-- the text before the first place where a mark stands, and the text behind the mark; none where it stands nowhere
unfoldable pub parted : List ℕ → List ℕ → Option (List ℕ × List ℕ)
parted mark [] = None
parted mark (b ∷ rest) =
    if starts_with nat_eq (b ∷ rest) mark then Some ([], drop (length mark) (b ∷ rest))
    else option_map (λ parts. (b ∷ parts.0, parts.1)) (parted mark rest)

-- how each measure is spelled
abbrev pub measure_name : Measure → List ℕ
measure_name measure.Revenue = codes "LO_REVENUE"
measure_name measure.Profit = codes "LO_REVENUE-LO_SUPPLYCOST"
measure_name measure.PriceTimesDiscount = codes "LO_EXTENDEDPRICE*LO_DISCOUNT"
measure_name measure.Quantity = codes "LO_QUANTITY"
measure_name measure.ExtendedPrice = codes "LO_EXTENDEDPRICE"
measure_name measure.SupplyCost = codes "LO_SUPPLYCOST"
measure_name measure.Lines = codes "COUNT"

abbrev pub measures : List Measure
measures =
    measure.Revenue ∷ measure.Profit ∷ measure.PriceTimesDiscount ∷ measure.Quantity ∷ measure.ExtendedPrice
    ∷ measure.SupplyCost ∷ measure.Lines ∷ []

abbrev pub measure_named : List ℕ → Option Measure
measure_named word = find (λ m. text_eq (measure_name m) word) measures

-- the column of a dimension that has the name, of those that queries read
abbrev pub column_named : List ℕ → Option Column
column_named word = find (λ column. text_eq (column_name column) word) query_columns

-- the number of 32 bits that bytes spell
abbrev pub number_spelled : List ℕ → Option ℕ
number_spelled bytes = option_and_then (λ n. if nat_lt n (2 ^ 32) then Some n else None) (number_of bytes)

-- the number up to a greatest one that bytes spell
abbrev pub number_up_to : ℕ → List ℕ → Option ℕ
number_up_to most bytes = option_and_then (λ n. if nat_le n most then Some n else None) (number_of bytes)

-- the greatest number that a column takes; 0 where it takes texts
abbrev pub most_where : Option Kind → ℕ
most_where (Some (takes.Number least most)) = most
most_where (Some takes.Text) = 0
most_where None = 0

abbrev pub most_in : Column → ℕ
most_in column = most_where (column_kind column)

-- what may be looked for in a column: numbers where it takes numbers, else texts that it could hold
abbrev pub kind_where : Column → Option Kind → ConstantKind
kind_where column (Some (takes.Number least most)) = kind.Number
kind_where column (Some takes.Text) = kind.Text column
kind_where column None = kind.Text column

abbrev pub kind_in : Column → ConstantKind
kind_in column = kind_where column (column_kind column)

-- the value that bytes spell: a text that a column could hold, or a number up to a greatest one
abbrev pub spelled_as : ConstantKind → ℕ → List ℕ → Option Value
spelled_as (kind.Text column) most bytes =
    if fits (kind.Text column) (value.Text bytes) then Some (value.Text bytes) else None
spelled_as kind.Number most bytes = option_map value.Number (number_up_to most bytes)

-- the value of a column that bytes spell, if the column could hold it
abbrev pub value_for : Column → List ℕ → Option Value
value_for column bytes = spelled_as (kind_in column) (most_in column) bytes

-- the numbers from one to another, or one number alone
abbrev pub range_of : List ℕ → Option (List ℕ × List ℕ) → Option NumberRange
range_of bytes None = option_map (λ n. record { from = n; to = n }) (number_spelled bytes)
range_of bytes (Some ends) =
    option_and_then (λ from. option_map (λ to. record { from = from; to = to }) (number_spelled ends.1))
    (number_spelled ends.0)

abbrev pub range_spelled : List ℕ → Option NumberRange
range_spelled bytes = range_of bytes (parted (codes "..") bytes)

-- what is said of a column: a value, or the first and the last of its values
abbrev pub column_test : Column → List ℕ → Option (List ℕ × List ℕ) → Option Clause
column_test column bytes None = option_map (Is column) (value_for column bytes)
column_test column bytes (Some ends) =
    option_and_then (λ from. option_map (FromTo column from) (value_for column ends.1)) (value_for column ends.0)

abbrev pub column_clause : List ℕ → List ℕ → Option Clause
column_clause name bytes =
    option_and_then (λ column. column_test column bytes (parted (codes "..") bytes)) (column_named name)

-- NAME=VALUE
abbrev pub test_clause : List ℕ → List ℕ → Option Clause
test_clause name bytes =
    if text_eq name (codes "LO_QUANTITY") then option_map QuantityIn (range_spelled bytes)
    else if text_eq name (codes "LO_DISCOUNT") then option_map DiscountIn (range_spelled bytes)
    else column_clause name bytes

-- what a column is not: a value, and no range
abbrev pub column_exclusion : Column → List ℕ → Option (List ℕ × List ℕ) → Option Clause
column_exclusion column bytes None = option_map (IsNot column) (value_for column bytes)
column_exclusion column bytes (Some ends) = None

abbrev pub exclusion_clause : List ℕ → List ℕ → Option Clause
exclusion_clause name bytes =
    option_and_then (λ column. column_exclusion column bytes (parted (codes "..") bytes)) (column_named name)

-- what stands before `=` is a name, or a name with `!` behind it
abbrev pub named_clause : List ℕ → List ℕ → Option (List ℕ × List ℕ) → Option Clause
named_clause name bytes None = test_clause name bytes
named_clause name bytes (Some (own, [])) = exclusion_clause own bytes
named_clause name bytes (Some (own, b ∷ rest)) = None

-- NAME
abbrev pub word_clause : List ℕ → Option Clause
word_clause word = option_or (option_map Sums (measure_named word)) (option_map GroupsBy (column_named word))

abbrev pub clause_parted : List ℕ → Option (List ℕ × List ℕ) → Option Clause
clause_parted bytes None = word_clause bytes
clause_parted bytes (Some parts) = named_clause parts.0 parts.1 (parted (codes "!") parts.0)

-- what a constant of these bytes says
abbrev pub clause_of : List ℕ → Option Clause
clause_of bytes =
    if text_eq bytes (codes "ORDER=SUM") then Some BySum
    else clause_parted bytes (parted (codes "=") bytes)
