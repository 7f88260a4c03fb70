-- A statement as it is written: each choice that its writer has, and the tokens that spell it.
use Rattle.std.specs.Prelude.{ℕ, Bool, true, false, List, [], ◌∷◌, Option, None, Some}
use Rattle.std.specs.Borrow.{Bor}
use Rattle.ssb_schema.specs.declared.column.Column.{Column}
use Rattle.ssb_schema.specs.Columns.{D_DATEKEY}
use Rattle.ssb_schema.specs.declared.table.Table.{Table}
use Rattle.ssb_schema.specs.declared.table.Table.TheVariants.{Customer, Supplier, Part, Date, Lineorder}
use Rattle.ssb_questions.specs.declared.clause.Spelled.{Spelled}
use Rattle.ssb_questions.specs.declared.clause.Spelled.TheVariants as spelled
use Rattle.ssb_questions.specs.declared.plan.Measure.{Measure}
use Rattle.ssb_questions.specs.declared.plan.Measure.TheVariants as measure
use Rattle.ssb_sql.specs.declared.piece.Aggregate.{Aggregate}
use Rattle.ssb_sql.specs.declared.piece.Aggregate.TheVariants as aggregate
use Rattle.ssb_sql.specs.declared.piece.Comparison.{Comparison}
use Rattle.ssb_sql.specs.declared.piece.Comparison.TheVariants as comparison
use Rattle.ssb_sql.specs.declared.piece.Operand.{Operand}
use Rattle.ssb_sql.specs.declared.piece.Operand.TheVariants as operand
use Rattle.ssb_sql.specs.declared.piece.SignedNumber.{SignedNumber}
use Rattle.ssb_sql.specs.declared.piece.SqlPiece.{SqlPiece}
use Rattle.ssb_sql.specs.declared.piece.SqlPiece.TheVariants as piece
use Rattle.ssb_sql.specs.declared.token.LineColumn.TheVariants as line
use Rattle.ssb_sql.specs.declared.token.Mark.TheVariants as m
use Rattle.ssb_sql.specs.declared.token.SqlToken.{SqlToken}
use Rattle.ssb_sql.specs.declared.token.SqlToken.TheVariants as k
use Rattle.ssb_sql.specs.declared.token.SqlWord.TheVariants as w

abbrev pub Name : Type 0
Name = Bor (List ℕ)

-- what is added up, as it is written
pub data Added : Type 0 where
  Revenue : Added
  RevenueLessCost : Added
  PriceTimesDiscount : Added
  DiscountTimesPrice : Added
  Quantity : Added
  ExtendedPrice : Added
  SupplyCost : Added

-- an aggregate, as it is written
pub data Computed : Type 0 where
  SumOf : Added → Computed
  AverageOf : Added → Computed
  CountOfLines : Computed
  CountOrNull : Computed

-- what is printed: a column, or an aggregate; with no name, with one, with one behind AS
pub data Item : Type 0 where
  Plain : Column → Item
  PlainNamed : Column → Name → Item
  PlainNamedAs : Column → Name → Item
  Total : Computed → Item
  Named : Computed → Name → Item
  NamedAs : Computed → Name → Item

-- another table: behind a comma; behind JOIN, or INNER JOIN, with its key; the same with the keys the other way round
pub data Source : Type 0 where
  Beside : Table → Source
  JoinedOn : Bool → Table → Source
  JoinedOnTurned : Bool → Table → Source

-- a condition, whose values are compared by bytes where COLLATE says so; that of a list, behind IN or NOT IN, has one
-- value or more, and so has a choice, which names what is tested each time
pub data Condition : Type 0 where
  Joins : Table → Condition
  JoinsTurned : Table → Condition
  Compares : Bool → Operand → Comparison → Spelled → Condition
  LiesBetween : Bool → Operand → Spelled → Spelled → Condition
  OneOf : Bool → Operand → Spelled → List Spelled → Condition
  NoneOf : Bool → Operand → Spelled → List Spelled → Condition
  Choice : Operand → Spelled → List (Operand × Spelled) → Condition

-- a number that an aggregate is compared with: of 32 bits, or greater
pub data Amount : Type 0 where
  Small : ℕ → Amount
  Great : ℕ → Amount

-- a test of groups; a negative number has a minus before it
pub record Having : Type 0 where
  pub computed : Computed
  pub how : Comparison
  pub is_negative : Bool
  pub amount : Amount

-- what rows stand by: a column, what has a name, what is printed at a place, or an aggregate
pub data By : Type 0 where
  ByColumn : Column → By
  ByName : Name → By
  ByPlace : ℕ → By
  ByAggregate : Computed → By

pub data Direction : Type 0 where
  Unsaid : Direction
  Upwards : Direction
  Downwards : Direction

pub record Key : Type 0 where
  pub by : By
  pub by_bytes : Bool
  pub direction : Direction

pub record Select : Type 0 where
  pub item : Item
  pub items : List Item
  pub table : Table
  pub sources : List Source
  pub conditions : List Condition
  pub groups : List Column
  pub having : List Having
  pub keys : List Key
  pub limit : Option ℕ
  pub semicolon : Bool

-- ---- the tokens of each part, before those of the rest

abbrev pub added_then : Added → List SqlToken → List SqlToken
added_then Revenue rest = k.Mark m.Open ∷ k.Line line.Revenue ∷ k.Mark m.Close ∷ rest
added_then RevenueLessCost rest =
    k.Mark m.Open ∷ k.Line line.Revenue ∷ k.Mark m.Minus ∷ k.Line line.SupplyCost ∷ k.Mark m.Close ∷ rest
added_then PriceTimesDiscount rest =
    k.Mark m.Open ∷ k.Line line.ExtendedPrice ∷ k.Mark m.Star ∷ k.Line line.Discount ∷ k.Mark m.Close ∷ rest
added_then DiscountTimesPrice rest =
    k.Mark m.Open ∷ k.Line line.Discount ∷ k.Mark m.Star ∷ k.Line line.ExtendedPrice ∷ k.Mark m.Close ∷ rest
added_then Quantity rest = k.Mark m.Open ∷ k.Line line.Quantity ∷ k.Mark m.Close ∷ rest
added_then ExtendedPrice rest = k.Mark m.Open ∷ k.Line line.ExtendedPrice ∷ k.Mark m.Close ∷ rest
added_then SupplyCost rest = k.Mark m.Open ∷ k.Line line.SupplyCost ∷ k.Mark m.Close ∷ rest

abbrev pub count_then : List SqlToken → List SqlToken
count_then rest = k.Word w.Count ∷ k.Mark m.Open ∷ k.Mark m.Star ∷ k.Mark m.Close ∷ rest

abbrev pub computed_then : Computed → List SqlToken → List SqlToken
computed_then (SumOf added) rest = k.Word w.Sum ∷ added_then added rest
computed_then (AverageOf added) rest = k.Word w.Average ∷ added_then added rest
computed_then CountOfLines rest = count_then rest
computed_then CountOrNull rest =
    k.Word w.NullIf ∷ k.Mark m.Open
    ∷ count_then (k.Mark m.Comma ∷ k.Value (spelled.Number 0) ∷ k.Mark m.Close ∷ rest)

abbrev pub item_then : Item → List SqlToken → List SqlToken
item_then (Plain column) rest = k.Column column ∷ rest
item_then (PlainNamed column name) rest = k.Column column ∷ k.Name name ∷ rest
item_then (PlainNamedAs column name) rest = k.Column column ∷ k.Word w.As ∷ k.Name name ∷ rest
item_then (Total computed) rest = computed_then computed rest
item_then (Named computed name) rest = computed_then computed (k.Name name ∷ rest)
item_then (NamedAs computed name) rest = computed_then computed (k.Word w.As ∷ k.Name name ∷ rest)

abbrev pub items_then : List Item → List SqlToken → List SqlToken
items_then [] rest = rest
items_then (item ∷ items) rest = k.Mark m.Comma ∷ item_then item (items_then items rest)

-- the key of a dimension's rows; that of the days is a column that questions read
abbrev pub key_token : Table → SqlToken
key_token Customer = k.Key Customer
key_token Supplier = k.Key Supplier
key_token Part = k.Key Part
key_token Date = k.Column D_DATEKEY
key_token Lineorder = k.Key Lineorder

abbrev pub join_then : Bool → List SqlToken → List SqlToken
join_then true rest = k.Word w.Inner ∷ k.Word w.Join ∷ rest
join_then false rest = k.Word w.Join ∷ rest

abbrev pub source_then : Source → List SqlToken → List SqlToken
source_then (Beside table) rest = k.Mark m.Comma ∷ k.Table table ∷ rest
source_then (JoinedOn is_inner table) rest =
    join_then is_inner (k.Table table ∷ k.Word w.On ∷ k.LineKey table ∷ k.Mark m.Equal ∷ key_token table ∷ rest)
source_then (JoinedOnTurned is_inner table) rest =
    join_then is_inner (k.Table table ∷ k.Word w.On ∷ key_token table ∷ k.Mark m.Equal ∷ k.LineKey table ∷ rest)

abbrev pub sources_then : List Source → List SqlToken → List SqlToken
sources_then [] rest = rest
sources_then (source ∷ sources) rest = source_then source (sources_then sources rest)

abbrev pub operand_token : Operand → SqlToken
operand_token (operand.Dimension column) = k.Column column
operand_token operand.Quantity = k.Line line.Quantity
operand_token operand.Discount = k.Line line.Discount

abbrev pub comparison_token : Comparison → SqlToken
comparison_token comparison.Equal = k.Mark m.Equal
comparison_token comparison.NotEqual = k.Mark m.NotEqual
comparison_token comparison.Less = k.Mark m.Less
comparison_token comparison.LessOrEqual = k.Mark m.LessOrEqual
comparison_token comparison.Greater = k.Mark m.Greater
comparison_token comparison.GreaterOrEqual = k.Mark m.GreaterOrEqual

abbrev pub by_bytes_then : Bool → List SqlToken → List SqlToken
by_bytes_then true rest = k.Word w.ByBytes ∷ rest
by_bytes_then false rest = rest

abbrev pub values_then : List Spelled → List SqlToken → List SqlToken
values_then [] rest = rest
values_then (v ∷ values) rest = k.Mark m.Comma ∷ k.Value v ∷ values_then values rest

abbrev pub choices_then : List (Operand × Spelled) → List SqlToken → List SqlToken
choices_then [] rest = rest
choices_then (c ∷ choices) rest =
    k.Word w.Or ∷ operand_token c.0 ∷ k.Mark m.Equal ∷ k.Value c.1 ∷ choices_then choices rest

abbrev pub tested_then : Bool → Operand → List SqlToken → List SqlToken
tested_then by_bytes o rest = operand_token o ∷ by_bytes_then by_bytes rest

abbrev pub condition_then : Condition → List SqlToken → List SqlToken
condition_then (Joins table) rest = k.LineKey table ∷ k.Mark m.Equal ∷ key_token table ∷ rest
condition_then (JoinsTurned table) rest = key_token table ∷ k.Mark m.Equal ∷ k.LineKey table ∷ rest
condition_then (Compares by_bytes o how v) rest = tested_then by_bytes o (comparison_token how ∷ k.Value v ∷ rest)
condition_then (LiesBetween by_bytes o from to) rest =
    tested_then by_bytes o (k.Word w.Between ∷ k.Value from ∷ k.Word w.And ∷ k.Value to ∷ rest)
condition_then (OneOf by_bytes o v values) rest =
    tested_then by_bytes o
    (k.Word w.In ∷ k.Mark m.Open ∷ k.Value v ∷ values_then values (k.Mark m.Close ∷ rest))
condition_then (NoneOf by_bytes o v values) rest =
    tested_then by_bytes o
    (k.Word w.Not ∷ k.Word w.In ∷ k.Mark m.Open ∷ k.Value v ∷ values_then values (k.Mark m.Close ∷ rest))
condition_then (Choice o v choices) rest =
    k.Mark m.Open ∷ operand_token o ∷ k.Mark m.Equal ∷ k.Value v ∷ choices_then choices (k.Mark m.Close ∷ rest)

abbrev pub ands_then : List Condition → List SqlToken → List SqlToken
ands_then [] rest = rest
ands_then (condition ∷ conditions) rest = k.Word w.And ∷ condition_then condition (ands_then conditions rest)

abbrev pub where_then : List Condition → List SqlToken → List SqlToken
where_then [] rest = rest
where_then (condition ∷ conditions) rest = k.Word w.Where ∷ condition_then condition (ands_then conditions rest)

abbrev pub columns_then : List Column → List SqlToken → List SqlToken
columns_then [] rest = rest
columns_then (column ∷ columns) rest = k.Mark m.Comma ∷ k.Column column ∷ columns_then columns rest

abbrev pub groups_then : List Column → List SqlToken → List SqlToken
groups_then [] rest = rest
groups_then (column ∷ columns) rest =
    k.Word w.Group ∷ k.Word w.By ∷ k.Column column ∷ columns_then columns rest

abbrev pub amount_token : Amount → SqlToken
amount_token (Small n) = k.Value (spelled.Number n)
amount_token (Great n) = k.Large n

abbrev pub number_then : Bool → Amount → List SqlToken → List SqlToken
number_then true amount rest = k.Mark m.Minus ∷ amount_token amount ∷ rest
number_then false amount rest = amount_token amount ∷ rest

abbrev pub having_then : Having → List SqlToken → List SqlToken
having_then test rest =
    computed_then test.computed (comparison_token test.how ∷ number_then test.is_negative test.amount rest)

abbrev pub more_having_then : List Having → List SqlToken → List SqlToken
more_having_then [] rest = rest
more_having_then (test ∷ tests) rest = k.Word w.And ∷ having_then test (more_having_then tests rest)

abbrev pub all_having_then : List Having → List SqlToken → List SqlToken
all_having_then [] rest = rest
all_having_then (test ∷ tests) rest = k.Word w.Having ∷ having_then test (more_having_then tests rest)

abbrev pub by_then : By → List SqlToken → List SqlToken
by_then (ByColumn column) rest = k.Column column ∷ rest
by_then (ByName name) rest = k.Name name ∷ rest
by_then (ByPlace place) rest = k.Value (spelled.Number place) ∷ rest
by_then (ByAggregate computed) rest = computed_then computed rest

abbrev pub direction_then : Direction → List SqlToken → List SqlToken
direction_then Unsaid rest = rest
direction_then Upwards rest = k.Word w.Asc ∷ rest
direction_then Downwards rest = k.Word w.Desc ∷ rest

abbrev pub key_then : Key → List SqlToken → List SqlToken
key_then key rest = by_then key.by (by_bytes_then key.by_bytes (direction_then key.direction rest))

abbrev pub keys_then : List Key → List SqlToken → List SqlToken
keys_then [] rest = rest
keys_then (key ∷ keys) rest = k.Mark m.Comma ∷ key_then key (keys_then keys rest)

abbrev pub order_then : List Key → List SqlToken → List SqlToken
order_then [] rest = rest
order_then (key ∷ keys) rest = k.Word w.Order ∷ k.Word w.By ∷ key_then key (keys_then keys rest)

abbrev pub limit_then : Option ℕ → List SqlToken → List SqlToken
limit_then None rest = rest
limit_then (Some most) rest = k.Word w.Limit ∷ k.Value (spelled.Number most) ∷ rest

abbrev pub end_tokens : Bool → List SqlToken
end_tokens true = k.Mark m.Semicolon ∷ []
end_tokens false = []

-- the tokens that spell a statement
abbrev pub tokens_of : Select → List SqlToken
tokens_of s =
    k.Word w.Select ∷ item_then s.item (items_then s.items (k.Word w.From ∷ k.Table s.table
    ∷ sources_then s.sources (where_then s.conditions (groups_then s.groups (all_having_then s.having
    (order_then s.keys (limit_then s.limit (end_tokens s.semicolon))))))))

-- ---- what each part says, before what the rest says

abbrev pub measure_of : Added → Measure
measure_of Revenue = measure.Revenue
measure_of RevenueLessCost = measure.Profit
measure_of PriceTimesDiscount = measure.PriceTimesDiscount
measure_of DiscountTimesPrice = measure.PriceTimesDiscount
measure_of Quantity = measure.Quantity
measure_of ExtendedPrice = measure.ExtendedPrice
measure_of SupplyCost = measure.SupplyCost

abbrev pub aggregate_of : Computed → Aggregate
aggregate_of (SumOf added) = aggregate.Total (measure_of added)
aggregate_of (AverageOf added) = aggregate.Average (measure_of added)
aggregate_of CountOfLines = aggregate.Total measure.Lines
aggregate_of CountOrNull = aggregate.CountOrNull

abbrev pub item_says : Item → List SqlPiece → List SqlPiece
item_says (Plain column) rest = piece.Prints column ∷ rest
item_says (PlainNamed column name) rest = piece.Prints column ∷ piece.Called name ∷ rest
item_says (PlainNamedAs column name) rest = piece.Prints column ∷ piece.Called name ∷ rest
item_says (Total computed) rest = piece.Computes (aggregate_of computed) ∷ rest
item_says (Named computed name) rest = piece.Computes (aggregate_of computed) ∷ piece.Called name ∷ rest
item_says (NamedAs computed name) rest = piece.Computes (aggregate_of computed) ∷ piece.Called name ∷ rest

abbrev pub items_say : List Item → List SqlPiece → List SqlPiece
items_say [] rest = rest
items_say (item ∷ items) rest = item_says item (items_say items rest)

abbrev pub source_says : Source → List SqlPiece → List SqlPiece
source_says (Beside table) rest = piece.From table ∷ rest
source_says (JoinedOn is_inner table) rest = piece.From table ∷ piece.Joined table ∷ rest
source_says (JoinedOnTurned is_inner table) rest = piece.From table ∷ piece.Joined table ∷ rest

abbrev pub sources_say : List Source → List SqlPiece → List SqlPiece
sources_say [] rest = rest
sources_say (source ∷ sources) rest = source_says source (sources_say sources rest)

abbrev pub values_say : Operand → List Spelled → List SqlPiece → List SqlPiece
values_say o [] rest = rest
values_say o (v ∷ values) rest = piece.OrIs o v ∷ values_say o values rest

abbrev pub excluded_say : Operand → List Spelled → List SqlPiece → List SqlPiece
excluded_say o [] rest = rest
excluded_say o (v ∷ values) rest = piece.Stands o comparison.NotEqual v ∷ excluded_say o values rest

abbrev pub choices_say : List (Operand × Spelled) → List SqlPiece → List SqlPiece
choices_say [] rest = rest
choices_say (c ∷ choices) rest = piece.OrIs c.0 c.1 ∷ choices_say choices rest

abbrev pub compared_piece : Operand → Comparison → Spelled → SqlPiece
compared_piece o comparison.Equal v = piece.Is o v
compared_piece o how v = piece.Stands o how v

abbrev pub condition_says : Condition → List SqlPiece → List SqlPiece
condition_says (Joins table) rest = piece.Joined table ∷ rest
condition_says (JoinsTurned table) rest = piece.Joined table ∷ rest
condition_says (Compares by_bytes o how v) rest = compared_piece o how v ∷ rest
condition_says (LiesBetween by_bytes o from to) rest = piece.Between o from to ∷ rest
condition_says (OneOf by_bytes o v values) rest = piece.Is o v ∷ values_say o values rest
condition_says (NoneOf by_bytes o v values) rest =
    piece.Stands o comparison.NotEqual v ∷ excluded_say o values rest
condition_says (Choice o v choices) rest = piece.Is o v ∷ choices_say choices rest

abbrev pub conditions_say : List Condition → List SqlPiece → List SqlPiece
conditions_say [] rest = rest
conditions_say (condition ∷ conditions) rest = condition_says condition (conditions_say conditions rest)

abbrev pub groups_say : List Column → List SqlPiece → List SqlPiece
groups_say [] rest = rest
groups_say (column ∷ columns) rest = piece.GroupsBy column ∷ groups_say columns rest

abbrev pub amount_of : Amount → ℕ
amount_of (Small n) = n
amount_of (Great n) = n

abbrev pub number_of : Bool → Amount → SignedNumber
number_of is_negative amount = record { is_negative = is_negative; size = amount_of amount }

abbrev pub having_says : List Having → List SqlPiece → List SqlPiece
having_says [] rest = rest
having_says (test ∷ tests) rest =
    piece.Keeps (aggregate_of test.computed) test.how (number_of test.is_negative test.amount)
    ∷ having_says tests rest

abbrev pub by_piece : By → SqlPiece
by_piece (ByColumn column) = piece.OrdersBy column
by_piece (ByName name) = piece.OrdersByName name
by_piece (ByPlace place) = piece.OrdersByPlace place
by_piece (ByAggregate computed) = piece.OrdersByAggregate (aggregate_of computed)

abbrev pub direction_says : Direction → List SqlPiece → List SqlPiece
direction_says Unsaid rest = rest
direction_says Upwards rest = rest
direction_says Downwards rest = piece.Descending ∷ rest

abbrev pub keys_say : List Key → List SqlPiece → List SqlPiece
keys_say [] rest = rest
keys_say (key ∷ keys) rest = by_piece key.by ∷ direction_says key.direction (keys_say keys rest)

abbrev pub limit_says : Option ℕ → List SqlPiece
limit_says None = []
limit_says (Some most) = piece.Limit most ∷ []

-- what a statement says
abbrev pub pieces_of : Select → List SqlPiece
pieces_of s =
    item_says s.item (items_say s.items (piece.From s.table ∷ sources_say s.sources (conditions_say s.conditions
    (groups_say s.groups (having_says s.having (keys_say s.keys (limit_says s.limit)))))))
