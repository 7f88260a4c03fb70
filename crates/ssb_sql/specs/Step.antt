-- Which token may come, what it leads to, and what it says: the grammar as a table.
use Rattle.std.specs.Prelude.{ℕ, Bool, true, false, ◌&&◌, nat_eq, Option, None, Some, option_and_then}
use Rattle.std.specs.Prelude.{if◌then◌else◌}
use Rattle.std.specs.Borrow.{Bor}
use Rattle.std.specs.Prelude.{List}
use Rattle.ssb_schema.specs.declared.column.Column.{Column}
use Rattle.ssb_schema.specs.declared.table.Table.{Table}
use Rattle.ssb_schema.specs.declared.table.Table.TheVariants.{Customer, Supplier, Part, Date, Lineorder}
use Rattle.ssb_questions.specs.declared.clause.Spelled.{Spelled}
use Rattle.ssb_questions.specs.declared.clause.Spelled.TheVariants.{Number}
use Rattle.ssb_questions.specs.declared.plan.Measure.TheVariants as measure
use Rattle.ssb_questions.specs.declared.plan.Measure.{Measure}
use Rattle.ssb_sql.specs.declared.piece.Aggregate.{Aggregate}
use Rattle.ssb_sql.specs.declared.piece.Aggregate.TheVariants as aggregate
use Rattle.ssb_sql.specs.declared.piece.Comparison.{Comparison}
use Rattle.ssb_sql.specs.declared.piece.Comparison.TheVariants as comparison
use Rattle.ssb_sql.specs.declared.piece.Operand.{Operand}
use Rattle.ssb_sql.specs.declared.piece.Operand.TheVariants as operand
use Rattle.ssb_sql.specs.declared.piece.SqlPiece.{SqlPiece}
use Rattle.ssb_sql.specs.declared.piece.SqlPiece.TheVariants as piece
use Rattle.ssb_sql.specs.declared.state.Adding.{Adding}
use Rattle.ssb_sql.specs.declared.state.Adding.TheVariants.{Sum, Average}
use Rattle.ssb_sql.specs.declared.state.InAggregate.{InAggregate}
use Rattle.ssb_sql.specs.declared.state.InAggregate.TheVariants as ag
use Rattle.ssb_sql.specs.declared.state.InChoice.{InChoice}
use Rattle.ssb_sql.specs.declared.state.InChoice.TheVariants as ch
use Rattle.ssb_sql.specs.declared.state.InEnd.{InEnd}
use Rattle.ssb_sql.specs.declared.state.InEnd.TheVariants as e
use Rattle.ssb_sql.specs.declared.state.InHaving.{InHaving}
use Rattle.ssb_sql.specs.declared.state.InHaving.TheVariants as h
use Rattle.ssb_sql.specs.declared.state.InList.{InList}
use Rattle.ssb_sql.specs.declared.state.InList.TheVariants as l
use Rattle.ssb_sql.specs.declared.state.InNullIf.{InNullIf}
use Rattle.ssb_sql.specs.declared.state.InNullIf.TheVariants as ni
use Rattle.ssb_sql.specs.declared.state.InTables.{InTables}
use Rattle.ssb_sql.specs.declared.state.InTables.TheVariants as t
use Rattle.ssb_sql.specs.declared.state.InTests.{InTests}
use Rattle.ssb_sql.specs.declared.state.InTests.TheVariants as c
use Rattle.ssb_sql.specs.declared.state.InValues.{InValues}
use Rattle.ssb_sql.specs.declared.state.InValues.TheVariants as vs
use Rattle.ssb_sql.specs.declared.state.Listing.{Listing}
use Rattle.ssb_sql.specs.declared.state.Listing.TheVariants as listing
use Rattle.ssb_sql.specs.declared.state.Purpose.{Purpose}
use Rattle.ssb_sql.specs.declared.state.Purpose.TheVariants.{Printing, Keeping, Ordering}
use Rattle.ssb_sql.specs.declared.state.State.{State}
use Rattle.ssb_sql.specs.declared.state.State.TheVariants as state
use Rattle.ssb_sql.specs.declared.state.SqlStep.{SqlStep}
use Rattle.ssb_sql.specs.declared.token.LineColumn.{LineColumn}
use Rattle.ssb_sql.specs.declared.token.LineColumn.TheVariants.{Quantity, ExtendedPrice, Discount, Revenue, SupplyCost}
use Rattle.ssb_sql.specs.declared.token.Mark.{Mark}
use Rattle.ssb_sql.specs.declared.token.Mark.TheVariants as m
use Rattle.ssb_sql.specs.declared.token.SqlToken.{SqlToken}
use Rattle.ssb_sql.specs.declared.token.SqlToken.TheVariants as k
use Rattle.ssb_sql.specs.declared.token.SqlWord.{SqlWord}
use Rattle.ssb_sql.specs.declared.token.SqlWord.TheVariants as w

abbrev pub quietly : State → Option SqlStep
quietly next = Some (record { next = next; says = None })

abbrev pub saying : State → SqlPiece → Option SqlStep
saying next piece = Some (record { next = next; says = Some piece })

abbrev pub list : InList → Option SqlStep
list next = quietly (state.List next)

abbrev pub list_says : InList → SqlPiece → Option SqlStep
list_says next piece = saying (state.List next) piece

abbrev pub tables : InTables → Option SqlStep
tables next = quietly (state.Tables next)

abbrev pub tables_say : InTables → SqlPiece → Option SqlStep
tables_say next piece = saying (state.Tables next) piece

abbrev pub tests : InTests → Option SqlStep
tests next = quietly (state.Tests next)

abbrev pub tests_say : InTests → SqlPiece → Option SqlStep
tests_say next piece = saying (state.Tests next) piece

abbrev pub end : InEnd → Option SqlStep
end next = quietly (state.End next)

abbrev pub end_says : InEnd → SqlPiece → Option SqlStep
end_says next piece = saying (state.End next) piece

abbrev pub having : InHaving → Option SqlStep
having next = quietly (state.Having next)

abbrev pub having_says : InHaving → SqlPiece → Option SqlStep
having_says next piece = saying (state.Having next) piece

abbrev pub computing : Purpose → InAggregate → Option SqlStep
computing purpose next = quietly (state.Aggregate purpose next)

-- a number for each mark and each word, by which they are told apart
abbrev pub mark_code : Mark → ℕ
mark_code m.Open = 0
mark_code m.Close = 1
mark_code m.Comma = 2
mark_code m.Semicolon = 3
mark_code m.Star = 4
mark_code m.Minus = 5
mark_code m.Equal = 6
mark_code m.Less = 7
mark_code m.LessOrEqual = 8
mark_code m.Greater = 9
mark_code m.GreaterOrEqual = 10
mark_code m.NotEqual = 11

abbrev pub word_code : SqlWord → ℕ
word_code w.Select = 0
word_code w.Sum = 1
word_code w.Count = 2
word_code w.As = 3
word_code w.From = 4
word_code w.Join = 5
word_code w.Inner = 6
word_code w.On = 7
word_code w.Where = 8
word_code w.And = 9
word_code w.Or = 10
word_code w.In = 11
word_code w.Between = 12
word_code w.Group = 13
word_code w.Order = 14
word_code w.By = 15
word_code w.Asc = 16
word_code w.Desc = 17
word_code w.Limit = 18
word_code w.ByBytes = 19
word_code w.Average = 20
word_code w.NullIf = 21
word_code w.Having = 22
word_code w.Not = 23

abbrev pub table_code : Table → ℕ
table_code Customer = 0
table_code Supplier = 1
table_code Part = 2
table_code Date = 3
table_code Lineorder = 4

abbrev pub same_table : Table → Table → Bool
same_table a b = nat_eq (table_code a) (table_code b)

-- the step where a token is this mark, this word; none else
abbrev pub on_mark : SqlToken → Mark → Option SqlStep → Option SqlStep
on_mark (k.Mark own) mark taken = if nat_eq (mark_code own) (mark_code mark) then taken else None
on_mark _ mark taken = None

abbrev pub on_word : SqlToken → SqlWord → Option SqlStep → Option SqlStep
on_word (k.Word own) word taken = if nat_eq (word_code own) (word_code word) then taken else None
on_word _ word taken = None

-- what a token is
abbrev pub value_in : SqlToken → Option Spelled
value_in (k.Value v) = Some v
value_in (k.Large n) = Some (Number n)
value_in _ = None

abbrev pub number_in : SqlToken → Option ℕ
number_in (k.Value (Number n)) = Some n
number_in _ = None

-- a number that aggregates are compared with
abbrev pub amount_in : SqlToken → Option ℕ
amount_in (k.Value (Number n)) = Some n
amount_in (k.Large n) = Some n
amount_in _ = None

-- how what stands before a token is compared by it
abbrev pub comparison_in : SqlToken → Option Comparison
comparison_in (k.Mark m.Equal) = Some comparison.Equal
comparison_in (k.Mark m.NotEqual) = Some comparison.NotEqual
comparison_in (k.Mark m.Less) = Some comparison.Less
comparison_in (k.Mark m.LessOrEqual) = Some comparison.LessOrEqual
comparison_in (k.Mark m.Greater) = Some comparison.Greater
comparison_in (k.Mark m.GreaterOrEqual) = Some comparison.GreaterOrEqual
comparison_in _ = None

abbrev pub name_in : SqlToken → Option (Bor (List ℕ))
name_in (k.Name name) = Some name
name_in _ = None

abbrev pub table_in : SqlToken → Option Table
table_in (k.Table table) = Some table
table_in _ = None

abbrev pub column_in : SqlToken → Option Column
column_in (k.Column column) = Some column
column_in _ = None

abbrev pub line_in : SqlToken → Option LineColumn
line_in (k.Line column) = Some column
line_in _ = None

abbrev pub mark_in : SqlToken → Option Mark
mark_in (k.Mark mark) = Some mark
mark_in _ = None

-- whether a column is the key of a table's rows, which stands first in each dimension
abbrev pub is_key_of : Table → Column → Bool
is_key_of table column = same_table table column.table && nat_eq column.place 1

-- the key of the dimension, and that of a line
abbrev pub on_key : SqlToken → Table → Option SqlStep → Option SqlStep
on_key (k.Key own) table taken = if same_table table own then taken else None
on_key (k.Column column) table taken = if is_key_of table column then taken else None
on_key _ table taken = None

abbrev pub on_line_key : SqlToken → Table → Option SqlStep → Option SqlStep
on_line_key (k.LineKey own) table taken = if same_table table own then taken else None
on_line_key _ table taken = None

-- what may follow the group columns, and the tests of groups
abbrev pub behind_groups : SqlToken → Option SqlStep
behind_groups (k.Word w.Order) = end e.OrderBy
behind_groups (k.Word w.Limit) = end e.Limit
behind_groups (k.Mark m.Semicolon) = end e.Done
behind_groups _ = None

-- ---- aggregates

-- what is done with the numbers of lines
abbrev pub computed : Adding → Measure → Aggregate
computed Sum measure = aggregate.Total measure
computed Average measure = aggregate.Average measure

-- behind an aggregate
abbrev pub closed : Purpose → Aggregate → Option SqlStep
closed Printing made = list_says l.Total (piece.Computes made)
closed Keeping made = having (h.Tested made)
closed Ordering made = end_says e.Keyed (piece.OrdersByAggregate made)

-- an aggregate comes
abbrev pub begun : Purpose → SqlToken → Option SqlStep
begun purpose (k.Word w.Sum) = computing purpose (ag.Adds Sum)
begun purpose (k.Word w.Average) = computing purpose (ag.Adds Average)
begun purpose (k.Word w.Count) = computing purpose ag.Count
begun purpose (k.Word w.NullIf) = computing purpose (ag.NullIf ni.Open)
begun purpose _ = None

-- behind the first column of a sum
abbrev pub behind_price : Purpose → Adding → Mark → Option SqlStep
behind_price purpose adding m.Close = closed purpose (computed adding measure.ExtendedPrice)
behind_price purpose adding m.Star = computing purpose (ag.Times adding)
behind_price purpose adding _ = None

abbrev pub behind_revenue : Purpose → Adding → Mark → Option SqlStep
behind_revenue purpose adding m.Close = closed purpose (computed adding measure.Revenue)
behind_revenue purpose adding m.Minus = computing purpose (ag.Minus adding)
behind_revenue purpose adding _ = None

abbrev pub behind_added : Purpose → Adding → LineColumn → SqlToken → Option SqlStep
behind_added purpose adding Revenue token = option_and_then (behind_revenue purpose adding) (mark_in token)
behind_added purpose adding Quantity token =
    on_mark token m.Close (closed purpose (computed adding measure.Quantity))
behind_added purpose adding ExtendedPrice token = option_and_then (behind_price purpose adding) (mark_in token)
behind_added purpose adding SupplyCost token =
    on_mark token m.Close (closed purpose (computed adding measure.SupplyCost))
behind_added purpose adding Discount token = on_mark token m.Star (computing purpose (ag.TimesPrice adding))

-- the second column of a sum
abbrev pub behind_minus : Purpose → Adding → LineColumn → Option SqlStep
behind_minus purpose adding SupplyCost = computing purpose (ag.Close (computed adding measure.Profit))
behind_minus purpose adding _ = None

abbrev pub behind_times : Purpose → Adding → LineColumn → Option SqlStep
behind_times purpose adding Discount = computing purpose (ag.Close (computed adding measure.PriceTimesDiscount))
behind_times purpose adding _ = None

abbrev pub behind_discount_times : Purpose → Adding → LineColumn → Option SqlStep
behind_discount_times purpose adding ExtendedPrice =
    computing purpose (ag.Close (computed adding measure.PriceTimesDiscount))
behind_discount_times purpose adding _ = None

-- behind NULLIF
abbrev pub null_if : Purpose → InNullIf → Option SqlStep
null_if purpose next = computing purpose (ag.NullIf next)

abbrev pub on_zero : Purpose → ℕ → Option SqlStep
on_zero purpose number = if nat_eq number 0 then computing purpose (ag.Close aggregate.CountOrNull) else None

abbrev pub in_null_if : Purpose → InNullIf → SqlToken → Option SqlStep
in_null_if purpose ni.Open token = on_mark token m.Open (null_if purpose ni.Count)
in_null_if purpose ni.Count token = on_word token w.Count (null_if purpose ni.CountOpen)
in_null_if purpose ni.CountOpen token = on_mark token m.Open (null_if purpose ni.Star)
in_null_if purpose ni.Star token = on_mark token m.Star (null_if purpose ni.CountClose)
in_null_if purpose ni.CountClose token = on_mark token m.Close (null_if purpose ni.Comma)
in_null_if purpose ni.Comma token = on_mark token m.Comma (null_if purpose ni.Zero)
in_null_if purpose ni.Zero token = option_and_then (on_zero purpose) (number_in token)

abbrev pub in_aggregate : Purpose → InAggregate → SqlToken → Option SqlStep
in_aggregate purpose (ag.Adds adding) token = on_mark token m.Open (computing purpose (ag.Added adding))
in_aggregate purpose (ag.Added adding) token =
    option_and_then (λ column. computing purpose (ag.AddedOf adding column)) (line_in token)
in_aggregate purpose (ag.AddedOf adding column) token = behind_added purpose adding column token
in_aggregate purpose (ag.Minus adding) token = option_and_then (behind_minus purpose adding) (line_in token)
in_aggregate purpose (ag.Times adding) token = option_and_then (behind_times purpose adding) (line_in token)
in_aggregate purpose (ag.TimesPrice adding) token =
    option_and_then (behind_discount_times purpose adding) (line_in token)
in_aggregate purpose (ag.Close made) token = on_mark token m.Close (closed purpose made)
in_aggregate purpose ag.Count token = on_mark token m.Open (computing purpose ag.Counted)
in_aggregate purpose ag.Counted token =
    on_mark token m.Star (computing purpose (ag.Close (aggregate.Total measure.Lines)))
in_aggregate purpose (ag.NullIf at) token = in_null_if purpose at token

-- the number that an aggregate is compared with
abbrev pub compared : Aggregate → Comparison → Bool → ℕ → Option SqlStep
compared made how is_negative size =
    having_says h.Behind (piece.Keeps made how (record { is_negative = is_negative; size = size }))

-- `-` comes, or the number itself
abbrev pub in_stands : Aggregate → Comparison → SqlToken → Option SqlStep
in_stands made how (k.Mark m.Minus) = having (h.Minus made how)
in_stands made how token = option_and_then (compared made how false) (amount_in token)

-- behind a test of groups
abbrev pub behind_having : SqlToken → Option SqlStep
behind_having (k.Word w.And) = having h.Test
behind_having token = behind_groups token

abbrev pub in_having : InHaving → SqlToken → Option SqlStep
in_having h.Test token = begun Keeping token
in_having (h.Tested made) token = option_and_then (λ how. having (h.Stands made how)) (comparison_in token)
in_having (h.Stands made how) token = in_stands made how token
in_having (h.Minus made how) token =
    option_and_then (compared made how true) (amount_in token)
in_having h.Behind token = behind_having token

-- ---- what is printed

-- behind a column, or an aggregate
abbrev pub behind_total : SqlToken → Option SqlStep
behind_total (k.Word w.As) = list l.As
behind_total (k.Name name) = list_says l.Behind (piece.Called name)
behind_total (k.Mark m.Comma) = list l.Item
behind_total (k.Word w.From) = tables t.Table
behind_total _ = None

abbrev pub item : SqlToken → Option SqlStep
item (k.Column column) = list_says l.Total (piece.Prints column)
item token = begun Printing token

-- behind a name
abbrev pub behind_item : SqlToken → Option SqlStep
behind_item (k.Mark m.Comma) = list l.Item
behind_item (k.Word w.From) = tables t.Table
behind_item _ = None

abbrev pub in_list : InList → SqlToken → Option SqlStep
in_list l.Start token = on_word token w.Select (list l.Item)
in_list l.Item token = item token
in_list l.Total token = behind_total token
in_list l.As token = option_and_then (λ name. list_says l.Behind (piece.Called name)) (name_in token)
in_list l.Behind token = behind_item token

-- what may follow the conditions
abbrev pub behind_tests : SqlToken → Option SqlStep
behind_tests (k.Word w.Group) = end e.GroupBy
behind_tests (k.Word w.Having) = having h.Test
behind_tests token = behind_groups token

abbrev pub behind_table : SqlToken → Option SqlStep
behind_table (k.Mark m.Comma) = tables t.Table
behind_table (k.Word w.Inner) = tables t.Inner
behind_table (k.Word w.Join) = tables t.Joined
behind_table (k.Word w.Where) = tests c.Test
behind_table token = behind_tests token

-- the first key of a join
abbrev pub join_key : SqlToken → Option SqlStep
join_key (k.Key table) = tables (t.EqualKey table)
join_key (k.LineKey table) = tables (t.EqualLineKey table)
join_key (k.Column column) = if nat_eq column.place 1 then tables (t.EqualKey column.table) else None
join_key _ = None

abbrev pub in_tables : InTables → SqlToken → Option SqlStep
in_tables t.Table token = option_and_then (λ table. tables_say t.Behind (piece.From table)) (table_in token)
in_tables t.Behind token = behind_table token
in_tables t.Inner token = on_word token w.Join (tables t.Joined)
in_tables t.Joined token = option_and_then (λ table. tables_say t.On (piece.From table)) (table_in token)
in_tables t.On token = on_word token w.On (tables t.Key)
in_tables t.Key token = join_key token
in_tables (t.EqualKey table) token = on_mark token m.Equal (tables (t.LineKey2 table))
in_tables (t.EqualLineKey table) token = on_mark token m.Equal (tables (t.Key2 table))
in_tables (t.Key2 table) token = on_key token table (tables_say t.Behind (piece.Joined table))
in_tables (t.LineKey2 table) token = on_line_key token table (tables_say t.Behind (piece.Joined table))

abbrev pub tested : SqlToken → Option Operand
tested (k.Column column) = Some (operand.Dimension column)
tested (k.Line Quantity) = Some operand.Quantity
tested (k.Line Discount) = Some operand.Discount
tested _ = None

-- a condition comes
abbrev pub test : SqlToken → Option SqlStep
test (k.Key table) = tests (c.EqualKey table)
test (k.LineKey table) = tests (c.EqualLineKey table)
test (k.Mark m.Open) = tests (c.Choice ch.Open)
test token = option_and_then (λ o. tests (c.Tested o)) (tested token)

-- behind what is tested
abbrev pub behind_tested : Operand → SqlToken → Option SqlStep
behind_tested o (k.Mark m.Equal) = tests (c.Equal o)
behind_tested o (k.Word w.Between) = tests (c.From o)
behind_tested o (k.Word w.In) = tests (c.Values o listing.OneOf vs.Open)
behind_tested o (k.Word w.Not) = tests (c.Not o)
behind_tested o (k.Word w.ByBytes) = tests (c.Tested o)
behind_tested o token = option_and_then (λ how. tests (c.Stands o how)) (comparison_in token)

-- behind a condition
abbrev pub behind_test : SqlToken → Option SqlStep
behind_test (k.Word w.And) = tests c.Test
behind_test token = behind_tests token

-- in a list of values
abbrev pub behind_value : Operand → Listing → SqlToken → Option SqlStep
behind_value o how (k.Mark m.Comma) = tests (c.Values o how vs.Next)
behind_value o how (k.Mark m.Close) = tests c.Behind
behind_value o how _ = None

-- in a choice
abbrev pub behind_choice : SqlToken → Option SqlStep
behind_choice (k.Word w.Or) = tests (c.Choice ch.Or)
behind_choice (k.Mark m.Close) = tests c.Behind
behind_choice _ = None

-- a value comes
abbrev pub on_value : SqlToken → (Spelled → Option SqlStep) → Option SqlStep
on_value token takes = option_and_then takes (value_in token)

-- what the first value of a list says, and what each other one says
abbrev pub first_said : Listing → Operand → Spelled → SqlPiece
first_said listing.OneOf o v = piece.Is o v
first_said listing.NoneOf o v = piece.Stands o comparison.NotEqual v

abbrev pub next_said : Listing → Operand → Spelled → SqlPiece
next_said listing.OneOf o v = piece.OrIs o v
next_said listing.NoneOf o v = piece.Stands o comparison.NotEqual v

abbrev pub in_values : Operand → Listing → InValues → SqlToken → Option SqlStep
in_values o how vs.Open token = on_mark token m.Open (tests (c.Values o how vs.First))
in_values o how vs.First token = on_value token (λ x. tests_say (c.Values o how vs.Listed) (first_said how o x))
in_values o how vs.Listed token = behind_value o how token
in_values o how vs.Next token = on_value token (λ x. tests_say (c.Values o how vs.Listed) (next_said how o x))

abbrev pub choice : InChoice → Option SqlStep
choice next = tests (c.Choice next)

abbrev pub choice_says : SqlPiece → Option SqlStep
choice_says piece = tests_say (c.Choice ch.Either) piece

abbrev pub in_choice : InChoice → SqlToken → Option SqlStep
in_choice ch.Open token = option_and_then (λ o. choice (ch.Tested o)) (tested token)
in_choice (ch.Tested o) token = on_mark token m.Equal (choice (ch.Equal o))
in_choice (ch.Equal o) token = on_value token (λ x. choice_says (piece.Is o x))
in_choice ch.Either token = behind_choice token
in_choice ch.Or token = option_and_then (λ o. choice (ch.OrTested o)) (tested token)
in_choice (ch.OrTested o) token = on_mark token m.Equal (choice (ch.OrEqual o))
in_choice (ch.OrEqual o) token = on_value token (λ x. choice_says (piece.OrIs o x))

-- behind a condition that says this
abbrev pub tested_by : SqlPiece → Option SqlStep
tested_by piece = tests_say c.Behind piece

-- whether what is tested is the key of a dimension
abbrev pub is_key : Table → Operand → Bool
is_key table (operand.Dimension column) = is_key_of table column
is_key table operand.Quantity = false
is_key table operand.Discount = false

-- behind `=`: a value, or, behind the key of a dimension, that of a line
abbrev pub equal : Operand → SqlToken → Option SqlStep
equal o (k.LineKey table) = if is_key table o then tested_by (piece.Joined table) else None
equal o token = on_value token (λ x. tested_by (piece.Is o x))

abbrev pub in_tests : InTests → SqlToken → Option SqlStep
in_tests c.Test token = test token
in_tests c.Behind token = behind_test token
in_tests (c.EqualKey table) token = on_mark token m.Equal (tests (c.LineKey table))
in_tests (c.EqualLineKey table) token = on_mark token m.Equal (tests (c.Key table))
in_tests (c.Key table) token = on_key token table (tested_by (piece.Joined table))
in_tests (c.LineKey table) token = on_line_key token table (tested_by (piece.Joined table))
in_tests (c.Tested o) token = behind_tested o token
in_tests (c.Equal o) token = equal o token
in_tests (c.Stands o how) token = on_value token (λ x. tested_by (piece.Stands o how x))
in_tests (c.From o) token = on_value token (λ x. tests (c.And o x))
in_tests (c.And o from) token = on_word token w.And (tests (c.To o from))
in_tests (c.To o from) token = on_value token (λ to. tested_by (piece.Between o from to))
in_tests (c.Not o) token = on_word token w.In (tests (c.Values o listing.NoneOf vs.Open))
in_tests (c.Values o how at) token = in_values o how at token
in_tests (c.Choice at) token = in_choice at token

-- behind a group column
abbrev pub behind_group : SqlToken → Option SqlStep
behind_group (k.Mark m.Comma) = end e.Group
behind_group (k.Word w.Having) = having h.Test
behind_group token = behind_groups token

-- what rows stand by
abbrev pub key : SqlToken → Option SqlStep
key (k.Column column) = end_says e.Keyed (piece.OrdersBy column)
key (k.Name name) = end_says e.Keyed (piece.OrdersByName name)
key (k.Value (Number place)) = end_says e.Keyed (piece.OrdersByPlace place)
key token = begun Ordering token

-- behind a direction
abbrev pub behind_direction : SqlToken → Option SqlStep
behind_direction (k.Mark m.Comma) = end e.Key
behind_direction (k.Word w.Limit) = end e.Limit
behind_direction (k.Mark m.Semicolon) = end e.Done
behind_direction _ = None

-- behind a key of the order
abbrev pub behind_key : SqlToken → Option SqlStep
behind_key (k.Word w.ByBytes) = end e.Keyed
behind_key (k.Word w.Asc) = end e.Directed
behind_key (k.Word w.Desc) = end_says e.Directed piece.Descending
behind_key token = behind_direction token

abbrev pub in_end : InEnd → SqlToken → Option SqlStep
in_end e.GroupBy token = on_word token w.By (end e.Group)
in_end e.Group token = option_and_then (λ column. end_says e.Grouped (piece.GroupsBy column)) (column_in token)
in_end e.Grouped token = behind_group token
in_end e.OrderBy token = on_word token w.By (end e.Key)
in_end e.Key token = key token
in_end e.Keyed token = behind_key token
in_end e.Directed token = behind_direction token
in_end e.Limit token = option_and_then (λ most. end_says e.Limited (piece.Limit most)) (number_in token)
in_end e.Limited token = on_mark token m.Semicolon (end e.Done)
in_end e.Done token = None

-- what a token leads to from a state; none where it may not come
abbrev pub step : State → SqlToken → Option SqlStep
step (state.List at) token = in_list at token
step (state.Tables at) token = in_tables at token
step (state.Tests at) token = in_tests at token
step (state.Having at) token = in_having at token
step (state.End at) token = in_end at token
step (state.Aggregate purpose at) token = in_aggregate purpose at token

-- whether a statement may end there
abbrev pub ends_tables : InTables → Bool
ends_tables t.Behind = true
ends_tables _ = false

abbrev pub ends_tests : InTests → Bool
ends_tests c.Behind = true
ends_tests _ = false

abbrev pub ends_having : InHaving → Bool
ends_having h.Behind = true
ends_having _ = false

abbrev pub ends_end : InEnd → Bool
ends_end e.Grouped = true
ends_end e.Keyed = true
ends_end e.Directed = true
ends_end e.Limited = true
ends_end e.Done = true
ends_end _ = false

abbrev pub may_end : State → Bool
may_end (state.List at) = false
may_end (state.Tables at) = ends_tables at
may_end (state.Tests at) = ends_tests at
may_end (state.Having at) = ends_having at
may_end (state.End at) = ends_end at
may_end (state.Aggregate purpose at) = false
