-- Each statement of the shape is read as what it says: part by part, from the last one.
use Rattle.std.proofs.Common.{◌≡◌, ◌∙◌, ap, refl, ℕ, Bool, true, false, List, [], ◌∷◌, Option, None, Some, Ok}
use Rattle.ssb_schema.specs.declared.column.Column.{Column}
use Rattle.ssb_schema.specs.declared.table.Table.{Table}
use Rattle.ssb_schema.specs.declared.table.Table.TheVariants.{Customer, Supplier, Part, Date, Lineorder}
use Rattle.ssb_questions.specs.declared.clause.Spelled.{Spelled}
use Rattle.ssb_questions.specs.declared.clause.Spelled.TheVariants as spelled
use Rattle.ssb_sql.specs.Laws.{StatementsAreRead}
use Rattle.ssb_sql.specs.Reading.{Outcome, run, say}
use Rattle.ssb_sql.specs.Select.{Added, Revenue, RevenueLessCost, PriceTimesDiscount, DiscountTimesPrice, Quantity}
use Rattle.ssb_sql.specs.Select.{ExtendedPrice, SupplyCost, key_token, excluded_say}
use Rattle.ssb_sql.specs.Select.{Computed, SumOf, AverageOf, CountOfLines, CountOrNull}
use Rattle.ssb_sql.specs.Select.{Item, Plain, PlainNamed, PlainNamedAs, Total, Named, NamedAs, Name}
use Rattle.ssb_sql.specs.Select.{Source, Beside, JoinedOn, JoinedOnTurned}
use Rattle.ssb_sql.specs.Select.{Condition, Joins, JoinsTurned, Compares, LiesBetween, OneOf, NoneOf, Choice}
use Rattle.ssb_sql.specs.Select.{Amount, Small, Great, Having}
use Rattle.ssb_sql.specs.Select.{By, ByColumn, ByName, ByPlace, ByAggregate, Direction, Unsaid, Upwards, Downwards, Key}
use Rattle.ssb_sql.specs.Select.{added_then, computed_then, item_then, items_then, sources_then, operand_token}
use Rattle.ssb_sql.specs.Select.{comparison_token, by_bytes_then, join_then, tested_then}
use Rattle.ssb_sql.specs.Select.{values_then, choices_then, condition_then, ands_then, where_then, columns_then}
use Rattle.ssb_sql.specs.Select.{groups_then, number_then, having_then, more_having_then, all_having_then, by_then}
use Rattle.ssb_sql.specs.Select.{direction_then, key_then, keys_then, order_then, limit_then, end_tokens}
use Rattle.ssb_sql.specs.Select.{measure_of, aggregate_of, compared_piece, number_of, having_says}
use Rattle.ssb_sql.specs.Select.{item_says, items_say, sources_say, values_say, choices_say, condition_says}
use Rattle.ssb_sql.specs.Select.{conditions_say, groups_say, by_piece, direction_says, keys_say, limit_says}
use Rattle.ssb_sql.specs.Step.{computed, closed}
use Rattle.ssb_sql.specs.declared.piece.Aggregate.{Aggregate}
use Rattle.ssb_sql.specs.declared.piece.Comparison.{Comparison}
use Rattle.ssb_sql.specs.declared.piece.Comparison.TheVariants as comparison
use Rattle.ssb_sql.specs.declared.piece.Operand.{Operand}
use Rattle.ssb_sql.specs.declared.piece.Operand.TheVariants as operand
use Rattle.ssb_sql.specs.declared.piece.SqlPiece.{SqlPiece}
use Rattle.ssb_sql.specs.declared.piece.SqlPiece.TheVariants as piece
use Rattle.ssb_sql.specs.declared.state.Adding.{Adding}
use Rattle.ssb_sql.specs.declared.state.Adding.TheVariants as adding
use Rattle.ssb_sql.specs.declared.state.InAggregate.TheVariants as ag
use Rattle.ssb_sql.specs.declared.state.InChoice.TheVariants as ch
use Rattle.ssb_sql.specs.declared.state.InEnd.TheVariants as e
use Rattle.ssb_sql.specs.declared.state.InHaving.TheVariants as h
use Rattle.ssb_sql.specs.declared.state.InList.TheVariants as l
use Rattle.ssb_sql.specs.declared.state.InTables.TheVariants as t
use Rattle.ssb_sql.specs.declared.state.InTests.TheVariants as c
use Rattle.ssb_sql.specs.declared.state.InValues.TheVariants as vs
use Rattle.ssb_sql.specs.declared.state.Listing.TheVariants as listing
use Rattle.ssb_sql.specs.declared.state.Purpose.{Purpose}
use Rattle.ssb_sql.specs.declared.state.Purpose.TheVariants.{Printing, Keeping, Ordering}
use Rattle.ssb_sql.specs.declared.state.State.{State}
use Rattle.ssb_sql.specs.declared.state.State.TheVariants as state
use Rattle.ssb_sql.specs.declared.token.Mark.TheVariants as m
use Rattle.ssb_sql.specs.declared.token.SqlToken.{SqlToken}
use Rattle.ssb_sql.specs.declared.token.SqlToken.TheVariants as k
use Rattle.ssb_sql.specs.declared.token.SqlWord.TheVariants as w

-- ---- the aggregates

-- what an aggregate makes: it is said, or groups are tested by it
abbrev made : Purpose → Aggregate → List SqlToken → Outcome
made Printing aggregate rest = say (piece.Computes aggregate) (run rest (state.List l.Total))
made Keeping aggregate rest = run rest (state.Having (h.Tested aggregate))
made Ordering aggregate rest = say (piece.OrdersByAggregate aggregate) (run rest (state.End e.Keyed))

added_read : (purpose : Purpose) (adds : Adding) (added : Added) (rest : List SqlToken)
    → run (added_then added rest) (state.Aggregate purpose (ag.Adds adds))
    ≡ made purpose (computed adds (measure_of added)) rest
added_read Printing adds Revenue rest = refl
added_read Printing adds RevenueLessCost rest = refl
added_read Printing adds PriceTimesDiscount rest = refl
added_read Printing adds DiscountTimesPrice rest = refl
added_read Printing adds Quantity rest = refl
added_read Printing adds ExtendedPrice rest = refl
added_read Printing adds SupplyCost rest = refl
added_read Keeping adds Revenue rest = refl
added_read Keeping adds RevenueLessCost rest = refl
added_read Keeping adds PriceTimesDiscount rest = refl
added_read Keeping adds DiscountTimesPrice rest = refl
added_read Keeping adds Quantity rest = refl
added_read Keeping adds ExtendedPrice rest = refl
added_read Keeping adds SupplyCost rest = refl
added_read Ordering adds Revenue rest = refl
added_read Ordering adds RevenueLessCost rest = refl
added_read Ordering adds PriceTimesDiscount rest = refl
added_read Ordering adds DiscountTimesPrice rest = refl
added_read Ordering adds Quantity rest = refl
added_read Ordering adds ExtendedPrice rest = refl
added_read Ordering adds SupplyCost rest = refl

-- where an aggregate comes
abbrev coming : Purpose → State
coming Printing = state.List l.Item
coming Keeping = state.Having h.Test
coming Ordering = state.End e.Key

computed_read : (purpose : Purpose) (c : Computed) (rest : List SqlToken)
    → run (computed_then c rest) (coming purpose) ≡ made purpose (aggregate_of c) rest
computed_read Printing (SumOf added) rest = added_read Printing adding.Sum added rest
computed_read Printing (AverageOf added) rest = added_read Printing adding.Average added rest
computed_read Printing CountOfLines rest = refl
computed_read Printing CountOrNull rest = refl
computed_read Keeping (SumOf added) rest = added_read Keeping adding.Sum added rest
computed_read Keeping (AverageOf added) rest = added_read Keeping adding.Average added rest
computed_read Keeping CountOfLines rest = refl
computed_read Keeping CountOrNull rest = refl
computed_read Ordering (SumOf added) rest = added_read Ordering adding.Sum added rest
computed_read Ordering (AverageOf added) rest = added_read Ordering adding.Average added rest
computed_read Ordering CountOfLines rest = refl
computed_read Ordering CountOrNull rest = refl

-- ---- what is printed

abbrev after_item : Item → State
after_item (Plain column) = state.List l.Total
after_item (PlainNamed column name) = state.List l.Behind
after_item (PlainNamedAs column name) = state.List l.Behind
after_item (Total computed) = state.List l.Total
after_item (Named computed name) = state.List l.Behind
after_item (NamedAs computed name) = state.List l.Behind

item_read : (i : Item) (rest : List SqlToken) (ps : List SqlPiece) → run rest (after_item i) ≡ Ok ps
    → run (item_then i rest) (state.List l.Item) ≡ Ok (item_says i ps)
item_read (Plain column) rest ps h = ap (say (piece.Prints column)) h
item_read (PlainNamed column name) rest ps h = ap (λ r. say (piece.Prints column) (say (piece.Called name) r)) h
item_read (PlainNamedAs column name) rest ps h = ap (λ r. say (piece.Prints column) (say (piece.Called name) r)) h
item_read (Total c) rest ps h = computed_read Printing c rest ∙ ap (say (piece.Computes (aggregate_of c))) h
item_read (Named c name) rest ps h =
    computed_read Printing c (k.Name name ∷ rest)
    ∙ ap (λ r. say (piece.Computes (aggregate_of c)) (say (piece.Called name) r)) h
item_read (NamedAs c name) rest ps h =
    computed_read Printing c (k.Word w.As ∷ k.Name name ∷ rest)
    ∙ ap (λ r. say (piece.Computes (aggregate_of c)) (say (piece.Called name) r)) h

items_read : (i : Item) (items : List Item) (rest : List SqlToken) (ps : List SqlPiece)
    → run rest (state.Tables t.Table) ≡ Ok ps
    → run (items_then items (k.Word w.From ∷ rest)) (after_item i) ≡ Ok (items_say items ps)
items_read (Plain column) [] rest ps h = h
items_read (PlainNamed column name) [] rest ps h = h
items_read (PlainNamedAs column name) [] rest ps h = h
items_read (Total m) [] rest ps h = h
items_read (Named m name) [] rest ps h = h
items_read (NamedAs m name) [] rest ps h = h
items_read (Plain column) (j ∷ js) rest ps h =
    item_read j (items_then js (k.Word w.From ∷ rest)) (items_say js ps) (items_read j js rest ps h)
items_read (PlainNamed column name) (j ∷ js) rest ps h =
    item_read j (items_then js (k.Word w.From ∷ rest)) (items_say js ps) (items_read j js rest ps h)
items_read (PlainNamedAs column name) (j ∷ js) rest ps h =
    item_read j (items_then js (k.Word w.From ∷ rest)) (items_say js ps) (items_read j js rest ps h)
items_read (Total m) (j ∷ js) rest ps h =
    item_read j (items_then js (k.Word w.From ∷ rest)) (items_say js ps) (items_read j js rest ps h)
items_read (Named m name) (j ∷ js) rest ps h =
    item_read j (items_then js (k.Word w.From ∷ rest)) (items_say js ps) (items_read j js rest ps h)
items_read (NamedAs m name) (j ∷ js) rest ps h =
    item_read j (items_then js (k.Word w.From ∷ rest)) (items_say js ps) (items_read j js rest ps h)

-- ---- what is read

-- the second key of a join
key_joins : (own : Table) (rest : List SqlToken)
    → run (key_token own ∷ rest) (state.Tables (t.Key2 own)) ≡ say (piece.Joined own) (run rest (state.Tables t.Behind))
key_joins Customer rest = refl
key_joins Supplier rest = refl
key_joins Part rest = refl
key_joins Date rest = refl
key_joins Lineorder rest = refl

line_key_joins : (own : Table) (rest : List SqlToken)
    → run (key_token own ∷ k.Mark m.Equal ∷ k.LineKey own ∷ rest) (state.Tables t.Key)
    ≡ say (piece.Joined own) (run rest (state.Tables t.Behind))
line_key_joins Customer rest = refl
line_key_joins Supplier rest = refl
line_key_joins Part rest = refl
line_key_joins Date rest = refl
line_key_joins Lineorder rest = refl

sources_read : (sources : List Source) (rest : List SqlToken) (ps : List SqlPiece)
    → run rest (state.Tables t.Behind) ≡ Ok ps
    → run (sources_then sources rest) (state.Tables t.Behind) ≡ Ok (sources_say sources ps)
sources_read [] rest ps h = h
sources_read (Beside own ∷ sources) rest ps h = ap (say (piece.From own)) (sources_read sources rest ps h)
sources_read (JoinedOn true own ∷ sources) rest ps h =
    ap (say (piece.From own))
    (key_joins own (sources_then sources rest) ∙ ap (say (piece.Joined own)) (sources_read sources rest ps h))
sources_read (JoinedOn false own ∷ sources) rest ps h =
    ap (say (piece.From own))
    (key_joins own (sources_then sources rest) ∙ ap (say (piece.Joined own)) (sources_read sources rest ps h))
sources_read (JoinedOnTurned true own ∷ sources) rest ps h =
    ap (say (piece.From own))
    (line_key_joins own (sources_then sources rest) ∙ ap (say (piece.Joined own)) (sources_read sources rest ps h))
sources_read (JoinedOnTurned false own ∷ sources) rest ps h =
    ap (say (piece.From own))
    (line_key_joins own (sources_then sources rest) ∙ ap (say (piece.Joined own)) (sources_read sources rest ps h))

-- ---- the conditions

-- what is tested
tested_read : (by_bytes : Bool) (o : Operand) (rest : List SqlToken)
    → run (tested_then by_bytes o rest) (state.Tests c.Test) ≡ run rest (state.Tests (c.Tested o))
tested_read true (operand.Dimension column) rest = refl
tested_read true operand.Quantity rest = refl
tested_read true operand.Discount rest = refl
tested_read false (operand.Dimension column) rest = refl
tested_read false operand.Quantity rest = refl
tested_read false operand.Discount rest = refl

open_read : (o : Operand) (rest : List SqlToken)
    → run (operand_token o ∷ rest) (state.Tests (c.Choice ch.Open)) ≡ run rest (state.Tests (c.Choice (ch.Tested o)))
open_read (operand.Dimension column) rest = refl
open_read operand.Quantity rest = refl
open_read operand.Discount rest = refl

or_read : (o : Operand) (rest : List SqlToken)
    → run (operand_token o ∷ rest) (state.Tests (c.Choice ch.Or)) ≡ run rest (state.Tests (c.Choice (ch.OrTested o)))
or_read (operand.Dimension column) rest = refl
or_read operand.Quantity rest = refl
or_read operand.Discount rest = refl

-- how it stands to a value
compared : (o : Operand) (how : Comparison) (v : Spelled) (rest : List SqlToken)
    → run (comparison_token how ∷ k.Value v ∷ rest) (state.Tests (c.Tested o))
    ≡ say (compared_piece o how v) (run rest (state.Tests c.Behind))
compared o comparison.Equal v rest = refl
compared o comparison.NotEqual v rest = refl
compared o comparison.Less v rest = refl
compared o comparison.LessOrEqual v rest = refl
compared o comparison.Greater v rest = refl
compared o comparison.GreaterOrEqual v rest = refl

-- the key that ends a join
key_tests : (own : Table) (rest : List SqlToken)
    → run (key_token own ∷ rest) (state.Tests (c.Key own)) ≡ say (piece.Joined own) (run rest (state.Tests c.Behind))
key_tests Customer rest = refl
key_tests Supplier rest = refl
key_tests Part rest = refl
key_tests Date rest = refl
key_tests Lineorder rest = refl

line_key_tests : (own : Table) (rest : List SqlToken)
    → run (key_token own ∷ k.Mark m.Equal ∷ k.LineKey own ∷ rest) (state.Tests c.Test)
    ≡ say (piece.Joined own) (run rest (state.Tests c.Behind))
line_key_tests Customer rest = refl
line_key_tests Supplier rest = refl
line_key_tests Part rest = refl
line_key_tests Date rest = refl
line_key_tests Lineorder rest = refl

values_read : (o : Operand) (values : List Spelled) (rest : List SqlToken) (ps : List SqlPiece)
    → run rest (state.Tests c.Behind) ≡ Ok ps
    → run (values_then values (k.Mark m.Close ∷ rest)) (state.Tests (c.Values o listing.OneOf vs.Listed))
    ≡ Ok (values_say o values ps)
values_read o [] rest ps h = h
values_read o (v ∷ values) rest ps h = ap (say (piece.OrIs o v)) (values_read o values rest ps h)

excluded_read : (o : Operand) (values : List Spelled) (rest : List SqlToken) (ps : List SqlPiece)
    → run rest (state.Tests c.Behind) ≡ Ok ps
    → run (values_then values (k.Mark m.Close ∷ rest)) (state.Tests (c.Values o listing.NoneOf vs.Listed))
    ≡ Ok (excluded_say o values ps)
excluded_read o [] rest ps h = h
excluded_read o (v ∷ values) rest ps h =
    ap (say (piece.Stands o comparison.NotEqual v)) (excluded_read o values rest ps h)

choices_read : (choices : List (Operand × Spelled)) (rest : List SqlToken) (ps : List SqlPiece)
    → run rest (state.Tests c.Behind) ≡ Ok ps
    → run (choices_then choices (k.Mark m.Close ∷ rest)) (state.Tests (c.Choice ch.Either)) ≡ Ok (choices_say choices ps)
choices_read [] rest ps h = h
choices_read (choice ∷ choices) rest ps h =
    or_read choice.0 (k.Mark m.Equal ∷ k.Value choice.1 ∷ choices_then choices (k.Mark m.Close ∷ rest))
    ∙ ap (say (piece.OrIs choice.0 choice.1)) (choices_read choices rest ps h)

condition_read : (condition : Condition) (rest : List SqlToken) (ps : List SqlPiece)
    → run rest (state.Tests c.Behind) ≡ Ok ps
    → run (condition_then condition rest) (state.Tests c.Test) ≡ Ok (condition_says condition ps)
condition_read (Joins own) rest ps h = key_tests own rest ∙ ap (say (piece.Joined own)) h
condition_read (JoinsTurned own) rest ps h = line_key_tests own rest ∙ ap (say (piece.Joined own)) h
condition_read (Compares by_bytes o how v) rest ps h =
    tested_read by_bytes o (comparison_token how ∷ k.Value v ∷ rest)
    ∙ (compared o how v rest ∙ ap (say (compared_piece o how v)) h)
condition_read (LiesBetween by_bytes o from to) rest ps h =
    tested_read by_bytes o (k.Word w.Between ∷ k.Value from ∷ k.Word w.And ∷ k.Value to ∷ rest)
    ∙ ap (say (piece.Between o from to)) h
condition_read (OneOf by_bytes o v values) rest ps h =
    tested_read by_bytes o
    (k.Word w.In ∷ k.Mark m.Open ∷ k.Value v ∷ values_then values (k.Mark m.Close ∷ rest))
    ∙ ap (say (piece.Is o v)) (values_read o values rest ps h)
condition_read (NoneOf by_bytes o v values) rest ps h =
    tested_read by_bytes o
    (k.Word w.Not ∷ k.Word w.In ∷ k.Mark m.Open ∷ k.Value v ∷ values_then values (k.Mark m.Close ∷ rest))
    ∙ ap (say (piece.Stands o comparison.NotEqual v)) (excluded_read o values rest ps h)
condition_read (Choice o v choices) rest ps h =
    open_read o (k.Mark m.Equal ∷ k.Value v ∷ choices_then choices (k.Mark m.Close ∷ rest))
    ∙ ap (say (piece.Is o v)) (choices_read choices rest ps h)

ands_read : (conditions : List Condition) (rest : List SqlToken) (ps : List SqlPiece)
    → run rest (state.Tests c.Behind) ≡ Ok ps
    → run (ands_then conditions rest) (state.Tests c.Behind) ≡ Ok (conditions_say conditions ps)
ands_read [] rest ps h = h
ands_read (condition ∷ conditions) rest ps h =
    condition_read condition (ands_then conditions rest) (conditions_say conditions ps)
    (ands_read conditions rest ps h)

abbrev behind_where : List Condition → State
behind_where [] = state.Tables t.Behind
behind_where (condition ∷ conditions) = state.Tests c.Behind

where_read : (conditions : List Condition) (rest : List SqlToken) (ps : List SqlPiece)
    → run rest (behind_where conditions) ≡ Ok ps
    → run (where_then conditions rest) (state.Tables t.Behind) ≡ Ok (conditions_say conditions ps)
where_read [] rest ps h = h
where_read (condition ∷ conditions) rest ps h =
    condition_read condition (ands_then conditions rest) (conditions_say conditions ps)
    (ands_read conditions rest ps h)

-- ---- the groups

columns_read : (columns : List Column) (rest : List SqlToken) (ps : List SqlPiece)
    → run rest (state.End e.Grouped) ≡ Ok ps
    → run (columns_then columns rest) (state.End e.Grouped) ≡ Ok (groups_say columns ps)
columns_read [] rest ps h = h
columns_read (column ∷ columns) rest ps h = ap (say (piece.GroupsBy column)) (columns_read columns rest ps h)

abbrev behind_groups : List Condition → List Column → State
behind_groups conditions [] = behind_where conditions
behind_groups conditions (column ∷ columns) = state.End e.Grouped

groups_read : (conditions : List Condition) (columns : List Column) (rest : List SqlToken) (ps : List SqlPiece)
    → run rest (behind_groups conditions columns) ≡ Ok ps
    → run (groups_then columns rest) (behind_where conditions) ≡ Ok (groups_say columns ps)
groups_read conditions [] rest ps h = h
groups_read [] (column ∷ columns) rest ps h = ap (say (piece.GroupsBy column)) (columns_read columns rest ps h)
groups_read (condition ∷ conditions) (column ∷ columns) rest ps h =
    ap (say (piece.GroupsBy column)) (columns_read columns rest ps h)

-- ---- the tests of groups

negative_read : (a : Aggregate) (how : Comparison) (is_negative : Bool) (amount : Amount) (rest : List SqlToken)
    → run (comparison_token how ∷ number_then is_negative amount rest) (state.Having (h.Tested a))
    ≡ say (piece.Keeps a how (number_of is_negative amount)) (run rest (state.Having h.Behind))
negative_read a comparison.Equal true (Small n) rest = refl
negative_read a comparison.Equal true (Great n) rest = refl
negative_read a comparison.Equal false (Small n) rest = refl
negative_read a comparison.Equal false (Great n) rest = refl
negative_read a comparison.NotEqual true (Small n) rest = refl
negative_read a comparison.NotEqual true (Great n) rest = refl
negative_read a comparison.NotEqual false (Small n) rest = refl
negative_read a comparison.NotEqual false (Great n) rest = refl
negative_read a comparison.Less true (Small n) rest = refl
negative_read a comparison.Less true (Great n) rest = refl
negative_read a comparison.Less false (Small n) rest = refl
negative_read a comparison.Less false (Great n) rest = refl
negative_read a comparison.LessOrEqual true (Small n) rest = refl
negative_read a comparison.LessOrEqual true (Great n) rest = refl
negative_read a comparison.LessOrEqual false (Small n) rest = refl
negative_read a comparison.LessOrEqual false (Great n) rest = refl
negative_read a comparison.Greater true (Small n) rest = refl
negative_read a comparison.Greater true (Great n) rest = refl
negative_read a comparison.Greater false (Small n) rest = refl
negative_read a comparison.Greater false (Great n) rest = refl
negative_read a comparison.GreaterOrEqual true (Small n) rest = refl
negative_read a comparison.GreaterOrEqual true (Great n) rest = refl
negative_read a comparison.GreaterOrEqual false (Small n) rest = refl
negative_read a comparison.GreaterOrEqual false (Great n) rest = refl

test_read : (test : Having) (rest : List SqlToken) (ps : List SqlPiece) → run rest (state.Having h.Behind) ≡ Ok ps
    → run (having_then test rest) (state.Having h.Test)
    ≡ Ok (piece.Keeps (aggregate_of test.computed) test.how (number_of test.is_negative test.amount) ∷ ps)
test_read test rest ps told =
    computed_read Keeping test.computed (comparison_token test.how ∷ number_then test.is_negative test.amount rest)
    ∙ (negative_read (aggregate_of test.computed) test.how test.is_negative test.amount rest
    ∙ ap (say (piece.Keeps (aggregate_of test.computed) test.how (number_of test.is_negative test.amount))) told)

more_read : (tests : List Having) (rest : List SqlToken) (ps : List SqlPiece) → run rest (state.Having h.Behind) ≡ Ok ps
    → run (more_having_then tests rest) (state.Having h.Behind) ≡ Ok (having_says tests ps)
more_read [] rest ps told = told
more_read (test ∷ tests) rest ps told =
    test_read test (more_having_then tests rest) (having_says tests ps) (more_read tests rest ps told)

abbrev behind_having : List Condition → List Column → List Having → State
behind_having conditions columns [] = behind_groups conditions columns
behind_having conditions columns (test ∷ tests) = state.Having h.Behind

-- HAVING may follow
having_begins : (conditions : List Condition) (columns : List Column) (rest : List SqlToken)
    → run (k.Word w.Having ∷ rest) (behind_groups conditions columns) ≡ run rest (state.Having h.Test)
having_begins [] [] rest = refl
having_begins (condition ∷ conditions) [] rest = refl
having_begins conditions (column ∷ columns) rest = refl

having_read : (conditions : List Condition) (columns : List Column) (tests : List Having) (rest : List SqlToken)
    (ps : List SqlPiece) → run rest (behind_having conditions columns tests) ≡ Ok ps
    → run (all_having_then tests rest) (behind_groups conditions columns) ≡ Ok (having_says tests ps)
having_read conditions columns [] rest ps told = told
having_read conditions columns (test ∷ tests) rest ps told =
    having_begins conditions columns (having_then test (more_having_then tests rest))
    ∙ test_read test (more_having_then tests rest) (having_says tests ps) (more_read tests rest ps told)

-- ---- where a statement may end

-- LIMIT may follow, or the end
record IsTail (at : State) : Type 0 where
  limit : (most : ℕ) (rest : List SqlToken)
      → run (k.Word w.Limit ∷ k.Value (spelled.Number most) ∷ rest) at
      ≡ say (piece.Limit most) (run rest (state.End e.Limited))
  end : (semicolon : Bool) → run (end_tokens semicolon) at ≡ Ok []

ends_tables : (semicolon : Bool) → run (end_tokens semicolon) (state.Tables t.Behind) ≡ Ok []
ends_tables true = refl
ends_tables false = refl

ends_tests : (semicolon : Bool) → run (end_tokens semicolon) (state.Tests c.Behind) ≡ Ok []
ends_tests true = refl
ends_tests false = refl

ends_grouped : (semicolon : Bool) → run (end_tokens semicolon) (state.End e.Grouped) ≡ Ok []
ends_grouped true = refl
ends_grouped false = refl

ends_having : (semicolon : Bool) → run (end_tokens semicolon) (state.Having h.Behind) ≡ Ok []
ends_having true = refl
ends_having false = refl

ends_keyed : (semicolon : Bool) → run (end_tokens semicolon) (state.End e.Keyed) ≡ Ok []
ends_keyed true = refl
ends_keyed false = refl

ends_directed : (semicolon : Bool) → run (end_tokens semicolon) (state.End e.Directed) ≡ Ok []
ends_directed true = refl
ends_directed false = refl

ends_limited : (semicolon : Bool) → run (end_tokens semicolon) (state.End e.Limited) ≡ Ok []
ends_limited true = refl
ends_limited false = refl

where_tail : (conditions : List Condition) → IsTail (behind_where conditions)
where_tail [] = record { limit = λ most rest. refl; end = ends_tables }
where_tail (condition ∷ conditions) = record { limit = λ most rest. refl; end = ends_tests }

groups_tail : (conditions : List Condition) (columns : List Column) → IsTail (behind_groups conditions columns)
groups_tail conditions [] = where_tail conditions
groups_tail conditions (column ∷ columns) = record { limit = λ most rest. refl; end = ends_grouped }

having_tail : (conditions : List Condition) (columns : List Column) (tests : List Having)
    → IsTail (behind_having conditions columns tests)
having_tail conditions columns [] = groups_tail conditions columns
having_tail conditions columns (test ∷ tests) = record { limit = λ most rest. refl; end = ends_having }

limit_read : (at : State) → IsTail at → (limit : Option ℕ) (semicolon : Bool)
    → run (limit_then limit (end_tokens semicolon)) at ≡ Ok (limit_says limit)
limit_read at tail None semicolon = tail.end semicolon
limit_read at tail (Some most) semicolon =
    tail.limit most (end_tokens semicolon) ∙ ap (say (piece.Limit most)) (ends_limited semicolon)

-- ---- the order

abbrev after_direction : Direction → State
after_direction Unsaid = state.End e.Keyed
after_direction Upwards = state.End e.Directed
after_direction Downwards = state.End e.Directed

by_read : (by : By) (rest : List SqlToken)
    → run (by_then by rest) (state.End e.Key) ≡ say (by_piece by) (run rest (state.End e.Keyed))
by_read (ByColumn column) rest = refl
by_read (ByName name) rest = refl
by_read (ByPlace place) rest = refl
by_read (ByAggregate c) rest = computed_read Ordering c rest

directed_read : (by_bytes : Bool) (direction : Direction) (rest : List SqlToken) (ps : List SqlPiece)
    → run rest (after_direction direction) ≡ Ok ps
    → run (by_bytes_then by_bytes (direction_then direction rest)) (state.End e.Keyed)
    ≡ Ok (direction_says direction ps)
directed_read true Unsaid rest ps told = told
directed_read true Upwards rest ps told = told
directed_read true Downwards rest ps told = ap (say piece.Descending) told
directed_read false Unsaid rest ps told = told
directed_read false Upwards rest ps told = told
directed_read false Downwards rest ps told = ap (say piece.Descending) told

key_read : (key : Key) (rest : List SqlToken) (ps : List SqlPiece) → run rest (after_direction key.direction) ≡ Ok ps
    → run (key_then key rest) (state.End e.Key) ≡ Ok (by_piece key.by ∷ direction_says key.direction ps)
key_read key rest ps told =
    by_read key.by (by_bytes_then key.by_bytes (direction_then key.direction rest))
    ∙ ap (say (by_piece key.by)) (directed_read key.by_bytes key.direction rest ps told)

comma_read : (direction : Direction) (rest : List SqlToken)
    → run (k.Mark m.Comma ∷ rest) (after_direction direction) ≡ run rest (state.End e.Key)
comma_read Unsaid rest = refl
comma_read Upwards rest = refl
comma_read Downwards rest = refl

-- how the last key ends
abbrev after_keys : Key → List Key → State
after_keys key [] = after_direction key.direction
after_keys key (next ∷ keys) = after_keys next keys

direction_tail : (direction : Direction) → IsTail (after_direction direction)
direction_tail Unsaid = record { limit = λ most rest. refl; end = ends_keyed }
direction_tail Upwards = record { limit = λ most rest. refl; end = ends_directed }
direction_tail Downwards = record { limit = λ most rest. refl; end = ends_directed }

keys_tail : (key : Key) (keys : List Key) → IsTail (after_keys key keys)
keys_tail key [] = direction_tail key.direction
keys_tail key (next ∷ keys) = keys_tail next keys

keys_read : (key : Key) (keys : List Key) (rest : List SqlToken) (ps : List SqlPiece)
    → run rest (after_keys key keys) ≡ Ok ps
    → run (keys_then keys rest) (after_direction key.direction) ≡ Ok (keys_say keys ps)
keys_read key [] rest ps h = h
keys_read key (next ∷ keys) rest ps h =
    comma_read key.direction (key_then next (keys_then keys rest))
    ∙ key_read next (keys_then keys rest) (keys_say keys ps)
    (keys_read next keys rest ps h)

-- ORDER BY may follow
order_begins : (conditions : List Condition) (columns : List Column) (tests : List Having) (rest : List SqlToken)
    → run (k.Word w.Order ∷ k.Word w.By ∷ rest) (behind_having conditions columns tests) ≡ run rest (state.End e.Key)
order_begins [] [] [] rest = refl
order_begins (condition ∷ conditions) [] [] rest = refl
order_begins conditions (column ∷ columns) [] rest = refl
order_begins conditions columns (test ∷ tests) rest = refl

order_read : (conditions : List Condition) (columns : List Column) (tests : List Having) (keys : List Key)
    (limit : Option ℕ) (semicolon : Bool)
    → run (order_then keys (limit_then limit (end_tokens semicolon))) (behind_having conditions columns tests)
    ≡ Ok (keys_say keys (limit_says limit))
order_read conditions columns tests [] limit semicolon =
    limit_read (behind_having conditions columns tests) (having_tail conditions columns tests) limit semicolon
order_read conditions columns tests (key ∷ keys) limit semicolon =
    let rest = limit_then limit (end_tokens semicolon) in
    order_begins conditions columns tests (key_then key (keys_then keys rest))
    ∙ key_read key (keys_then keys rest) (keys_say keys (limit_says limit))
    (keys_read key keys rest (limit_says limit)
    (limit_read (after_keys key keys) (keys_tail key keys) limit semicolon))

-- ---- the whole

pub statements_read : StatementsAreRead
statements_read s =
    let limited = limit_then s.limit (end_tokens s.semicolon) in
    let ordered = order_then s.keys limited in
    let kept = all_having_then s.having ordered in
    let grouped = groups_then s.groups kept in
    let tested = where_then s.conditions grouped in
    let joined = sources_then s.sources tested in
    let says_order = keys_say s.keys (limit_says s.limit) in
    let says_having = having_says s.having says_order in
    let says_groups = groups_say s.groups says_having in
    let says_tests = conditions_say s.conditions says_groups in
    let says_tables = piece.From s.table ∷ sources_say s.sources says_tests in
    item_read s.item (items_then s.items (k.Word w.From ∷ k.Table s.table ∷ joined)) (items_say s.items says_tables)
    (items_read s.item s.items (k.Table s.table ∷ joined) says_tables
    (ap (say (piece.From s.table))
    (sources_read s.sources tested says_tests
    (where_read s.conditions grouped says_groups
    (groups_read s.conditions s.groups kept says_having
    (having_read s.conditions s.groups s.having ordered says_order
    (order_read s.conditions s.groups s.having s.keys s.limit s.semicolon)))))))
