-- A statement is read alike wherever the texts in its tokens lie.
use Rattle.std.proofs.Common.{◌≡◌, ◌∙◌, ap, refl, sym, ℕ, suc, Bool, true, false, eqb, if◌then◌else◌, List, [], ◌∷◌, map, length}
use Rattle.std.proofs.Common.{Option, None, Some, option_map, option_and_then, Ok, Err}
use Rattle.std.specs.Borrow.{Bor}
use Rattle.ssb_schema.specs.declared.column.Column.{Column}
use Rattle.ssb_schema.specs.declared.table.Table.{Table}
use Rattle.ssb_questions.specs.declared.clause.Spelled.{Spelled}
use Rattle.ssb_questions.specs.declared.plan.Measure.TheVariants as measure
use Rattle.ssb_sql.specs.declared.piece.Aggregate.{Aggregate}
use Rattle.ssb_sql.specs.declared.piece.Aggregate.TheVariants as aggregate
use Rattle.ssb_sql.specs.declared.piece.Comparison.{Comparison}
use Rattle.ssb_sql.specs.declared.piece.Comparison.TheVariants as comparison
use Rattle.ssb_sql.specs.declared.piece.Operand.{Operand}
use Rattle.ssb_sql.specs.declared.piece.Operand.TheVariants as operand
use Rattle.ssb_sql.specs.declared.piece.SqlPiece.{SqlPiece}
use Rattle.ssb_sql.specs.declared.piece.SqlPiece.TheVariants as piece
use Rattle.ssb_sql.specs.declared.state.Adding.{Adding}
use Rattle.ssb_sql.specs.declared.state.InAggregate.{InAggregate}
use Rattle.ssb_sql.specs.declared.state.InAggregate.TheVariants as ag
use Rattle.ssb_sql.specs.declared.state.InChoice.{InChoice}
use Rattle.ssb_sql.specs.declared.state.InChoice.TheVariants as ch
use Rattle.ssb_sql.specs.declared.state.InEnd.{InEnd}
use Rattle.ssb_sql.specs.declared.state.InEnd.TheVariants as e
use Rattle.ssb_sql.specs.declared.state.InHaving.{InHaving}
use Rattle.ssb_sql.specs.declared.state.InHaving.TheVariants as h
use Rattle.ssb_sql.specs.declared.state.InList.{InList}
use Rattle.ssb_sql.specs.declared.state.InList.TheVariants as l
use Rattle.ssb_sql.specs.declared.state.InNullIf.{InNullIf}
use Rattle.ssb_sql.specs.declared.state.InNullIf.TheVariants as ni
use Rattle.ssb_sql.specs.declared.state.InTables.{InTables}
use Rattle.ssb_sql.specs.declared.state.InTables.TheVariants as t
use Rattle.ssb_sql.specs.declared.state.InTests.{InTests}
use Rattle.ssb_sql.specs.declared.state.InTests.TheVariants as c
use Rattle.ssb_sql.specs.declared.state.InValues.{InValues}
use Rattle.ssb_sql.specs.declared.state.InValues.TheVariants as vs
use Rattle.ssb_sql.specs.declared.state.Listing.{Listing}
use Rattle.ssb_sql.specs.declared.state.Listing.TheVariants as listing
use Rattle.ssb_sql.specs.declared.state.Purpose.{Purpose}
use Rattle.ssb_sql.specs.declared.state.Purpose.TheVariants.{Printing, Keeping, Ordering}
use Rattle.ssb_sql.specs.declared.state.State.{State}
use Rattle.ssb_sql.specs.declared.state.State.TheVariants as state
use Rattle.ssb_sql.specs.declared.token.LineColumn.{LineColumn}
use Rattle.ssb_sql.specs.declared.token.LineColumn.TheVariants.{Quantity, ExtendedPrice, Discount, Revenue, SupplyCost}
use Rattle.ssb_sql.specs.declared.token.Mark.{Mark}
use Rattle.ssb_sql.specs.declared.token.Mark.TheVariants as m
use Rattle.ssb_sql.specs.declared.token.SqlToken.{SqlToken}
use Rattle.ssb_sql.specs.declared.token.SqlToken.TheVariants as k
use Rattle.ssb_sql.specs.declared.token.SqlWord.{SqlWord}
use Rattle.ssb_sql.specs.declared.token.SqlWord.TheVariants as w
use Rattle.ssb_sql.specs.declared.state.SqlStep.{SqlStep}
use Rattle.ssb_questions.specs.declared.clause.Spelled.TheVariants as spelled
use Rattle.ssb_sql.specs.Reading.{Outcome, ended, gone_on, read, run, said, say}
use Rattle.ssb_sql.specs.Step as spec
use Rattle.ssb_sql.specs.Texts.{bare, bare_value, bare_token, bare_piece, bare_tests, bare_state, bare_step}

abbrev Taken : Option SqlStep → Option SqlStep
Taken taken = option_map bare_step taken

-- ---- what a token is

if_taken : (d : Bool) (taken : Option SqlStep) → Taken taken ≡ taken
    → (if d then taken else None) ≡ Taken (if d then taken else None)
if_taken true taken same = sym same
if_taken false taken same = refl

on_mark : (token : SqlToken) (mark : Mark) (taken : Option SqlStep) → Taken taken ≡ taken
    → spec.on_mark (bare_token token) mark taken ≡ Taken (spec.on_mark token mark taken)
on_mark (k.Mark own) mark taken same = if_taken (eqb (spec.mark_code own) (spec.mark_code mark)) taken same
on_mark _ mark taken same = refl

on_word : (token : SqlToken) (word : SqlWord) (taken : Option SqlStep) → Taken taken ≡ taken
    → spec.on_word (bare_token token) word taken ≡ Taken (spec.on_word token word taken)
on_word (k.Word own) word taken same = if_taken (eqb (spec.word_code own) (spec.word_code word)) taken same
on_word _ word taken same = refl

on_key : (token : SqlToken) (own : Table) (taken : Option SqlStep) → Taken taken ≡ taken
    → spec.on_key (bare_token token) own taken ≡ Taken (spec.on_key token own taken)
on_key (k.Key other) own taken same = if_taken (spec.same_table own other) taken same
on_key (k.Column column) own taken same = if_taken (spec.is_key_of own column) taken same
on_key _ own taken same = refl

on_line_key : (token : SqlToken) (own : Table) (taken : Option SqlStep) → Taken taken ≡ taken
    → spec.on_line_key (bare_token token) own taken ≡ Taken (spec.on_line_key token own taken)
on_line_key (k.LineKey other) own taken same = if_taken (spec.same_table own other) taken same
on_line_key _ own taken same = refl

and_value : (f g : Spelled → Option SqlStep) → ((v : Spelled) → g (bare_value v) ≡ Taken (f v)) → (token : SqlToken)
    → option_and_then g (spec.value_in (bare_token token)) ≡ Taken (option_and_then f (spec.value_in token))
and_value f g same (k.Value v) = same v
and_value f g same (k.Large n) = same (spelled.Number n)
and_value f g same _ = refl

and_name : (f : Bor (List ℕ) → Option SqlStep) → ((name : Bor (List ℕ)) → f (bare name) ≡ Taken (f name))
    → (token : SqlToken)
    → option_and_then f (spec.name_in (bare_token token)) ≡ Taken (option_and_then f (spec.name_in token))
and_name f same (k.Name name) = same name
and_name f same _ = refl

and_number : (f : ℕ → Option SqlStep) → ((n : ℕ) → Taken (f n) ≡ f n) → (token : SqlToken)
    → option_and_then f (spec.number_in (bare_token token)) ≡ Taken (option_and_then f (spec.number_in token))
and_number f same (k.Value (spelled.Number n)) = sym (same n)
and_number f same (k.Value (spelled.Text text)) = refl
and_number f same _ = refl

and_amount : (f : ℕ → Option SqlStep) → ((n : ℕ) → Taken (f n) ≡ f n) → (token : SqlToken)
    → option_and_then f (spec.amount_in (bare_token token)) ≡ Taken (option_and_then f (spec.amount_in token))
and_amount f same (k.Value (spelled.Number n)) = sym (same n)
and_amount f same (k.Value (spelled.Text text)) = refl
and_amount f same (k.Large n) = sym (same n)
and_amount f same _ = refl

and_comparison : (f : Comparison → Option SqlStep) → ((how : Comparison) → Taken (f how) ≡ f how) → (token : SqlToken)
    → option_and_then f (spec.comparison_in (bare_token token)) ≡ Taken (option_and_then f (spec.comparison_in token))
and_comparison f same (k.Mark m.Equal) = sym (same comparison.Equal)
and_comparison f same (k.Mark m.NotEqual) = sym (same comparison.NotEqual)
and_comparison f same (k.Mark m.Less) = sym (same comparison.Less)
and_comparison f same (k.Mark m.LessOrEqual) = sym (same comparison.LessOrEqual)
and_comparison f same (k.Mark m.Greater) = sym (same comparison.Greater)
and_comparison f same (k.Mark m.GreaterOrEqual) = sym (same comparison.GreaterOrEqual)
and_comparison f same _ = refl

and_table : (f : Table → Option SqlStep) → ((own : Table) → Taken (f own) ≡ f own) → (token : SqlToken)
    → option_and_then f (spec.table_in (bare_token token)) ≡ Taken (option_and_then f (spec.table_in token))
and_table f same (k.Table own) = sym (same own)
and_table f same _ = refl

and_column : (f : Column → Option SqlStep) → ((column : Column) → Taken (f column) ≡ f column) → (token : SqlToken)
    → option_and_then f (spec.column_in (bare_token token)) ≡ Taken (option_and_then f (spec.column_in token))
and_column f same (k.Column column) = sym (same column)
and_column f same _ = refl

and_line : (f : LineColumn → Option SqlStep) → ((column : LineColumn) → Taken (f column) ≡ f column) → (token : SqlToken)
    → option_and_then f (spec.line_in (bare_token token)) ≡ Taken (option_and_then f (spec.line_in token))
and_line f same (k.Line column) = sym (same column)
and_line f same _ = refl

and_mark : (f : Mark → Option SqlStep) → ((mark : Mark) → Taken (f mark) ≡ f mark) → (token : SqlToken)
    → option_and_then f (spec.mark_in (bare_token token)) ≡ Taken (option_and_then f (spec.mark_in token))
and_mark f same (k.Mark mark) = sym (same mark)
and_mark f same _ = refl

and_tested : (f : Operand → Option SqlStep) → ((o : Operand) → Taken (f o) ≡ f o) → (token : SqlToken)
    → option_and_then f (spec.tested (bare_token token)) ≡ Taken (option_and_then f (spec.tested token))
and_tested f same (k.Column column) = sym (same (operand.Dimension column))
and_tested f same (k.Line Quantity) = sym (same operand.Quantity)
and_tested f same (k.Line Discount) = sym (same operand.Discount)
and_tested f same _ = refl

-- ---- aggregates

closed : (purpose : Purpose) (made : Aggregate) → Taken (spec.closed purpose made) ≡ spec.closed purpose made
closed Printing made = refl
closed Keeping made = refl
closed Ordering made = refl

begun : (purpose : Purpose) (token : SqlToken)
    → spec.begun purpose (bare_token token) ≡ Taken (spec.begun purpose token)
begun purpose (k.Word w.Sum) = refl
begun purpose (k.Word w.Average) = refl
begun purpose (k.Word w.Count) = refl
begun purpose (k.Word w.NullIf) = refl
begun purpose _ = refl

behind_revenue : (purpose : Purpose) (adding : Adding) (mark : Mark)
    → Taken (spec.behind_revenue purpose adding mark) ≡ spec.behind_revenue purpose adding mark
behind_revenue purpose adding m.Close = closed purpose (spec.computed adding measure.Revenue)
behind_revenue purpose adding m.Minus = refl
behind_revenue purpose adding _ = refl

behind_price : (purpose : Purpose) (adding : Adding) (mark : Mark)
    → Taken (spec.behind_price purpose adding mark) ≡ spec.behind_price purpose adding mark
behind_price purpose adding m.Close = closed purpose (spec.computed adding measure.ExtendedPrice)
behind_price purpose adding m.Star = refl
behind_price purpose adding _ = refl

behind_added : (purpose : Purpose) (adding : Adding) (column : LineColumn) (token : SqlToken)
    → spec.behind_added purpose adding column (bare_token token) ≡ Taken (spec.behind_added purpose adding column token)
behind_added purpose adding Revenue token =
    and_mark (spec.behind_revenue purpose adding) (behind_revenue purpose adding) token
behind_added purpose adding Quantity token =
    on_mark token m.Close _ (closed purpose (spec.computed adding measure.Quantity))
behind_added purpose adding ExtendedPrice token =
    and_mark (spec.behind_price purpose adding) (behind_price purpose adding) token
behind_added purpose adding SupplyCost token =
    on_mark token m.Close _ (closed purpose (spec.computed adding measure.SupplyCost))
behind_added purpose adding Discount token = on_mark token m.Star _ refl

behind_minus : (purpose : Purpose) (adding : Adding) (column : LineColumn)
    → Taken (spec.behind_minus purpose adding column) ≡ spec.behind_minus purpose adding column
behind_minus purpose adding SupplyCost = refl
behind_minus purpose adding _ = refl

behind_times : (purpose : Purpose) (adding : Adding) (column : LineColumn)
    → Taken (spec.behind_times purpose adding column) ≡ spec.behind_times purpose adding column
behind_times purpose adding Discount = refl
behind_times purpose adding _ = refl

behind_discount_times : (purpose : Purpose) (adding : Adding) (column : LineColumn)
    → Taken (spec.behind_discount_times purpose adding column) ≡ spec.behind_discount_times purpose adding column
behind_discount_times purpose adding ExtendedPrice = refl
behind_discount_times purpose adding _ = refl

on_zero : (purpose : Purpose) (n : ℕ) → Taken (spec.on_zero purpose n) ≡ spec.on_zero purpose n
on_zero purpose n = sym (if_taken (eqb n 0) (spec.computing purpose (ag.Close aggregate.CountOrNull)) refl)

in_null_if : (purpose : Purpose) (at : InNullIf) (token : SqlToken)
    → spec.in_null_if purpose at (bare_token token) ≡ Taken (spec.in_null_if purpose at token)
in_null_if purpose ni.Open token = on_mark token m.Open _ refl
in_null_if purpose ni.Count token = on_word token w.Count _ refl
in_null_if purpose ni.CountOpen token = on_mark token m.Open _ refl
in_null_if purpose ni.Star token = on_mark token m.Star _ refl
in_null_if purpose ni.CountClose token = on_mark token m.Close _ refl
in_null_if purpose ni.Comma token = on_mark token m.Comma _ refl
in_null_if purpose ni.Zero token = and_number (spec.on_zero purpose) (on_zero purpose) token

in_aggregate : (purpose : Purpose) (at : InAggregate) (token : SqlToken)
    → spec.in_aggregate purpose at (bare_token token) ≡ Taken (spec.in_aggregate purpose at token)
in_aggregate purpose (ag.Adds adding) token = on_mark token m.Open _ refl
in_aggregate purpose (ag.Added adding) token =
    and_line (λ column. spec.computing purpose (ag.AddedOf adding column)) (λ column. refl) token
in_aggregate purpose (ag.AddedOf adding column) token = behind_added purpose adding column token
in_aggregate purpose (ag.Minus adding) token =
    and_line (spec.behind_minus purpose adding) (behind_minus purpose adding) token
in_aggregate purpose (ag.Times adding) token =
    and_line (spec.behind_times purpose adding) (behind_times purpose adding) token
in_aggregate purpose (ag.TimesPrice adding) token =
    and_line (spec.behind_discount_times purpose adding) (behind_discount_times purpose adding) token
in_aggregate purpose (ag.Close made) token = on_mark token m.Close _ (closed purpose made)
in_aggregate purpose ag.Count token = on_mark token m.Open _ refl
in_aggregate purpose ag.Counted token = on_mark token m.Star _ refl
in_aggregate purpose (ag.NullIf at) token = in_null_if purpose at token

-- ---- the parts of a statement

in_stands : (made : Aggregate) (how : Comparison) (token : SqlToken)
    → spec.in_stands made how (bare_token token) ≡ Taken (spec.in_stands made how token)
in_stands made how (k.Mark m.Minus) = refl
in_stands made how (k.Value (spelled.Number n)) = refl
in_stands made how (k.Value (spelled.Text text)) = refl
in_stands made how _ = refl

behind_having : (token : SqlToken) → spec.behind_having (bare_token token) ≡ Taken (spec.behind_having token)
behind_having (k.Word w.And) = refl
behind_having (k.Word w.Order) = refl
behind_having (k.Word w.Limit) = refl
behind_having (k.Mark m.Semicolon) = refl
behind_having _ = refl

in_having : (at : InHaving) (token : SqlToken) → spec.in_having at (bare_token token) ≡ Taken (spec.in_having at token)
in_having h.Test token = begun Keeping token
in_having (h.Tested made) token = and_comparison (λ how. spec.having (h.Stands made how)) (λ how. refl) token
in_having (h.Stands made how) token = in_stands made how token
in_having (h.Minus made how) token = and_amount (spec.compared made how true) (λ n. refl) token
in_having h.Behind token = behind_having token

behind_total : (token : SqlToken) → spec.behind_total (bare_token token) ≡ Taken (spec.behind_total token)
behind_total (k.Word w.As) = refl
behind_total (k.Name name) = refl
behind_total (k.Mark m.Comma) = refl
behind_total (k.Word w.From) = refl
behind_total _ = refl

item : (token : SqlToken) → spec.item (bare_token token) ≡ Taken (spec.item token)
item (k.Column column) = refl
item (k.Word word) = begun Printing (k.Word word)
item _ = refl

behind_item : (token : SqlToken) → spec.behind_item (bare_token token) ≡ Taken (spec.behind_item token)
behind_item (k.Mark m.Comma) = refl
behind_item (k.Word w.From) = refl
behind_item _ = refl

in_list : (at : InList) (token : SqlToken) → spec.in_list at (bare_token token) ≡ Taken (spec.in_list at token)
in_list l.Start token = on_word token w.Select _ refl
in_list l.Item token = item token
in_list l.Total token = behind_total token
in_list l.As token = and_name (λ name. spec.list_says l.Behind (piece.Called name)) (λ name. refl) token
in_list l.Behind token = behind_item token

behind_table : (token : SqlToken) → spec.behind_table (bare_token token) ≡ Taken (spec.behind_table token)
behind_table (k.Mark m.Comma) = refl
behind_table (k.Word w.Inner) = refl
behind_table (k.Word w.Join) = refl
behind_table (k.Word w.Where) = refl
behind_table (k.Word w.Group) = refl
behind_table (k.Word w.Having) = refl
behind_table (k.Word w.Order) = refl
behind_table (k.Word w.Limit) = refl
behind_table (k.Mark m.Semicolon) = refl
behind_table _ = refl

join_key : (token : SqlToken) → spec.join_key (bare_token token) ≡ Taken (spec.join_key token)
join_key (k.Key own) = refl
join_key (k.LineKey own) = refl
join_key (k.Column column) = if_taken (eqb column.place 1) (spec.tables (t.EqualKey column.table)) refl
join_key _ = refl

in_tables : (at : InTables) (token : SqlToken) → spec.in_tables at (bare_token token) ≡ Taken (spec.in_tables at token)
in_tables t.Table token = and_table (λ own. spec.tables_say t.Behind (piece.From own)) (λ own. refl) token
in_tables t.Behind token = behind_table token
in_tables t.Inner token = on_word token w.Join _ refl
in_tables t.Joined token = and_table (λ own. spec.tables_say t.On (piece.From own)) (λ own. refl) token
in_tables t.On token = on_word token w.On _ refl
in_tables t.Key token = join_key token
in_tables (t.EqualKey own) token = on_mark token m.Equal _ refl
in_tables (t.EqualLineKey own) token = on_mark token m.Equal _ refl
in_tables (t.Key2 own) token = on_key token own _ refl
in_tables (t.LineKey2 own) token = on_line_key token own _ refl

test : (token : SqlToken) → spec.test (bare_token token) ≡ Taken (spec.test token)
test (k.Key own) = refl
test (k.LineKey own) = refl
test (k.Mark m.Open) = refl
test (k.Line Quantity) = refl
test (k.Line Discount) = refl
test _ = refl

behind_tested : (o : Operand) (token : SqlToken)
    → spec.behind_tested o (bare_token token) ≡ Taken (spec.behind_tested o token)
behind_tested o (k.Mark m.Equal) = refl
behind_tested o (k.Mark m.NotEqual) = refl
behind_tested o (k.Mark m.Less) = refl
behind_tested o (k.Mark m.LessOrEqual) = refl
behind_tested o (k.Mark m.Greater) = refl
behind_tested o (k.Mark m.GreaterOrEqual) = refl
behind_tested o (k.Word w.Between) = refl
behind_tested o (k.Word w.In) = refl
behind_tested o (k.Word w.Not) = refl
behind_tested o (k.Word w.ByBytes) = refl
behind_tested o _ = refl

behind_test : (token : SqlToken) → spec.behind_test (bare_token token) ≡ Taken (spec.behind_test token)
behind_test (k.Word w.And) = refl
behind_test (k.Word w.Group) = refl
behind_test (k.Word w.Having) = refl
behind_test (k.Word w.Order) = refl
behind_test (k.Word w.Limit) = refl
behind_test (k.Mark m.Semicolon) = refl
behind_test _ = refl

behind_value : (o : Operand) (how : Listing) (token : SqlToken)
    → spec.behind_value o how (bare_token token) ≡ Taken (spec.behind_value o how token)
behind_value o how (k.Mark m.Comma) = refl
behind_value o how (k.Mark m.Close) = refl
behind_value o how _ = refl

behind_choice : (token : SqlToken) → spec.behind_choice (bare_token token) ≡ Taken (spec.behind_choice token)
behind_choice (k.Word w.Or) = refl
behind_choice (k.Mark m.Close) = refl
behind_choice _ = refl

first_said : (how : Listing) (o : Operand) (v : Spelled)
    → spec.first_said how o (bare_value v) ≡ bare_piece (spec.first_said how o v)
first_said listing.OneOf o v = refl
first_said listing.NoneOf o v = refl

next_said : (how : Listing) (o : Operand) (v : Spelled)
    → spec.next_said how o (bare_value v) ≡ bare_piece (spec.next_said how o v)
next_said listing.OneOf o v = refl
next_said listing.NoneOf o v = refl

in_values : (o : Operand) (how : Listing) (at : InValues) (token : SqlToken)
    → spec.in_values o how at (bare_token token) ≡ Taken (spec.in_values o how at token)
in_values o how vs.Open token = on_mark token m.Open _ refl
in_values o how vs.First token =
    and_value (λ x. spec.tests_say (c.Values o how vs.Listed) (spec.first_said how o x))
    (λ x. spec.tests_say (c.Values o how vs.Listed) (spec.first_said how o x))
    (λ v. ap (spec.tests_say (c.Values o how vs.Listed)) (first_said how o v)) token
in_values o how vs.Listed token = behind_value o how token
in_values o how vs.Next token =
    and_value (λ x. spec.tests_say (c.Values o how vs.Listed) (spec.next_said how o x))
    (λ x. spec.tests_say (c.Values o how vs.Listed) (spec.next_said how o x))
    (λ v. ap (spec.tests_say (c.Values o how vs.Listed)) (next_said how o v)) token

in_choice : (at : InChoice) (token : SqlToken) → spec.in_choice at (bare_token token) ≡ Taken (spec.in_choice at token)
in_choice ch.Open token = and_tested (λ o. spec.choice (ch.Tested o)) (λ o. refl) token
in_choice (ch.Tested o) token = on_mark token m.Equal _ refl
in_choice (ch.Equal o) token =
    and_value (λ x. spec.choice_says (piece.Is o x)) (λ x. spec.choice_says (piece.Is o x)) (λ v. refl) token
in_choice ch.Either token = behind_choice token
in_choice ch.Or token = and_tested (λ o. spec.choice (ch.OrTested o)) (λ o. refl) token
in_choice (ch.OrTested o) token = on_mark token m.Equal _ refl
in_choice (ch.OrEqual o) token =
    and_value (λ x. spec.choice_says (piece.OrIs o x)) (λ x. spec.choice_says (piece.OrIs o x)) (λ v. refl) token

either : (d : Bool) (o : Operand) (from : Spelled)
    → (if d then spec.tests (c.To o (bare_value from)) else None)
    ≡ Taken (if d then spec.tests (c.To o from) else None)
either true o from = refl
either false o from = refl

-- AND comes, between two values
to_comes : (o : Operand) (from : Spelled) (token : SqlToken)
    → spec.on_word (bare_token token) w.And (spec.tests (c.To o (bare_value from)))
    ≡ Taken (spec.on_word token w.And (spec.tests (c.To o from)))
to_comes o from (k.Word own) = either (eqb (spec.word_code own) (spec.word_code w.And)) o from
to_comes o from _ = refl

equal : (o : Operand) (token : SqlToken) → spec.equal o (bare_token token) ≡ Taken (spec.equal o token)
equal o (k.LineKey own) = if_taken (spec.is_key own o) (spec.tested_by (piece.Joined own)) refl
equal o (k.Value v) = refl
equal o (k.Large n) = refl
equal o _ = refl

in_tests : (at : InTests) (token : SqlToken)
    → spec.in_tests (bare_tests at) (bare_token token) ≡ Taken (spec.in_tests at token)
in_tests c.Test token = test token
in_tests c.Behind token = behind_test token
in_tests (c.EqualKey own) token = on_mark token m.Equal _ refl
in_tests (c.EqualLineKey own) token = on_mark token m.Equal _ refl
in_tests (c.Key own) token = on_key token own _ refl
in_tests (c.LineKey own) token = on_line_key token own _ refl
in_tests (c.Tested o) token = behind_tested o token
in_tests (c.Equal o) token = equal o token
in_tests (c.Stands o how) token =
    and_value (λ x. spec.tested_by (piece.Stands o how x)) (λ x. spec.tested_by (piece.Stands o how x)) (λ v. refl)
    token
in_tests (c.From o) token =
    and_value (λ x. spec.tests (c.And o x)) (λ x. spec.tests (c.And o x)) (λ v. refl) token
in_tests (c.And o from) token = to_comes o from token
in_tests (c.To o from) token =
    and_value (λ to. spec.tested_by (piece.Between o from to))
    (λ to. spec.tested_by (piece.Between o (bare_value from) to)) (λ v. refl) token
in_tests (c.Not o) token = on_word token w.In _ refl
in_tests (c.Values o how at) token = in_values o how at token
in_tests (c.Choice at) token = in_choice at token

behind_group : (token : SqlToken) → spec.behind_group (bare_token token) ≡ Taken (spec.behind_group token)
behind_group (k.Mark m.Comma) = refl
behind_group (k.Word w.Having) = refl
behind_group (k.Word w.Order) = refl
behind_group (k.Word w.Limit) = refl
behind_group (k.Mark m.Semicolon) = refl
behind_group _ = refl

key : (token : SqlToken) → spec.key (bare_token token) ≡ Taken (spec.key token)
key (k.Column column) = refl
key (k.Name name) = refl
key (k.Value (spelled.Number place)) = refl
key (k.Value (spelled.Text text)) = refl
key (k.Word word) = begun Ordering (k.Word word)
key _ = refl

behind_direction : (token : SqlToken) → spec.behind_direction (bare_token token) ≡ Taken (spec.behind_direction token)
behind_direction (k.Mark m.Comma) = refl
behind_direction (k.Word w.Limit) = refl
behind_direction (k.Mark m.Semicolon) = refl
behind_direction _ = refl

behind_key : (token : SqlToken) → spec.behind_key (bare_token token) ≡ Taken (spec.behind_key token)
behind_key (k.Word w.ByBytes) = refl
behind_key (k.Word w.Asc) = refl
behind_key (k.Word w.Desc) = refl
behind_key (k.Word w.Limit) = refl
behind_key (k.Mark m.Comma) = refl
behind_key (k.Mark m.Semicolon) = refl
behind_key _ = refl

in_end : (at : InEnd) (token : SqlToken) → spec.in_end at (bare_token token) ≡ Taken (spec.in_end at token)
in_end e.GroupBy token = on_word token w.By _ refl
in_end e.Group token = and_column (λ column. spec.end_says e.Grouped (piece.GroupsBy column)) (λ column. refl) token
in_end e.Grouped token = behind_group token
in_end e.OrderBy token = on_word token w.By _ refl
in_end e.Key token = key token
in_end e.Keyed token = behind_key token
in_end e.Directed token = behind_direction token
in_end e.Limit token = and_number (λ most. spec.end_says e.Limited (piece.Limit most)) (λ most. refl) token
in_end e.Limited token = on_mark token m.Semicolon _ refl
in_end e.Done token = refl

step : (at : State) (token : SqlToken) → spec.step (bare_state at) (bare_token token) ≡ Taken (spec.step at token)
step (state.List at) token = in_list at token
step (state.Tables at) token = in_tables at token
step (state.Tests at) token = in_tests at token
step (state.Having at) token = in_having at token
step (state.End at) token = in_end at token
step (state.Aggregate purpose at) token = in_aggregate purpose at token

-- ---- all tokens

abbrev pub bare_outcome : Outcome → Outcome
bare_outcome (Ok pieces) = Ok (map bare_piece pieces)
bare_outcome (Err left) = Err left

tests_end : (at : InTests) → spec.ends_tests (bare_tests at) ≡ spec.ends_tests at
tests_end (c.And o from) = refl
tests_end (c.To o from) = refl
tests_end _ = refl

may_end : (at : State) → spec.may_end (bare_state at) ≡ spec.may_end at
may_end (state.Tests at) = tests_end at
may_end _ = refl

ends : (d : Bool) → ended d ≡ bare_outcome (ended d)
ends true = refl
ends false = refl

says : (own : SqlPiece) (outcome : Outcome) → say (bare_piece own) (bare_outcome outcome) ≡ bare_outcome (say own outcome)
says own (Ok pieces) = refl
says own (Err left) = refl

is_said : (own : Option SqlPiece) (outcome : Outcome)
    → said (option_map bare_piece own) (bare_outcome outcome) ≡ bare_outcome (said own outcome)
is_said None outcome = refl
is_said (Some own) outcome = says own outcome

goes : (taken : Option SqlStep) (left : ℕ) (on other : State → Outcome)
    → ((at : State) → other (bare_state at) ≡ bare_outcome (on at))
    → gone_on (Taken taken) left other ≡ bare_outcome (gone_on taken left on)
goes None left on other same = refl
goes (Some taken) left on other same =
    ap (said (option_map bare_piece taken.says)) (same taken.next) ∙ is_said taken.says (on taken.next)

as_long : (tokens : List SqlToken) → length (map bare_token tokens) ≡ length tokens
as_long [] = refl
as_long (token ∷ tokens) = ap suc (as_long tokens)

runs : (tokens : List SqlToken) (at : State)
    → run (map bare_token tokens) (bare_state at) ≡ bare_outcome (run tokens at)
runs [] at = ap ended (may_end at) ∙ ends (spec.may_end at)
runs (token ∷ tokens) at =
    let rest = map bare_token tokens in
    ap (λ taken. gone_on taken (length (bare_token token ∷ rest)) (run rest)) (step at token)
    ∙ (ap (λ n. gone_on (Taken (spec.step at token)) n (run rest)) (ap suc (as_long tokens))
    ∙ goes (spec.step at token) (length (token ∷ tokens)) (run tokens) (run rest) (runs tokens))

pub reads : (tokens : List SqlToken) → read (map bare_token tokens) ≡ bare_outcome (read tokens)
reads tokens = runs tokens (state.List l.Start)
