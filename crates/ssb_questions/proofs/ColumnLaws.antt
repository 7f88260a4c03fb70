use Rattle.std.proofs.Common.{arith}
-- The columns that clauses of a star question name, and what its plan tests in them.
use Rattle.std.proofs.Common.{◌≡◌, ◌∙◌, ℕ, Bool, true, false, List, [], ◌∷◌, ◌++◌, Option, Some, None, refl, inl}
use Rattle.std.proofs.Common.{inr}
use Rattle.std.specs.Prelude.{IfSome, codes, cond, option_and_then, option_map}
use Rattle.std.specs.List.{AllByRecursion, filter_map}
use Rattle.std.proofs.lemmas.Slice.Eq.{bytes_eq-Decides}
use Rattle.ssb_schema.specs.Columns.{column_kind, column_name, query_columns}
use Rattle.ssb_schema.specs.declared.column.Column.{Column}
use Rattle.ssb_schema.specs.declared.kind.Kind.{Kind}
use Rattle.ssb_schema.specs.declared.kind.Kind.TheVariants as takes
use Rattle.ssb_schema.specs.declared.table.Table.{Table}
use Rattle.ssb_schema.specs.declared.table.Table.TheVariants as table
use Rattle.ssb_questions.proofs.SomeLaws.{some_if, some_or, some_map, some_and_then, some_weaker, some_any, some_found}
use Rattle.ssb_questions.proofs.SomeLaws.{all_append, all_kept, all_left, all_right, all_weaker, all_any}
use Rattle.ssb_questions.specs.Clause.{Clause, Sums, GroupsBy, Is, IsNot, FromTo, QuantityIn, DiscountIn, BySum}
use Rattle.ssb_questions.specs.Clause.{clause_of, clause_parted, column_exclusion, column_named, column_test}
use Rattle.ssb_questions.specs.Clause.{exclusion_clause, kind_where, measure_named, named_clause, parted}
use Rattle.ssb_questions.specs.Clause.{range_spelled, test_clause, value_for, word_clause}
use Rattle.ssb_questions.specs.Clauses.{clause_said, clauses_of, same_column}
use Rattle.ssb_questions.specs.Members.{Has}
use Rattle.ssb_questions.specs.Plan.{IsTestOf, is_on_texts, takes_texts}
use Rattle.ssb_questions.specs.Star.{cond_by, customer_columns, date_columns, exclusion_by, exclusion_test, group_in}
use Rattle.ssb_questions.specs.Star.{none_of_numbers, none_of_texts, number_cond, part_columns, supplier_columns}
use Rattle.ssb_questions.specs.Star.{test_of, tests_of, text_cond}
use Rattle.ssb_questions.specs.Text.{text_eq}
use Rattle.ssb_questions.specs.declared.plan.NumberRange.{NumberRange}
use Rattle.ssb_questions.specs.declared.value.Value.{Value}
use Rattle.ssb_questions.specs.declared.value.Value.TheVariants as value

pub all_has : {X : Type 0} (xs : List X) → AllByRecursion (Has xs) xs
all_has [] = tt
all_has (x ∷ xs) = (inl refl, all_weaker (Has xs) (Has (x ∷ xs)) (λ y h. inr h) xs (all_has xs))

-- what a clause names is a column that queries read
abbrev pub IsRead : Clause → Type 0
IsRead (Sums m) = Unit {0}
IsRead (GroupsBy column) = Has query_columns column
IsRead (Is column v) = Has query_columns column
IsRead (IsNot column v) = Has query_columns column
IsRead (FromTo column from to) = Has query_columns column
IsRead (QuantityIn range) = Unit {0}
IsRead (DiscountIn range) = Unit {0}
IsRead BySum = Unit {0}

column_read : (word : List ℕ) → IfSome (column_named word) (Has query_columns)
column_read word =
    some_found (Has query_columns) (λ column. text_eq (column_name column) word) query_columns (all_has query_columns)

column_test_read : (column : Column) → Has query_columns column → (bytes : List ℕ) (ends : Option (List ℕ × List ℕ))
    → IfSome (column_test column bytes ends) IsRead
column_test_read column has bytes None =
    some_map IsRead (Is column) (value_for column bytes)
    (some_any (λ v. IsRead (Is column v)) (λ v. has) (value_for column bytes))
column_test_read column has bytes (Some ends) =
    some_and_then IsRead (λ from. option_map (FromTo column from) (value_for column ends.1)) (value_for column ends.0)
    (some_any (λ from. IfSome (option_map (FromTo column from) (value_for column ends.1)) IsRead)
    (λ from. some_map IsRead (FromTo column from) (value_for column ends.1)
    (some_any (λ to. IsRead (FromTo column from to)) (λ to. has) (value_for column ends.1)))
    (value_for column ends.0))

column_clause_read : (name bytes : List ℕ)
    → IfSome (option_and_then (λ column. column_test column bytes (parted (codes "..") bytes)) (column_named name))
    IsRead
column_clause_read name bytes =
    let ends = parted (codes "..") bytes in
    some_and_then IsRead (λ column. column_test column bytes ends) (column_named name)
    (some_weaker (Has query_columns) (λ column. IfSome (column_test column bytes ends) IsRead)
    (λ column has. column_test_read column has bytes ends) (column_named name) (column_read name))

range_read : (says : NumberRange → Clause) → ((range : NumberRange) → IsRead (says range)) → (bytes : List ℕ)
    → IfSome (option_map says (range_spelled bytes)) IsRead
range_read says h bytes =
    some_map IsRead says (range_spelled bytes) (some_any (λ range. IsRead (says range)) h (range_spelled bytes))

discount_read : (name bytes : List ℕ) → IfSome (cond (text_eq name (codes "LO_DISCOUNT"))
    (option_map DiscountIn (range_spelled bytes))
    (option_and_then (λ column. column_test column bytes (parted (codes "..") bytes)) (column_named name))) IsRead
discount_read name bytes =
    some_if IsRead (text_eq name (codes "LO_DISCOUNT")) (option_map DiscountIn (range_spelled bytes)) _
    (range_read DiscountIn (λ range. tt) bytes) (column_clause_read name bytes)

test_read : (name bytes : List ℕ) → IfSome (test_clause name bytes) IsRead
test_read name bytes =
    some_if IsRead (text_eq name (codes "LO_QUANTITY")) (option_map QuantityIn (range_spelled bytes)) _
    (range_read QuantityIn (λ range. tt) bytes) (discount_read name bytes)

column_exclusion_read : (column : Column) → Has query_columns column → (bytes : List ℕ)
    (ends : Option (List ℕ × List ℕ)) → IfSome (column_exclusion column bytes ends) IsRead
column_exclusion_read column has bytes None =
    some_map IsRead (IsNot column) (value_for column bytes)
    (some_any (λ v. IsRead (IsNot column v)) (λ v. has) (value_for column bytes))
column_exclusion_read column has bytes (Some ends) = tt

exclusion_read : (name bytes : List ℕ) → IfSome (exclusion_clause name bytes) IsRead
exclusion_read name bytes =
    let ends = parted (codes "..") bytes in
    some_and_then IsRead (λ column. column_exclusion column bytes ends) (column_named name)
    (some_weaker (Has query_columns) (λ column. IfSome (column_exclusion column bytes ends) IsRead)
    (λ column has. column_exclusion_read column has bytes ends) (column_named name) (column_read name))

named_read : (name bytes : List ℕ) (parts : Option (List ℕ × List ℕ)) → IfSome (named_clause name bytes parts) IsRead
named_read name bytes None = test_read name bytes
named_read name bytes (Some (own, [])) = exclusion_read own bytes
named_read name bytes (Some (own, b ∷ rest)) = tt

word_read : (word : List ℕ) → IfSome (word_clause word) IsRead
word_read word =
    some_or IsRead (option_map Sums (measure_named word)) (option_map GroupsBy (column_named word))
    (some_map IsRead Sums (measure_named word) (some_any (λ m. IsRead (Sums m)) (λ m. tt) (measure_named word)))
    (some_map IsRead GroupsBy (column_named word) (column_read word))

parted_read : (bytes : List ℕ) (parts : Option (List ℕ × List ℕ)) → IfSome (clause_parted bytes parts) IsRead
parted_read bytes None = word_read bytes
parted_read bytes (Some parts) = named_read parts.0 parts.1 (parted (codes "!") parts.0)

clause_read : (bytes : List ℕ) → IfSome (clause_of bytes) IsRead
clause_read bytes =
    some_if IsRead (text_eq bytes (codes "ORDER=SUM")) (Some BySum) (clause_parted bytes (parted (codes "=") bytes)) tt
    (parted_read bytes (parted (codes "=") bytes))

said_read : (v : Value) → IfSome (clause_said v) IsRead
said_read (value.Text bytes) = clause_read bytes
said_read (value.Number number) = tt

pub clauses_read : (constants : List Value) → AllByRecursion IsRead (clauses_of constants)
clauses_read constants =
    all_kept IsRead clause_said constants (all_any (λ v. IfSome (clause_said v) IsRead) said_read constants)

group_read : (clause : Clause) → IsRead clause → IfSome (group_in clause) (Has query_columns)
group_read (Sums m) has = tt
group_read (GroupsBy column) has = has
group_read (Is column v) has = tt
group_read (IsNot column v) has = tt
group_read (FromTo column from to) has = tt
group_read (QuantityIn range) has = tt
group_read (DiscountIn range) has = tt
group_read BySum has = tt

pub star_groups_read : (constants : List Value)
    → AllByRecursion (Has query_columns) (filter_map group_in (clauses_of constants))
star_groups_read constants = grind (arith, all_kept, all_weaker, group_read, clauses_read)

-- no two of them have one name
named_back : AllByRecursion (λ column. column_named (column_name column) ≡ Some column) query_columns
named_back =
    (refl, (refl, (refl, (refl, (refl, (refl, (refl, (refl, (refl, (refl, (refl, (refl, (refl, (refl, (refl, (refl, (refl, (refl, (refl, tt)))))))))))))))))))

pub at : {X : Type 0} (P : X → Type 0) (xs : List X) (x : X) → AllByRecursion P xs → Has xs x → P x
at P [] x all has = absurd has
at P (y ∷ xs) x all (inl e) = let here : P y = all.0 in rw e here
at P (y ∷ xs) x all (inr has) = at P xs x all.1 has

pub same_is : (a b : Column) → Has query_columns a → Has query_columns b → same_column a b ≡ true → a ≡ b
same_is a b has_a has_b same = grind (arith, bytes_eq-Decides, at, named_back)

-- what is asked of a column is of its kind
on_texts : (ends : Option (List ℕ × List ℕ)) (texts : List (List ℕ))
    → IfSome (text_cond ends texts) (λ c. is_on_texts c ≡ true)
on_texts (Some ends) texts = refl
on_texts None [] = tt
on_texts None (text ∷ []) = refl
on_texts None (text ∷ other ∷ texts) = refl

on_numbers : (ends : Option (ℕ × ℕ)) (numbers : List ℕ)
    → IfSome (number_cond ends numbers) (λ c. is_on_texts c ≡ false)
on_numbers (Some ends) numbers = refl
on_numbers None [] = tt
on_numbers None (number ∷ []) = refl
on_numbers None (number ∷ other ∷ numbers) = refl

of_kind : (kind : Option Kind) (texts : Bool) → option_map takes_texts kind ≡ Some texts → (column : Column)
    (clauses : List Clause) → IfSome (cond_by (kind_where column kind) column clauses) (λ c. is_on_texts c ≡ texts)
of_kind None texts e column clauses = grind arith
of_kind (Some takes.Text) texts e column clauses = grind (arith, some_weaker, on_texts)
of_kind (Some (takes.Number least most)) texts e column clauses = grind (arith, some_weaker, on_numbers)

out_on_texts : (texts : List (List ℕ)) → IfSome (none_of_texts texts) (λ c. is_on_texts c ≡ true)
out_on_texts [] = tt
out_on_texts (text ∷ texts) = refl

out_on_numbers : (numbers : List ℕ) → IfSome (none_of_numbers numbers) (λ c. is_on_texts c ≡ false)
out_on_numbers [] = tt
out_on_numbers (number ∷ numbers) = refl

out_of_kind : (kind : Option Kind) (texts : Bool) → option_map takes_texts kind ≡ Some texts → (column : Column)
    (clauses : List Clause) → IfSome (exclusion_by (kind_where column kind) column clauses)
    (λ c. is_on_texts c ≡ texts)
out_of_kind None texts e column clauses = grind arith
out_of_kind (Some takes.Text) texts e column clauses = grind (arith, some_weaker, out_on_texts)
out_of_kind (Some (takes.Number least most)) texts e column clauses = grind (arith, some_weaker, out_on_numbers)

-- a column of a table, which takes texts or not
abbrev IsOf : Table → Column → Type 0
IsOf t column = (column.table ≡ t) × Has query_columns column
    × (texts : Bool) × (option_map takes_texts (column_kind column) ≡ Some texts)

test_is : (t : Table) (column : Column) → IsOf t column → (clauses : List Clause)
    → IfSome (test_of clauses column) (IsTestOf t)
test_is t column of clauses = grind (arith, some_map, some_weaker, of_kind)

exclusion_is : (t : Table) (column : Column) → IsOf t column → (clauses : List Clause)
    → IfSome (exclusion_test clauses column) (IsTestOf t)
exclusion_is t column of clauses = grind (arith, some_map, some_weaker, out_of_kind)

tests_are : (t : Table) (columns : List Column) → AllByRecursion (IsOf t) columns → (clauses : List Clause)
    → AllByRecursion (IsTestOf t) (tests_of clauses columns)
tests_are t columns all clauses =
    all_append (IsTestOf t) (filter_map (test_of clauses) columns) (filter_map (exclusion_test clauses) columns)
    (all_kept (IsTestOf t) (test_of clauses) columns
    (all_weaker (IsOf t) (λ column. IfSome (test_of clauses column) (IsTestOf t))
    (λ column of. test_is t column of clauses) columns all))
    (all_kept (IsTestOf t) (exclusion_test clauses) columns
    (all_weaker (IsOf t) (λ column. IfSome (exclusion_test clauses column) (IsTestOf t))
    (λ column of. exclusion_is t column of clauses) columns all))

pub read : AllByRecursion (Has query_columns) query_columns
read = all_has query_columns

-- the columns of each dimension, which stand behind each other
pub customers_read : AllByRecursion (Has query_columns) customer_columns
customers_read =
    all_left (Has query_columns) customer_columns (supplier_columns ++ (part_columns ++ date_columns)) read

behind_customers : AllByRecursion (Has query_columns) (supplier_columns ++ (part_columns ++ date_columns))
behind_customers =
    all_right (Has query_columns) customer_columns (supplier_columns ++ (part_columns ++ date_columns)) read

pub suppliers_read : AllByRecursion (Has query_columns) supplier_columns
suppliers_read = all_left (Has query_columns) supplier_columns (part_columns ++ date_columns) behind_customers

behind_suppliers : AllByRecursion (Has query_columns) (part_columns ++ date_columns)
behind_suppliers = all_right (Has query_columns) supplier_columns (part_columns ++ date_columns) behind_customers

pub parts_read : AllByRecursion (Has query_columns) part_columns
parts_read = all_left (Has query_columns) part_columns date_columns behind_suppliers

pub dates_read : AllByRecursion (Has query_columns) date_columns
dates_read = all_right (Has query_columns) part_columns date_columns behind_suppliers

pub customer_tests : (clauses : List Clause)
    → AllByRecursion (IsTestOf table.Customer) (tests_of clauses customer_columns)
customer_tests = tests_are table.Customer customer_columns
    ((refl, customers_read.0, true, refl), ((refl, customers_read.1.0, true, refl), ((refl, customers_read.1.1.0, true, refl), ((refl, customers_read.1.1.1.0, true, refl), tt))))

pub supplier_tests : (clauses : List Clause)
    → AllByRecursion (IsTestOf table.Supplier) (tests_of clauses supplier_columns)
supplier_tests = tests_are table.Supplier supplier_columns
    ((refl, suppliers_read.0, true, refl), ((refl, suppliers_read.1.0, true, refl), ((refl, suppliers_read.1.1.0, true, refl), tt)))

pub part_tests : (clauses : List Clause) → AllByRecursion (IsTestOf table.Part) (tests_of clauses part_columns)
part_tests = tests_are table.Part part_columns
    ((refl, parts_read.0, true, refl), ((refl, parts_read.1.0, true, refl), ((refl, parts_read.1.1.0, true, refl), tt)))

pub date_tests : (clauses : List Clause) → AllByRecursion (IsTestOf table.Date) (tests_of clauses date_columns)
date_tests = tests_are table.Date date_columns
    ((refl, dates_read.0, false, refl), ((refl, dates_read.1.0, true, refl), ((refl, dates_read.1.1.0, true, refl), ((refl, dates_read.1.1.1.0, false, refl), ((refl, dates_read.1.1.1.1.0, false, refl), ((refl, dates_read.1.1.1.1.1.0, true, refl), ((refl, dates_read.1.1.1.1.1.1.0, false, refl), ((refl, dates_read.1.1.1.1.1.1.1.0, true, refl), ((refl, dates_read.1.1.1.1.1.1.1.1.0, true, refl), tt)))))))))
