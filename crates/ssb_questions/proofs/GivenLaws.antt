-- What the plan of a star question looks for is spelled by its clauses.
use Rattle.std.proofs.Common.{ℕ, List, [], ◌∷◌, Option, Some, None, refl, inl, inr}
use Rattle.std.specs.Prelude.{IfSome}
use Rattle.std.specs.List.{AllByRecursion, filter_map}
use Rattle.ssb_schema.specs.Columns.{query_columns}
use Rattle.ssb_schema.specs.declared.column.Column.{Column}
use Rattle.ssb_questions.proofs.ColumnLaws.{IsRead, all_has, clauses_read, customers_read, dates_read}
use Rattle.ssb_questions.proofs.ColumnLaws.{parts_read, same_is, suppliers_read}
use Rattle.ssb_questions.proofs.SomeLaws.{all_append, all_both, all_kept, all_weaker, some_first, some_map, some_where}
use Rattle.ssb_questions.specs.Clause.{Clause, Sums, GroupsBy, Is, IsNot, FromTo, QuantityIn, DiscountIn, BySum}
use Rattle.ssb_questions.specs.Clause.{kind_in}
use Rattle.ssb_questions.specs.Clauses.{clauses_of, same_column}
use Rattle.ssb_questions.specs.Members.{Has}
use Rattle.ssb_questions.specs.Plan.{AreValues, IsRangeOfConstants, IsSpelled, IsTestOfConstants, LooksForConstants}
use Rattle.ssb_questions.specs.Star.{cond_by, cond_of, customer_columns, date_columns, discount_in, first_in}
use Rattle.ssb_questions.specs.Star.{exclusion_by, exclusion_of, exclusion_test, none_of_numbers, none_of_texts}
use Rattle.ssb_questions.specs.Star.{number_cond, number_out, text_out}
use Rattle.ssb_questions.specs.Star.{number_in, numbers_in, part_columns, quantity_in, star_plan_over, supplier_columns}
use Rattle.ssb_questions.specs.Star.{test_of, tests_of, text_cond, text_in, texts_in}
use Rattle.ssb_questions.specs.declared.kind.ConstantKind.{ConstantKind}
use Rattle.ssb_questions.specs.declared.kind.ConstantKind.TheVariants as kind
use Rattle.ssb_questions.specs.declared.plan.NumberRange.{NumberRange}
use Rattle.ssb_questions.specs.declared.query.Query.TheVariants.{Star}
use Rattle.ssb_questions.specs.declared.value.Value.{Value}
use Rattle.ssb_questions.specs.declared.value.Value.TheVariants.{Text, Number}

-- one of the clauses that constants spell, with the column that it names
abbrev IsOwn : List Value → Clause → Type 0
IsOwn constants clause = Has (clauses_of constants) clause × IsRead clause

own : (constants : List Value) → AllByRecursion (IsOwn constants) (clauses_of constants)
own constants =
    all_both (Has (clauses_of constants)) IsRead (clauses_of constants) (all_has (clauses_of constants))
    (clauses_read constants)

-- what some clause says holds of each
all_say : {X : Type 0} (constants : List Value) (says : Clause → Option X) (P : X → Type 0)
    → ((clause : Clause) → IsOwn constants clause → IfSome (says clause) P)
    → AllByRecursion P (filter_map says (clauses_of constants))
all_say constants says P h =
    all_kept P says (clauses_of constants)
    (all_weaker (IsOwn constants) (λ clause. IfSome (says clause) P) h (clauses_of constants) (own constants))

module _ (constants : List Value) (column : Column) (has : Has query_columns column) where
  abbrev So : Value → Type 0
  So v = IsSpelled constants column v

  text_so : (clause : Clause) → IsOwn constants clause → IfSome (text_in column clause) (λ text. So (Text text))
  text_so (Is c (Text text)) is =
      some_where (λ t. So (Text t)) (same_column c column) text
      (λ same. (Is c (Text text), is.0, (same_is c column is.1 has same, refl)))
  text_so (Is c (Number number)) is = tt
  text_so (Sums m) is = tt
  text_so (GroupsBy c) is = tt
  text_so (IsNot c v) is = tt
  text_so (FromTo c from to) is = tt
  text_so (QuantityIn range) is = tt
  text_so (DiscountIn range) is = tt
  text_so BySum is = tt

  number_so : (clause : Clause) → IsOwn constants clause → IfSome (number_in column clause) (λ n. So (Number n))
  number_so (Is c (Number n)) is =
      some_where (λ t. So (Number t)) (same_column c column) n
      (λ same. (Is c (Number n), is.0, (same_is c column is.1 has same, refl)))
  number_so (Is c (Text text)) is = tt
  number_so (Sums m) is = tt
  number_so (GroupsBy c) is = tt
  number_so (IsNot c v) is = tt
  number_so (FromTo c from to) is = tt
  number_so (QuantityIn range) is = tt
  number_so (DiscountIn range) is = tt
  number_so BySum is = tt

  text_out_so : (clause : Clause) → IsOwn constants clause → IfSome (text_out column clause) (λ text. So (Text text))
  text_out_so (IsNot c (Text text)) is =
      some_where (λ t. So (Text t)) (same_column c column) text
      (λ same. (IsNot c (Text text), is.0, (same_is c column is.1 has same, refl)))
  text_out_so (IsNot c (Number number)) is = tt
  text_out_so (Sums m) is = tt
  text_out_so (GroupsBy c) is = tt
  text_out_so (Is c v) is = tt
  text_out_so (FromTo c from to) is = tt
  text_out_so (QuantityIn range) is = tt
  text_out_so (DiscountIn range) is = tt
  text_out_so BySum is = tt

  number_out_so : (clause : Clause) → IsOwn constants clause → IfSome (number_out column clause) (λ n. So (Number n))
  number_out_so (IsNot c (Number n)) is =
      some_where (λ t. So (Number t)) (same_column c column) n
      (λ same. (IsNot c (Number n), is.0, (same_is c column is.1 has same, refl)))
  number_out_so (IsNot c (Text text)) is = tt
  number_out_so (Sums m) is = tt
  number_out_so (GroupsBy c) is = tt
  number_out_so (Is c v) is = tt
  number_out_so (FromTo c from to) is = tt
  number_out_so (QuantityIn range) is = tt
  number_out_so (DiscountIn range) is = tt
  number_out_so BySum is = tt

  texts_so : (clause : Clause) → IsOwn constants clause
      → IfSome (texts_in column clause) (λ ends. So (Text ends.0) × So (Text ends.1))
  texts_so (FromTo c (Text from) (Text to)) is =
      some_where (λ ends. So (Text ends.0) × So (Text ends.1)) (same_column c column) (from, to)
      (λ same. let named = same_is c column is.1 has same in (
        (FromTo c (Text from) (Text to), is.0, (named, inl refl)),
        (FromTo c (Text from) (Text to), is.0, (named, inr refl)),
      ))
  texts_so (FromTo c (Text from) (Number to)) is = tt
  texts_so (FromTo c (Number from) to) is = tt
  texts_so (Is c v) is = tt
  texts_so (IsNot c v) is = tt
  texts_so (Sums m) is = tt
  texts_so (GroupsBy c) is = tt
  texts_so (QuantityIn range) is = tt
  texts_so (DiscountIn range) is = tt
  texts_so BySum is = tt

  numbers_so : (clause : Clause) → IsOwn constants clause
      → IfSome (numbers_in column clause) (λ ends. So (Number ends.0) × So (Number ends.1))
  numbers_so (FromTo c (Number from) (Number to)) is =
      some_where (λ ends. So (Number ends.0) × So (Number ends.1)) (same_column c column) (from, to)
      (λ same. let named = same_is c column is.1 has same in (
        (FromTo c (Number from) (Number to), is.0, (named, inl refl)),
        (FromTo c (Number from) (Number to), is.0, (named, inr refl)),
      ))
  numbers_so (FromTo c (Number from) (Text to)) is = tt
  numbers_so (FromTo c (Text from) to) is = tt
  numbers_so (Is c v) is = tt
  numbers_so (IsNot c v) is = tt
  numbers_so (Sums m) is = tt
  numbers_so (GroupsBy c) is = tt
  numbers_so (QuantityIn range) is = tt
  numbers_so (DiscountIn range) is = tt
  numbers_so BySum is = tt

  texts_cond : (ends : Option (List ℕ × List ℕ)) (texts : List (List ℕ))
      → IfSome ends (λ e. So (Text e.0) × So (Text e.1)) → AllByRecursion (λ text. So (Text text)) texts
      → IfSome (text_cond ends texts) (AreValues So)
  texts_cond (Some ends) texts both all = both
  texts_cond None [] both all = tt
  texts_cond None (text ∷ []) both all = all.0
  texts_cond None (text ∷ other ∷ texts) both all = all

  numbers_cond : (ends : Option (ℕ × ℕ)) (numbers : List ℕ)
      → IfSome ends (λ e. So (Number e.0) × So (Number e.1)) → AllByRecursion (λ n. So (Number n)) numbers
      → IfSome (number_cond ends numbers) (AreValues So)
  numbers_cond (Some ends) numbers both all = both
  numbers_cond None [] both all = tt
  numbers_cond None (number ∷ []) both all = all.0
  numbers_cond None (number ∷ other ∷ numbers) both all = all

  cond_so : (k : ConstantKind) → IfSome (cond_by k column (clauses_of constants)) (AreValues So)
  cond_so (kind.Text c) =
      texts_cond (first_in (texts_in column) (clauses_of constants))
      (filter_map (text_in column) (clauses_of constants))
      (some_first (λ ends. So (Text ends.0) × So (Text ends.1)) (filter_map (texts_in column) (clauses_of constants))
      (all_say constants (texts_in column) (λ ends. So (Text ends.0) × So (Text ends.1)) texts_so))
      (all_say constants (text_in column) (λ text. So (Text text)) text_so)
  cond_so kind.Number =
      numbers_cond (first_in (numbers_in column) (clauses_of constants))
      (filter_map (number_in column) (clauses_of constants))
      (some_first (λ ends. So (Number ends.0) × So (Number ends.1))
      (filter_map (numbers_in column) (clauses_of constants))
      (all_say constants (numbers_in column) (λ ends. So (Number ends.0) × So (Number ends.1)) numbers_so))
      (all_say constants (number_in column) (λ n. So (Number n)) number_so)

  none_of_texts_so : (texts : List (List ℕ)) → AllByRecursion (λ text. So (Text text)) texts
      → IfSome (none_of_texts texts) (AreValues So)
  none_of_texts_so [] all = tt
  none_of_texts_so (text ∷ texts) all = all

  none_of_numbers_so : (numbers : List ℕ) → AllByRecursion (λ n. So (Number n)) numbers
      → IfSome (none_of_numbers numbers) (AreValues So)
  none_of_numbers_so [] all = tt
  none_of_numbers_so (number ∷ numbers) all = all

  exclusion_so : (k : ConstantKind) → IfSome (exclusion_by k column (clauses_of constants)) (AreValues So)
  exclusion_so (kind.Text c) = none_of_texts_so (filter_map (text_out column) (clauses_of constants))
      (all_say constants (text_out column) (λ text. So (Text text)) text_out_so)
  exclusion_so kind.Number = none_of_numbers_so (filter_map (number_out column) (clauses_of constants))
      (all_say constants (number_out column) (λ n. So (Number n)) number_out_so)

  excluded_so : IfSome (exclusion_test (clauses_of constants) column) (IsTestOfConstants None constants)
  excluded_so =
      some_map (IsTestOfConstants None constants) (λ cond. record { column = column; cond = cond })
      (exclusion_of (clauses_of constants) column) (exclusion_so (kind_in column))

  test_so : IfSome (test_of (clauses_of constants) column) (IsTestOfConstants None constants)
  test_so =
      some_map (IsTestOfConstants None constants) (λ cond. record { column = column; cond = cond })
      (cond_of (clauses_of constants) column) (cond_so (kind_in column))

tests_so : (constants : List Value) (columns : List Column) → AllByRecursion (Has query_columns) columns
    → AllByRecursion (IsTestOfConstants None constants) (tests_of (clauses_of constants) columns)
tests_so constants columns all =
    all_append (IsTestOfConstants None constants) (filter_map (test_of (clauses_of constants)) columns)
    (filter_map (exclusion_test (clauses_of constants)) columns)
    (all_kept (IsTestOfConstants None constants) (test_of (clauses_of constants)) columns
    (all_weaker (Has query_columns) (λ column. IfSome (test_of (clauses_of constants) column)
    (IsTestOfConstants None constants)) (λ column has. test_so constants column has) columns all))
    (all_kept (IsTestOfConstants None constants) (exclusion_test (clauses_of constants)) columns
    (all_weaker (Has query_columns) (λ column. IfSome (exclusion_test (clauses_of constants) column)
    (IsTestOfConstants None constants)) (λ column has. excluded_so constants column has) columns all))

quantity_so : (constants : List Value) (clause : Clause) → IsOwn constants clause
    → IfSome (quantity_in clause) (λ range. Has (clauses_of constants) (QuantityIn range))
quantity_so constants (QuantityIn range) is = is.0
quantity_so constants (DiscountIn range) is = tt
quantity_so constants (Sums m) is = tt
quantity_so constants (GroupsBy c) is = tt
quantity_so constants (Is c v) is = tt
quantity_so constants (IsNot c v) is = tt
quantity_so constants (FromTo c from to) is = tt
quantity_so constants BySum is = tt

discount_so : (constants : List Value) (clause : Clause) → IsOwn constants clause
    → IfSome (discount_in clause) (λ range. Has (clauses_of constants) (DiscountIn range))
discount_so constants (DiscountIn range) is = is.0
discount_so constants (QuantityIn range) is = tt
discount_so constants (Sums m) is = tt
discount_so constants (GroupsBy c) is = tt
discount_so constants (Is c v) is = tt
discount_so constants (IsNot c v) is = tt
discount_so constants (FromTo c from to) is = tt
discount_so constants BySum is = tt

range_so : (constants : List Value) (says : NumberRange → Clause) (range : Option NumberRange)
    → IfSome range (λ r. Has (clauses_of constants) (says r)) → IsRangeOfConstants None says constants range
range_so constants says None some = tt
range_so constants says (Some range) some = some

first_so : (constants : List Value) (says : NumberRange → Clause) (finds : Clause → Option NumberRange)
    → ((clause : Clause) → IsOwn constants clause
    → IfSome (finds clause) (λ range. Has (clauses_of constants) (says range)))
    → IsRangeOfConstants None says constants (first_in finds (clauses_of constants))
first_so constants says finds h =
    range_so constants says (first_in finds (clauses_of constants))
    (some_first (λ range. Has (clauses_of constants) (says range)) (filter_map finds (clauses_of constants))
    (all_say constants finds (λ range. Has (clauses_of constants) (says range)) h))

pub star_looks : (constants : List Value) → LooksForConstants Star constants (star_plan_over constants)
star_looks constants = record {
  customers = tests_so constants customer_columns customers_read;
  suppliers = tests_so constants supplier_columns suppliers_read;
  parts = tests_so constants part_columns parts_read;
  dates = tests_so constants date_columns dates_read;
  quantity = first_so constants QuantityIn quantity_in (quantity_so constants);
  discount = first_so constants DiscountIn discount_in (discount_so constants);
}
