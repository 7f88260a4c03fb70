-- The words of a question ask `star` what it asks.
use Rattle.std.proofs.Common.{◌≡◌, ◌∙◌, ℕ, zero, suc, ◌+◌, ◌^◌, ◌<◌, ◌≤◌, Bool, true, false, not, List, [], ◌∷◌, length, map, take}
use Rattle.std.proofs.Common.{Option, Some, None, refl, sym, ap, subst, cond, arith}
use Rattle.std.specs.Prelude.{◌==◌, ◌&&◌, ◌++◌, codes, nat_lt, nat_le, option_map, slice_get}
use Rattle.std.specs.List.{AllByRecursion, list_all, list_any, range_with_len}
use Rattle.std.proofs.lemmas.List.FromFn.{get_or-range_with_len}
use Rattle.std.proofs.lemmas.List.Folds.{list_all_at}
use Rattle.std.proofs.lemmas.List.FromFn.{length-range_with_len}
use Rattle.std.proofs.lemmas.Option.{slice_get_within}
use Rattle.std.proofs.lemmas.Bool.Decides.{nat_tests}
use Rattle.std.specs.Cmp.{second_so}
use Rattle.ssb_schema.specs.Columns.{column_kind, query_columns}
use Rattle.ssb_schema.specs.declared.column.Column.{Column}
use Rattle.ssb_schema.specs.declared.kind.Kind.{Kind}
use Rattle.ssb_schema.specs.declared.kind.Kind.TheVariants as kinds
use Rattle.ssb_schema.specs.declared.table.Table.{Table}
use Rattle.ssb_schema.specs.declared.table.Table.TheVariants as table
use Rattle.ssb_questions.proofs.ColumnLaws.{at as read_at}
use Rattle.ssb_questions.proofs.ConstantLaws.{at_place, kinds_of, looks_for_constants}
use Rattle.ssb_questions.proofs.SomeLaws.{all_weaker}
use Rattle.ssb_questions.proofs.SpellingLaws.{clauses_spelled}
use Rattle.ssb_questions.proofs.StarLaws.{over_columns}
use Rattle.ssb_questions.specs.Clause.{Clause, GroupsBy, QuantityIn, DiscountIn, BySum, kind_in, kind_where, most_in, parted}
use Rattle.ssb_questions.specs.Clauses.{may_stand_at, subject}
use Rattle.ssb_questions.specs.Kind.{constant_kinds, fits}
use Rattle.ssb_questions.specs.Laws.{IsAlone, IsFirst, IsValueOf, IsWithinBounds, StandInOrder, clause_text, dotted}
use Rattle.ssb_questions.specs.Laws.{spelling}
use Rattle.ssb_questions.specs.Members.{Has}
use Rattle.ssb_questions.specs.Plan.{AreValues, IsConstant, IsRangeOfConstants, IsTestOf, IsTestOfConstants}
use Rattle.ssb_questions.specs.Plan.{StandsAmong, is_on_texts, takes_texts}
use Rattle.ssb_questions.specs.Queries.{plan_over}
use Rattle.ssb_questions.specs.Query.{name_of}
use Rattle.ssb_questions.specs.Question.{constants_fault}
use Rattle.ssb_questions.specs.Star.{star_plan, star_plan_over}
use Rattle.ssb_questions.specs.declared.cond.Cond.{Cond}
use Rattle.ssb_questions.specs.declared.cond.Cond.TheVariants.{TextIs, TextFromTo, TextOneOf, NumberIs, NumberFromTo}
use Rattle.ssb_questions.specs.declared.cond.Cond.TheVariants.{NumberOneOf, TextNoneOf, NumberNoneOf}
use Rattle.ssb_questions.specs.declared.cond.Test.{Test}
use Rattle.ssb_questions.specs.declared.plan.NumberRange.{NumberRange}
use Rattle.ssb_questions.specs.declared.kind.ConstantKind.{ConstantKind}
use Rattle.ssb_questions.specs.declared.kind.ConstantKind.TheVariants as kind
use Rattle.ssb_questions.specs.declared.query.Query.{Query}
use Rattle.ssb_questions.specs.declared.query.Query.TheVariants.{Q1_1, Q1_2, Q1_3, Q2_1, Q2_2, Q2_3, Q3_1, Q3_2, Q3_3}
use Rattle.ssb_questions.specs.declared.query.Query.TheVariants.{Q3_4, Q4_1, Q4_2, Q4_3, Star}
use Rattle.ssb_questions.specs.declared.value.Value.{Value}
use Rattle.ssb_questions.specs.declared.value.Value.TheVariants.{Text, Number}
use Rattle.ssb_explain.proofs.SameLaws.{same}
use Rattle.ssb_explain.specs.Laws.{AsksTheSame, HasBits, WordsAskTheSame, words_of}
use Rattle.ssb_explain.specs.Words.{has_no_point, is_by_sum, is_star, number_clause, number_exclusion, plan_clauses}
use Rattle.ssb_explain.specs.Words.{range_clauses, text_exclusion}
use Rattle.ssb_explain.specs.Words.{request_fields}
use Rattle.ssb_explain.specs.Words.{test_clauses, tests_clauses, text_clause}

-- a text without a point holds no two of them, and none stand before those that are put behind it
alone : (bytes : List ℕ) → list_all (λ b. not (b == 46)) bytes ≡ true → parted (codes "..") bytes ≡ None
unfolding parted
alone [] all = refl
alone (b ∷ bytes) all = grind (arith, nat_tests, alone bytes (second_so (not (b == 46)) (list_all (λ b. not (b == 46)) bytes) all))

first : (bytes : List ℕ) → list_all (λ b. not (b == 46)) bytes ≡ true
    → parted (codes "..") (dotted bytes []) ≡ Some (bytes, [])
unfolding parted
first [] all = refl
first (b ∷ bytes) all = grind (arith, nat_tests, first bytes (second_so (not (b == 46)) (list_all (λ b. not (b == 46)) bytes) all))

-- what is true of all constants is true of the one at a place
at : {X : Type 0} (P : X → Type 0) (xs : List X) (place : ℕ) (x : X) → AllByRecursion P xs
    → slice_get xs place ≡ Some x → P x
at P [] place x all e = absurd cc
at P (y ∷ xs) zero x all e = let is : y ≡ x = cc in subst P is all.0
at P (y ∷ xs) (suc place) x all e = at P xs place x all.1 e

checked : {X : Type 0} (p : X → Bool) (xs : List X) (place : ℕ) (x : X) → list_all p xs ≡ true
    → slice_get xs place ≡ Some x → p x ≡ true
checked p [] place x all e = absurd cc
checked p (y ∷ xs) zero x all e = grind arith
checked p (y ∷ xs) (suc place) x all e = checked p xs place x (second_so (p y) (list_all p xs) all) e

fitting : (constants : List Value) (place : ℕ) (v w : Value) (k : ConstantKind) → slice_get constants place ≡ Some v
    → slice_get constants place ≡ Some w → fits k v ≡ true → fits k w ≡ true
fitting constants place v w k e f fit = let is : v ≡ w = cc in subst (λ v. fits k v ≡ true) is fit

-- a constant that stands at a place of its kind can be spelled as a value of the column
record Spells (column : Column) (v : Value) : Type 0 where
  is : IsValueOf column v
  alone : IsAlone v
  first : IsFirst v

text : (asked : Query) (constants : List Value) → constants_fault asked constants ≡ None
    → list_all has_no_point constants ≡ true → (column : Column) → kind_in column ≡ kind.Text column
    → (bytes : List ℕ) → StandsAmong (kinds_of asked) constants (kind.Text column) (Text bytes)
    → Spells column (Text bytes)
text asked constants fit plain column takes bytes stands =
    let found = at_place asked constants fit stands.0 (kind.Text column) stands.1 in
    let fits_it = fitting constants stands.0 found.0 (Text bytes) (kind.Text column) found.1 stands.2 found.2 in
    let pointless = checked has_no_point constants stands.0 (Text bytes) plain stands.2 in
    record {
      is = subst (λ k. fits k (Text bytes) ≡ true) (sym takes) fits_it;
      alone = alone bytes pointless;
      first = first bytes pointless;
    }

bits_at : (asked : Query) (constants : List Value) → AllByRecursion HasBits constants → (n : ℕ)
    → StandsAmong (kinds_of asked) constants kind.Number (Number n) → n < 2 ^ 32
bits_at asked constants bits n stands = at HasBits constants stands.0 (Number n) bits stands.2

-- each column of numbers that queries read takes all of 32 bits
abbrev TakesBits : Column → Type 0
TakesBits column = kind_in column ≡ kind.Number → 4294967295 ≤ most_in column

take_bits : AllByRecursion TakesBits query_columns
take_bits =
    (λ e. absurd cc, (λ e. absurd cc, (λ e. absurd cc, (λ e. absurd cc, (λ e. absurd cc, (λ e. absurd cc, (λ e. absurd cc, (λ e. absurd cc, (λ e. absurd cc, (λ e. absurd cc, (λ e. omega arith, (λ e. absurd cc, (λ e. absurd cc, (λ e. omega arith, (λ e. omega arith, (λ e. absurd cc, (λ e. omega arith, (λ e. absurd cc, (λ e. absurd cc, tt)))))))))))))))))))

number : (column : Column) → Has query_columns column → kind_in column ≡ kind.Number → (n : ℕ) → n < 2 ^ 32
    → Spells column (Number n)
number column has takes n small = record {
  is = (
    takes,
    (let most = read_at TakesBits query_columns column take_bits has takes in omega (arith, small, most)),
    omega (arith, small),
  );
  alone = tt;
  first = tt;
}

-- a column takes texts, or numbers, as the condition on it
takes : (column : Column) (k : Option Kind) (texts : Bool) → option_map takes_texts k ≡ Some texts
    → kind_where column k ≡ cond texts (kind.Text column) kind.Number
takes column None texts e = absurd cc
takes column (Some kinds.Text) true e = refl
takes column (Some kinds.Text) false e = absurd cc
takes column (Some (kinds.Number least most)) true e = absurd cc
takes column (Some (kinds.Number least most)) false e = refl

-- the clauses of each text and number are within the bounds
values : (column : Column) → Has query_columns column → (texts : List (List ℕ))
    → AllByRecursion (λ bytes. Spells column (Text bytes)) texts
    → AllByRecursion IsWithinBounds (map (text_clause column) texts)
values column has [] all = tt
values column has (bytes ∷ texts) all =
    ((has, all.0.is, all.0.alone), values column has texts all.1)

numbers : (column : Column) → Has query_columns column → (ns : List ℕ)
    → AllByRecursion (λ n. Spells column (Number n)) ns
    → AllByRecursion IsWithinBounds (map (number_clause column) ns)
numbers column has [] all = tt
numbers column has (n ∷ ns) all = ((has, all.0.is, all.0.alone), numbers column has ns all.1)

texts_out : (column : Column) → Has query_columns column → (texts : List (List ℕ))
    → AllByRecursion (λ bytes. Spells column (Text bytes)) texts
    → AllByRecursion IsWithinBounds (map (text_exclusion column) texts)
texts_out column has [] all = tt
texts_out column has (bytes ∷ texts) all = ((has, all.0.is, all.0.alone), texts_out column has texts all.1)

numbers_out : (column : Column) → Has query_columns column → (ns : List ℕ)
    → AllByRecursion (λ n. Spells column (Number n)) ns
    → AllByRecursion IsWithinBounds (map (number_exclusion column) ns)
numbers_out column has [] all = tt
numbers_out column has (n ∷ ns) all = ((has, all.0.is, all.0.alone), numbers_out column has ns all.1)

test_within : (asked : Query) (constants : List Value) → constants_fault asked constants ≡ None
    → list_all has_no_point constants ≡ true → AllByRecursion HasBits constants → (column : Column)
    → Has query_columns column → (found : Cond)
    → kind_in column ≡ cond (is_on_texts found) (kind.Text column) kind.Number
    → AreValues (IsConstant (kinds_of asked) constants column) found
    → AllByRecursion IsWithinBounds (test_clauses column found)
test_within asked constants fit plain bits column has (TextIs bytes) kind given =
    let spells = text asked constants fit plain column kind bytes given in ((has, spells.is, spells.alone), tt)
test_within asked constants fit plain bits column has (TextFromTo from to) kind given =
    let a = text asked constants fit plain column kind from given.0 in
    let b = text asked constants fit plain column kind to given.1 in
    ((has, a.is, b.is, a.first), tt)
test_within asked constants fit plain bits column has (TextOneOf texts) kind given =
    values column has texts (all_weaker _ (λ bytes. Spells column (Text bytes))
    (λ bytes stands. text asked constants fit plain column kind bytes stands) texts given)
test_within asked constants fit plain bits column has (NumberIs n) kind given =
    let spells = number column has kind n (bits_at asked constants bits n given) in ((has, spells.is, spells.alone), tt)
test_within asked constants fit plain bits column has (NumberFromTo from to) kind given =
    let a = number column has kind from (bits_at asked constants bits from given.0) in
    let b = number column has kind to (bits_at asked constants bits to given.1) in
    ((has, a.is, b.is, a.first), tt)
test_within asked constants fit plain bits column has (NumberOneOf ns) kind given =
    numbers column has ns (all_weaker _ (λ n. Spells column (Number n))
    (λ n stands. number column has kind n (bits_at asked constants bits n stands)) ns given)
test_within asked constants fit plain bits column has (TextNoneOf texts) kind given =
    texts_out column has texts (all_weaker _ (λ bytes. Spells column (Text bytes))
    (λ bytes stands. text asked constants fit plain column kind bytes stands) texts given)
test_within asked constants fit plain bits column has (NumberNoneOf ns) kind given =
    numbers_out column has ns (all_weaker _ (λ n. Spells column (Number n))
    (λ n stands. number column has kind n (bits_at asked constants bits n stands)) ns given)

both : {X : Type 0} (P : X → Type 0) (xs ys : List X) → AllByRecursion P xs → AllByRecursion P ys
    → AllByRecursion P (xs ++ ys)
both P [] ys all more = more
both P (x ∷ xs) ys all more = (all.0, both P xs ys all.1 more)

tests_within : (asked : Query) (constants : List Value) → constants_fault asked constants ≡ None
    → list_all has_no_point constants ≡ true → AllByRecursion HasBits constants → (table : Table) (tests : List Test)
    → AllByRecursion (IsTestOf table) tests
    → AllByRecursion (IsTestOfConstants (Some (kinds_of asked)) constants) tests
    → AllByRecursion IsWithinBounds (tests_clauses tests)
tests_within asked constants fit plain bits table [] over given = tt
tests_within asked constants fit plain bits table (test ∷ tests) over given =
    both IsWithinBounds (test_clauses test.column test.cond) (tests_clauses tests)
    (test_within asked constants fit plain bits test.column over.0.column test.cond
    (takes test.column (column_kind test.column) (is_on_texts test.cond) over.0.kind) given.0)
    (tests_within asked constants fit plain bits table tests over.1 given.1)

groups_within : (columns : List Column) → AllByRecursion (Has query_columns) columns
    → AllByRecursion IsWithinBounds (map GroupsBy columns)
groups_within [] all = tt
groups_within (column ∷ columns) all = (all.0, groups_within columns all.1)

quantity_within : (asked : Query) (constants : List Value) → AllByRecursion HasBits constants
    → (range : Option NumberRange) → IsRangeOfConstants (Some (kinds_of asked)) QuantityIn constants range
    → AllByRecursion IsWithinBounds (range_clauses QuantityIn range)
quantity_within asked constants bits None given = tt
quantity_within asked constants bits (Some range) given =
    ((bits_at asked constants bits range.from given.0, bits_at asked constants bits range.to given.1), tt)

discount_within : (asked : Query) (constants : List Value) → AllByRecursion HasBits constants
    → (range : Option NumberRange) → IsRangeOfConstants (Some (kinds_of asked)) DiscountIn constants range
    → AllByRecursion IsWithinBounds (range_clauses DiscountIn range)
discount_within asked constants bits None given = tt
discount_within asked constants bits (Some range) given =
    ((bits_at asked constants bits range.from given.0, bits_at asked constants bits range.to given.1), tt)

order_within : (by_sum : Bool) → AllByRecursion IsWithinBounds (cond by_sum (BySum ∷ []) [])
order_within true = (tt, tt)
order_within false = tt

has_kinds : (asked : Query) → is_star asked ≡ false → constant_kinds asked ≡ Some (kinds_of asked)
has_kinds Q1_1 other = refl
has_kinds Q1_2 other = refl
has_kinds Q1_3 other = refl
has_kinds Q2_1 other = refl
has_kinds Q2_2 other = refl
has_kinds Q2_3 other = refl
has_kinds Q3_1 other = refl
has_kinds Q3_2 other = refl
has_kinds Q3_3 other = refl
has_kinds Q3_4 other = refl
has_kinds Q4_1 other = refl
has_kinds Q4_2 other = refl
has_kinds Q4_3 other = refl
has_kinds Star other = absurd cc

within : (asked : Query) (constants : List Value) → constants_fault asked constants ≡ None
    → list_all has_no_point constants ≡ true → AllByRecursion HasBits constants → is_star asked ≡ false
    → AllByRecursion IsWithinBounds (plan_clauses (plan_over asked constants))
within asked constants fit plain bits other =
    let plan = plan_over asked constants in
    let over = over_columns asked constants in
    let kinds = has_kinds asked other in
    let looks = looks_for_constants asked constants fit in
    let tests = tests_within asked constants fit plain bits in
    let of_kinds = λ (tests : List Test) (given : AllByRecursion (IsTestOfConstants (constant_kinds asked) constants) tests).
    subst (λ kinds. AllByRecursion (IsTestOfConstants kinds constants) tests) kinds given in
    let with_customers = both IsWithinBounds _ _ (groups_within plan.groups over.groups)
    (tests table.Customer plan.customers over.customers (of_kinds plan.customers looks.customers)) in
    let with_suppliers = both IsWithinBounds _ _ with_customers
    (tests table.Supplier plan.suppliers over.suppliers (of_kinds plan.suppliers looks.suppliers)) in
    let with_parts = both IsWithinBounds _ _ with_suppliers
    (tests table.Part plan.parts over.parts (of_kinds plan.parts looks.parts)) in
    let with_dates = both IsWithinBounds _ _ with_parts
    (tests table.Date plan.dates over.dates (of_kinds plan.dates looks.dates)) in
    let with_quantity = both IsWithinBounds _ _ with_dates (quantity_within asked constants bits plan.quantity
    (subst (λ kinds. IsRangeOfConstants kinds QuantityIn constants plan.quantity) kinds looks.quantity)) in
    let with_discount = both IsWithinBounds _ _ with_quantity (discount_within asked constants bits plan.discount
    (subst (λ kinds. IsRangeOfConstants kinds DiscountIn constants plan.discount) kinds looks.discount)) in
    (tt, both IsWithinBounds _ _ with_discount (order_within (list_any is_by_sum plan.order)))

-- which clauses stand in order is seen by what they speak of
stands : List Clause → ℕ → Bool
stands clauses place = may_stand_at place (map subject (take place clauses)) (option_map subject (slice_get clauses place))

held : (clauses : List Clause) (place : ℕ) → place < length clauses
    → list_all (stands clauses) (range_with_len 0 (length clauses)) ≡ true → stands clauses place ≡ true
held clauses place lt all =
    let here = list_all_at (stands clauses) (range_with_len 0 (length clauses)) place 0 in
    grind (arith, here, lt, all, get_or-range_with_len, length-range_with_len)

in_order : (clauses : List Clause) → nat_lt 0 (length clauses) && nat_le (length clauses) 64 ≡ true
    → list_all (stands clauses) (range_with_len 0 (length clauses)) ≡ true → StandInOrder clauses
unfolding stands
in_order clauses few all = record {
  some = grind (arith, few, nat_tests);
  few = grind (arith, few, nat_tests);
  each = λ place clause e.
      ap (λ found. may_stand_at place (map subject (take place clauses)) (option_map subject found)) (sym e)
      ∙ held clauses place (slice_get_within clauses place clause e) all;
}

order_of_clauses : (asked : Query) (constants : List Value) → is_star asked ≡ false
    → StandInOrder (plan_clauses (plan_over asked constants))
unfolding stands
order_of_clauses Q1_1 constants other = in_order _ refl refl
order_of_clauses Q1_2 constants other = in_order _ refl refl
order_of_clauses Q1_3 constants other = in_order _ refl refl
order_of_clauses Q2_1 constants other = in_order _ refl refl
order_of_clauses Q2_2 constants other = in_order _ refl refl
order_of_clauses Q2_3 constants other = in_order _ refl refl
order_of_clauses Q3_1 constants other = in_order _ refl refl
order_of_clauses Q3_2 constants other = in_order _ refl refl
order_of_clauses Q3_3 constants other = in_order _ refl refl
order_of_clauses Q3_4 constants other = in_order _ refl refl
order_of_clauses Q4_1 constants other = in_order _ refl refl
order_of_clauses Q4_2 constants other = in_order _ refl refl
order_of_clauses Q4_3 constants other = in_order _ refl refl
order_of_clauses Star constants other = absurd cc

spelled : (star plain : Bool) → cond star false plain ≡ true → (star ≡ false) × (plain ≡ true)
spelled false plain e = (refl, e)
spelled true plain e = absurd cc

map_twice : (clauses : List Clause) → map Text (map clause_text clauses) ≡ spelling clauses
map_twice [] = refl
map_twice (clause ∷ clauses) = ap (λ later. Text (clause_text clause) ∷ later) (map_twice clauses)

-- fields of a request of `star` that ask the same
AskInWords : Query → List Value → List (List ℕ) → Type 0
AskInWords asked constants fields =
    (slice_get fields 0 ≡ Some (name_of Star)) × (constants_fault Star (words_of fields) ≡ None)
    × AsksTheSame asked (plan_over asked constants) (star_plan_over (words_of fields))

pub words : WordsAskTheSame
unfolding AskInWords
words asked constants fit bits anew =
    let how = spelled (is_star asked) (list_all has_no_point constants) anew in
    let clauses = plan_clauses (plan_over asked constants) in
    let taken =
    clauses_spelled clauses (within asked constants fit how.1 bits how.0) (order_of_clauses asked constants how.0) in
    let are = sym (map_twice clauses) in
    let fields : request_fields asked constants ≡ name_of Star ∷ map clause_text clauses = rw anew refl in
    subst (AskInWords asked constants) (sym fields) (
      refl,
      subst (λ constants. constants_fault Star constants ≡ None) are taken.0,
      subst (λ plan. AsksTheSame asked (plan_over asked constants) plan) (sym taken.1 ∙ ap star_plan_over are)
          (same asked constants how.0),
    )
