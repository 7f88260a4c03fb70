-- Clauses within the bounds are spelled by constants that `star` takes.
use Rattle.std.proofs.Common.{◌≡◌, ◌∙◌, ℕ, zero, suc, ◌+◌, ◌^◌, ◌<◌, ◌≤◌, Bool, true, false, cond}
use Rattle.std.proofs.Common.{nat_eq, nat_le, nat_lt}
use Rattle.std.proofs.Common.{List, [], ◌∷◌, length, take, drop, map, Option, Some, None, refl, sym, ap, subst}
use Rattle.std.proofs.Common.{arith}
use Rattle.std.proofs.Common.{rules}
use Rattle.std.specs.Prelude.{codes, decimal, find, option_and_then, option_map, slice_get}
use Rattle.std.specs.Char.{is_ascii_digit}
use Rattle.std.specs.Cmp.{second_so}
use Rattle.std.specs.List.{AllByRecursion, list_all, range_with_len}
use Rattle.std.proofs.lemmas.Bool.Decides.{nat_tests}
use Rattle.std.proofs.lemmas.Fmt.{decimal_nonempty, digits_decimal, digits_value-decimal, length-decimal-le}
use Rattle.std.proofs.lemmas.List.{length-map, take-map}
use Rattle.std.proofs.lemmas.Option.{slice_get-map}
use Rattle.std.proofs.lemmas.Str.Parse.{IsNumeralModel, numerals_by_weight}
use Rattle.ssb_schema.proofs.DigitLaws.{number_of-digits}
use Rattle.ssb_schema.specs.Columns.{column_name, query_columns}
use Rattle.ssb_schema.specs.Numerals.{decimal_value, number_of}
use Rattle.ssb_schema.specs.declared.column.Column.{Column}
use Rattle.ssb_questions.proofs.ColumnLaws.{at}
use Rattle.ssb_questions.specs.Clause.{Clause, Sums, GroupsBy, Is, IsNot, FromTo, QuantityIn, DiscountIn, BySum}
use Rattle.ssb_questions.specs.Clause.{clause_of, column_exclusion, column_test, kind_in, measure_name, most_in}
use Rattle.ssb_questions.specs.Clause.{number_spelled, number_up_to, parted}
use Rattle.ssb_questions.specs.Clause.{range_spelled}
use Rattle.ssb_questions.specs.Clause.{spelled_as, value_for}
use Rattle.ssb_questions.specs.Clauses.{clauses_of, first_bad, may_stand, subject}
use Rattle.ssb_questions.specs.Clauses.{subject_of}
use Rattle.ssb_questions.specs.Clauses.{subjects_of}
use Rattle.ssb_questions.specs.Kind.{fits}
use Rattle.ssb_questions.specs.Laws.{ClausesAreSpelled, IsAlone, IsFirst, IsRange, IsValueOf, IsWithinBounds}
use Rattle.ssb_questions.specs.Laws.{StandInOrder}
use Rattle.ssb_questions.specs.Laws.{clause_text, dotted, named, range_text, unlike, value_text}
use Rattle.ssb_questions.specs.Star.{star_plan}
use Rattle.ssb_questions.specs.declared.kind.ConstantKind.{ConstantKind}
use Rattle.ssb_questions.specs.declared.kind.ConstantKind.TheVariants as kind
use Rattle.ssb_questions.specs.declared.plan.Measure.{Measure}
use Rattle.ssb_questions.specs.declared.plan.Measure.TheVariants as measure
use Rattle.ssb_questions.specs.declared.plan.NumberRange.{NumberRange}
use Rattle.ssb_questions.specs.declared.question.ConstantsFault.TheVariants.{BadConstant}
use Rattle.ssb_questions.specs.declared.value.Value.{Value}
use Rattle.ssb_questions.specs.declared.value.Value.TheVariants as value

-- words and names are read back
measure_back : (m : Measure) → clause_of (measure_name m) ≡ Some (Sums m)
unfolding parted
measure_back measure.Revenue = refl
measure_back measure.Profit = refl
measure_back measure.PriceTimesDiscount = refl
measure_back measure.Quantity = refl
measure_back measure.ExtendedPrice = refl
measure_back measure.SupplyCost = refl
measure_back measure.Lines = refl

abbrev GroupBack : Column → Type 0
GroupBack column = clause_of (column_name column) ≡ Some (GroupsBy column)

groups_back : AllByRecursion GroupBack query_columns
unfolding parted
groups_back =
    (refl, (refl, (refl, (refl, (refl, (refl, (refl, (refl, (refl, (refl, (refl, (refl, (refl, (refl, (refl, (refl, (refl, (refl, (refl, tt)))))))))))))))))))

abbrev TestBack : Column → Type 0
TestBack column =
    (bytes : List ℕ)
    → clause_of (named (column_name column) bytes) ≡ column_test column bytes (parted (codes "..") bytes)

tests_back : AllByRecursion TestBack query_columns
unfolding parted
tests_back = grind arith

abbrev ExclusionBack : Column → Type 0
ExclusionBack column =
    (bytes : List ℕ)
    → clause_of (unlike (column_name column) bytes) ≡ column_exclusion column bytes (parted (codes "..") bytes)

exclusions_back : AllByRecursion ExclusionBack query_columns
unfolding parted
exclusions_back = grind arith

quantity_back : (bytes : List ℕ)
    → clause_of (named (codes "LO_QUANTITY") bytes) ≡ option_map QuantityIn (range_spelled bytes)
unfolding parted
quantity_back bytes = refl

discount_back : (bytes : List ℕ)
    → clause_of (named (codes "LO_DISCOUNT") bytes) ≡ option_map DiscountIn (range_spelled bytes)
unfolding parted
discount_back bytes = refl

order_back : clause_of (codes "ORDER=SUM") ≡ Some BySum
order_back = refl

-- numbers are read back, and hold no dots
digits_read : IsNumeralModel (λ ds. list_all is_ascii_digit ds ≡ true) decimal_value
digits_read = numerals_by_weight _ (search rules) decimal_value (search rules)

digits_all : (n : ℕ) → n < 2 ^ 64 → list_all is_ascii_digit (decimal n) ≡ true
digits_all n fits64 = digits_decimal digits_read n fits64

all_digits : (n : ℕ) → n < 2 ^ 32 → list_all is_ascii_digit (decimal n) ≡ true
all_digits n small = digits_all n (omega (arith, small))

number_read : (n : ℕ) → n < 2 ^ 64 → number_of (decimal n) ≡ Some n
number_read n fits64 =
    let is : decimal_value (decimal n) ≡ n = digits_value-decimal digits_read n fits64 in
    let few : length (decimal n) ≤ 20 = length-decimal-le 20 n (omega arith) (omega arith) fits64 in
    number_of-digits (decimal n) (decimal_nonempty n fits64) few (digits_all n fits64)
    (subst (λ m. m < 2 ^ 64) (sym is) fits64) ∙ ap Some is

number_back : (n : ℕ) → n < 2 ^ 32 → number_spelled (decimal n) ≡ Some n
number_back n small =
    let below : nat_lt n (2 ^ 32) ≡ true = grind (arith, small, nat_tests) in
    rw (number_read n (omega (arith, small)), below) refl

number_up_back : (most n : ℕ) → n ≤ most → n < 2 ^ 64 → number_up_to most (decimal n) ≡ Some n
number_up_back most n within fits64 =
    let below : nat_le n most ≡ true = grind (arith, within, nat_tests) in
    rw (number_read n fits64, below) refl

no_dot : (c : ℕ) → is_ascii_digit c ≡ true → nat_eq 46 c ≡ false
no_dot c digit = grind (arith, nat_tests)

digits_alone : (digits : List ℕ) → list_all is_ascii_digit digits ≡ true → parted (codes "..") digits ≡ None
unfolding parted
digits_alone [] all = grind arith
digits_alone (c ∷ digits) all = grind (arith, no_dot, digits_alone digits (second_so (is_ascii_digit c) (list_all is_ascii_digit digits) all))

digits_first : (digits : List ℕ) → list_all is_ascii_digit digits ≡ true
    → parted (codes "..") (dotted digits []) ≡ Some (digits, [])
unfolding parted
digits_first [] all = grind arith
digits_first (c ∷ digits) all = grind (arith, no_dot, digits_first digits (second_so (is_ascii_digit c) (list_all is_ascii_digit digits) all))

-- what stands before the first dots, whatever stands behind them
rest_of : Option (List ℕ × List ℕ) → Option (List ℕ × List ℕ)
rest_of None = None
rest_of (Some parts) = Some (drop 1 parts.0, parts.1)

not_here : (t : Bool) (b : ℕ) (rest tail behind : List ℕ) (later : Option (List ℕ × List ℕ))
    → cond {A = Option (List ℕ × List ℕ)} t (Some ([], behind)) (option_map (λ parts. (b ∷ parts.0, parts.1)) later)
    ≡ Some (b ∷ rest, tail) → (t ≡ false) × (later ≡ Some (rest, tail))
unfolding rest_of
not_here true b rest tail behind later e = grind arith
not_here false b rest tail behind None e = grind arith
not_here false b rest tail behind (Some parts) e = grind (arith, rest_of)

first_dots : (from to : List ℕ) → parted (codes "..") (dotted from []) ≡ Some (from, [])
    → parted (codes "..") (dotted from to) ≡ Some (from, to)
unfolding parted
first_dots [] to e = refl
first_dots (b ∷ []) to e =
    let here = not_here _ b [] [] _ (parted (codes "..") (dotted [] [])) e in
    rw here.0 refl
first_dots (b ∷ c ∷ from) to e =
    let here = not_here _ b (c ∷ from) [] _ (parted (codes "..") (dotted (c ∷ from) [])) e in
    let later = first_dots (c ∷ from) to here.1 in
    rw (here.0, later) refl

range_back : (range : NumberRange) → IsRange range → range_spelled (range_text range) ≡ Some range
range_back range is = grind (arith, first_dots, digits_first, all_digits, number_back)

-- values are read back
text_back : (k : ConstantKind) (most : ℕ) (bytes : List ℕ) → fits k (value.Text bytes) ≡ true
    → spelled_as k most bytes ≡ Some (value.Text bytes)
text_back (kind.Text column) most bytes fit = rw fit refl
text_back kind.Number most bytes fit = absurd cc

value_back : (column : Column) (v : Value) → IsValueOf column v → value_for column (value_text v) ≡ Some v
value_back column (value.Text bytes) is = text_back (kind_in column) (most_in column) bytes is
value_back column (value.Number n) is =
    ap (λ k. spelled_as k (most_in column) (decimal n)) is.0
    ∙ ap (option_map value.Number) (number_up_back (most_in column) n is.1 is.2)

alone : (column : Column) (v : Value) → IsValueOf column v → IsAlone v → parted (codes "..") (value_text v) ≡ None
alone column (value.Text bytes) is h = h
alone column (value.Number n) is h = digits_alone (decimal n) (digits_all n is.2)

first : (column : Column) (v : Value) (to : List ℕ) → IsValueOf column v → IsFirst v
    → parted (codes "..") (dotted (value_text v) to) ≡ Some (value_text v, to)
first column (value.Text bytes) to is h = first_dots bytes to h
first column (value.Number n) to is h = first_dots (decimal n) to (digits_first (decimal n) (digits_all n is.2))

-- each clause is read back
clause_back : (clause : Clause) → IsWithinBounds clause → clause_of (clause_text clause) ≡ Some clause
clause_back (Sums m) is = measure_back m
clause_back (GroupsBy column) is = at GroupBack query_columns column groups_back is
clause_back (Is column v) is =
    at TestBack query_columns column tests_back is.0 (value_text v)
    ∙ ap (column_test column (value_text v)) (alone column v is.1 is.2)
    ∙ ap (option_map (Is column)) (value_back column v is.1)
clause_back (IsNot column v) is =
    at ExclusionBack query_columns column exclusions_back is.0 (value_text v)
    ∙ ap (column_exclusion column (value_text v)) (alone column v is.1 is.2)
    ∙ ap (option_map (IsNot column)) (value_back column v is.1)
clause_back (FromTo column from to) is =
    at TestBack query_columns column tests_back is.0 (dotted (value_text from) (value_text to))
    ∙ ap (column_test column (dotted (value_text from) (value_text to))) (first column from (value_text to) is.1 is.3)
    ∙ ap (option_and_then (λ v. option_map (FromTo column v) (value_for column (value_text to))))
    (value_back column from is.1)
    ∙ ap (option_map (FromTo column from)) (value_back column to is.2)
clause_back (QuantityIn range) is = quantity_back (range_text range) ∙ ap (option_map QuantityIn) (range_back range is)
clause_back (DiscountIn range) is = discount_back (range_text range) ∙ ap (option_map DiscountIn) (range_back range is)
clause_back BySum is = order_back

-- and so are all of them
constant_of : Clause → Value
constant_of clause = value.Text (clause_text clause)

clauses_back : (clauses : List Clause) → AllByRecursion IsWithinBounds clauses
    → clauses_of (map constant_of clauses) ≡ clauses
unfolding constant_of
clauses_back [] all = grind arith
clauses_back (clause ∷ clauses) all = grind (arith, clause_back, clauses_back clauses all.1)

subjects_back : (clauses : List Clause) → AllByRecursion IsWithinBounds clauses
    → subjects_of (map constant_of clauses) ≡ map subject clauses
unfolding constant_of
subjects_back [] all = grind arith
subjects_back (clause ∷ clauses) all = grind (arith, clause_back, subjects_back clauses all.1)

take_all : {X : Type 0} (P : X → Type 0) (n : ℕ) (xs : List X) → AllByRecursion P xs → AllByRecursion P (take n xs)
take_all P zero xs all = tt
take_all P (suc n) [] all = tt
take_all P (suc n) (x ∷ xs) all = (all.0, take_all P n xs all.1)

at_place : {X : Type 0} (P : X → Type 0) (xs : List X) (i : ℕ) (x : X) → AllByRecursion P xs
    → slice_get xs i ≡ Some x → P x
at_place P [] i x all e = absurd cc
at_place P (y ∷ xs) zero x all e = let same : y ≡ x = cc in subst P same all.0
at_place P (y ∷ xs) (suc i) x all e = at_place P xs i x all.1 e

some_at : {X : Type 0} (xs : List X) (i : ℕ) → i < length xs → (x : X) × (slice_get xs i ≡ Some x)
some_at [] i lt = absurd (omega (arith, lt))
some_at (x ∷ xs) zero lt = (x, refl)
some_at (x ∷ xs) (suc i) lt = some_at xs i (omega (arith, lt))

stands : (clauses : List Clause) → AllByRecursion IsWithinBounds clauses → StandInOrder clauses → (place : ℕ)
    → place < length clauses → may_stand (map constant_of clauses) place ≡ true
unfolding constant_of
stands clauses all order place lt =
    let found = some_at clauses place lt in
    let clause = found.0 in
    let said = clause_back clause (at_place IsWithinBounds clauses place clause all found.1) in
    let constant : option_and_then subject_of (slice_get (map constant_of clauses) place) ≡ Some (subject clause) =
    ap (option_and_then subject_of) (slice_get-map constant_of clauses place ∙ ap (option_map constant_of) found.1)
    ∙ ap (option_map subject) said in
    let earlier : subjects_of (take place (map constant_of clauses)) ≡ map subject (take place clauses) =
    ap subjects_of (take-map constant_of place clauses)
    ∙ subjects_back (take place clauses) (take_all IsWithinBounds place clauses all) in
    let few : nat_lt place 64 ≡ true = let most = order.few in grind (arith, lt, most, nat_tests) in
    let may = order.each place clause found.1 in
    rw (few, earlier, constant) may

none_found : (p : ℕ → Bool) (n a : ℕ) → ((i : ℕ) → i < a + n → p i ≡ false) → find p (range_with_len a n) ≡ None
none_found p zero a h = grind arith
none_found p (suc n) a h = grind (arith, none_found p n (a + 1) (λ i lt. h i (omega (arith, lt))))

taken : (clauses : List Clause) → AllByRecursion IsWithinBounds clauses → StandInOrder clauses
    → first_bad (map constant_of clauses) ≡ None
taken clauses all order = grind (arith, none_found, constant_of, length-map, stands)

pub clauses_spelled : ClausesAreSpelled
unfolding constant_of
clauses_spelled clauses all order = (
  ap (option_map (λ place. BadConstant (place + 1))) (taken clauses all order),
  ap star_plan (clauses_back clauses all),
)
