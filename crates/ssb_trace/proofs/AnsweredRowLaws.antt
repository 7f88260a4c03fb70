-- The rows of an answer over dimensions that the schema takes may stand in an allowed trace.
use Rattle.std.proofs.Common.{◌≡◌, Bool, true, List, [], ◌∷◌, ◌++◌, map, filter, Option, Some, None, ℤ}
use Rattle.std.proofs.Common.{IfSome, FitsSigned, refl, sym, ap, ◌∙◌, subst, arith, inl, inr, ◌⊎◌}
use Rattle.std.specs.Int.{w64}
use Rattle.std.specs.List.{AllByRecursion, AllZip, flat_map}
use Rattle.std.specs.Ordering.{is_eq}
use Rattle.std.specs.Prelude.{nat_eq}
use Rattle.std.proofs.lemmas.Cmp.{tied_itself}
use Rattle.std.proofs.lemmas.Option.{none-some}
use Rattle.ssb_questions.proofs.ColumnLaws.{at}
use Rattle.ssb_questions.proofs.StarLaws.{groups_read}
use Rattle.ssb_questions.specs.Members.{Has}
use Rattle.ssb_questions.specs.Clause.{kind_in}
use Rattle.ssb_questions.specs.Queries.{plan_over}
use Rattle.ssb_questions.specs.declared.kind.ConstantKind.{ConstantKind}
use Rattle.ssb_questions.specs.declared.plan.Plan.{Plan}
use Rattle.ssb_questions.specs.declared.query.Query.{Query}
use Rattle.ssb_questions.specs.declared.value.Value.{Value}
use Rattle.ssb_answers.proofs.MemberLaws.{all_at, has_filter, has_from_map}
use Rattle.ssb_answers.proofs.OrderLaws.{groups_cmp_total}
use Rattle.ssb_answers.proofs.OrderedLaws.{has_from_in_order}
use Rattle.ssb_answers.proofs.RowLaws.{some_sum}
use Rattle.ssb_answers.specs.Answer.{group_of, groups_among, groups_cmp, in_group, row_cmp, row_of, rows_over}
use Rattle.ssb_answers.specs.Combination.{Combination, combinations, joined, joined_with, passes, value_at}
use Rattle.ssb_answers.specs.declared.answer.ResultRow.{ResultRow}
use Rattle.ssb_base.specs.Base.{Dimensions}
use Rattle.ssb_schema.specs.Columns.{query_columns, C_CITY, C_NATION, C_REGION, C_MKTSEGMENT, S_CITY, S_NATION}
use Rattle.ssb_schema.specs.Columns.{S_REGION, P_MFGR, P_CATEGORY, P_BRAND1, D_DATEKEY, D_DAYOFWEEK, D_MONTH, D_YEAR}
use Rattle.ssb_schema.specs.Columns.{D_YEARMONTHNUM, D_YEARMONTH, D_WEEKNUMINYEAR, D_SELLINGSEASON, D_HOLIDAYFL}
use Rattle.ssb_schema.specs.Rows.{customer_values, date_values, part_values, supplier_values}
use Rattle.ssb_schema.specs.declared.column.Column.{Column}
use Rattle.ssb_schema.specs.declared.fact.Fact.{Fact}
use Rattle.ssb_schema.specs.declared.table.Table.TheVariants as table
use Rattle.ssb_trace.specs.Rows.{group_kinds, has_no_groups}
use Rattle.ssb_trace.specs.Allowed.{AreTakenDimensions, IsAllowedRow, IsAllowedSum, IsGroup}
use Rattle.ssb_text.specs.RoundTrip.{IsTableRow}
use Rattle.ssb_trace.specs.RoundTrip.{AnswersHaveAllowedRows}
use Rattle.ssb_text.proofs.ColumnTextLaws.{customer_fits, date_fits, part_fits, supplier_fits}

-- a combination of rows that the schema takes
record IsTaken (c : Combination) : Type 0 where
  customer : IsTableRow table.Customer (customer_values c.customer)
  supplier : IsTableRow table.Supplier (supplier_values c.supplier)
  part : IsTableRow table.Part (part_values c.part)
  date : IsTableRow table.Date (date_values c.date)

all-filter : {X : Type 0} (P : X → Type 0) (p : X → Bool) (xs : List X) → AllByRecursion P xs
    → AllByRecursion P (filter p xs)
all-filter P p [] all = grind arith
all-filter P p (x ∷ xs) all = grind (arith, all-filter P p xs all.1)

all-append : {X : Type 0} (P : X → Type 0) (xs ys : List X) → AllByRecursion P xs → AllByRecursion P ys
    → AllByRecursion P (xs ++ ys)
all-append P [] ys a b = b
all-append P (x ∷ xs) ys a b = (a.0, all-append P xs ys a.1 b)

all-flat : {X Y : Type 0} (Q : X → Type 0) (P : Y → Type 0) (f : X → List Y) (xs : List X) → AllByRecursion Q xs
    → ((x : X) → Q x → AllByRecursion P (f x))
    → AllByRecursion P (flat_map f xs)
all-flat Q P f [] all each = tt
all-flat Q P f (x ∷ xs) all each = all-append P (f x) (flat_map f xs) (each x all.0) (all-flat Q P f xs all.1 each)

all-map : {X Y : Type 0} (Q : X → Type 0) (P : Y → Type 0) (f : X → Y) (xs : List X) → AllByRecursion Q xs
    → ((x : X) → Q x → P (f x)) → AllByRecursion P (map f xs)
all-map Q P f [] all each = tt
all-map Q P f (x ∷ xs) all each = (each x all.0, all-map Q P f xs all.1 each)

module _ (dimensions : Dimensions) (taken : AreTakenDimensions dimensions) where
  joined-taken : (fact : Fact) → AllByRecursion IsTaken (joined_with dimensions fact)
  joined-taken fact =
      all-flat (λ row. IsTableRow table.Customer (customer_values row)) IsTaken _ _
      (all-filter _ (λ row. nat_eq row.key fact.customer) dimensions.customers taken.customers) (λ customer a.
      all-flat (λ row. IsTableRow table.Supplier (supplier_values row)) IsTaken _ _
      (all-filter _ (λ row. nat_eq row.key fact.supplier) dimensions.suppliers taken.suppliers) (λ supplier b.
      all-flat (λ row. IsTableRow table.Part (part_values row)) IsTaken _ _
      (all-filter _ (λ row. nat_eq row.key fact.part) dimensions.parts taken.parts) (λ part c.
      all-map (λ row. IsTableRow table.Date (date_values row)) IsTaken _ _
      (all-filter _ (λ row. nat_eq row.key fact.date) dimensions.dates taken.dates) (λ date d.
      record { customer = a; supplier = b; part = c; date = d }))))

  all-facts : (facts : List Fact) → AllByRecursion (λ fact. Unit {0}) facts
  all-facts [] = tt
  all-facts (fact ∷ facts) = (tt, all-facts facts)

  found-taken : (plan : Plan) (facts : List Fact) → AllByRecursion IsTaken (combinations plan dimensions facts)
  found-taken plan facts =
      all-filter IsTaken (passes plan) (joined dimensions facts)
      (all-flat (λ fact. Unit {0}) IsTaken (joined_with dimensions) facts (all-facts facts)
      (λ fact any. joined-taken fact))

-- what a combination has in a group column
abbrev IsIn : Combination → Column → Type 0
IsIn c column = IsGroup (kind_in column) (value_at column c)

in-customer-city : (c : Combination) → IsTaken c → IsIn c C_CITY
in-customer-city c taken = (customer_fits c.customer taken.customer).1.1.1.0

in-customer-nation : (c : Combination) → IsTaken c → IsIn c C_NATION
in-customer-nation c taken = (customer_fits c.customer taken.customer).1.1.1.1.0

in-customer-region : (c : Combination) → IsTaken c → IsIn c C_REGION
in-customer-region c taken = (customer_fits c.customer taken.customer).1.1.1.1.1.0

in-segment : (c : Combination) → IsTaken c → IsIn c C_MKTSEGMENT
in-segment c taken = (customer_fits c.customer taken.customer).1.1.1.1.1.1.1.0

in-supplier-city : (c : Combination) → IsTaken c → IsIn c S_CITY
in-supplier-city c taken = (supplier_fits c.supplier taken.supplier).1.1.1.0

in-supplier-nation : (c : Combination) → IsTaken c → IsIn c S_NATION
in-supplier-nation c taken = (supplier_fits c.supplier taken.supplier).1.1.1.1.0

in-supplier-region : (c : Combination) → IsTaken c → IsIn c S_REGION
in-supplier-region c taken = (supplier_fits c.supplier taken.supplier).1.1.1.1.1.0

in-manufacturer : (c : Combination) → IsTaken c → IsIn c P_MFGR
in-manufacturer c taken = (part_fits c.part taken.part).1.1.0

in-category : (c : Combination) → IsTaken c → IsIn c P_CATEGORY
in-category c taken = (part_fits c.part taken.part).1.1.1.0

in-brand : (c : Combination) → IsTaken c → IsIn c P_BRAND1
in-brand c taken = (part_fits c.part taken.part).1.1.1.1.0

in-day : (c : Combination) → IsTaken c → IsIn c D_DATEKEY
in-day c taken = let within = (date_fits c.date taken.date).0.0 in omega (arith, within)

in-day-of-week : (c : Combination) → IsTaken c → IsIn c D_DAYOFWEEK
in-day-of-week c taken = (date_fits c.date taken.date).1.1.0

in-month-name : (c : Combination) → IsTaken c → IsIn c D_MONTH
in-month-name c taken = (date_fits c.date taken.date).1.1.1.0

in-year : (c : Combination) → IsTaken c → IsIn c D_YEAR
in-year c taken = let within = (date_fits c.date taken.date).1.1.1.1.0.0 in omega (arith, within)

in-month-number : (c : Combination) → IsTaken c → IsIn c D_YEARMONTHNUM
in-month-number c taken = let within = (date_fits c.date taken.date).1.1.1.1.1.0.0 in omega (arith, within)

in-month : (c : Combination) → IsTaken c → IsIn c D_YEARMONTH
in-month c taken = (date_fits c.date taken.date).1.1.1.1.1.1.0

in-week : (c : Combination) → IsTaken c → IsIn c D_WEEKNUMINYEAR
in-week c taken = let within = (date_fits c.date taken.date).1.1.1.1.1.1.1.1.1.1.1.0.0 in omega (arith, within)

in-season : (c : Combination) → IsTaken c → IsIn c D_SELLINGSEASON
in-season c taken = (date_fits c.date taken.date).1.1.1.1.1.1.1.1.1.1.1.1.0

in-holiday : (c : Combination) → IsTaken c → IsIn c D_HOLIDAYFL
in-holiday c taken = (date_fits c.date taken.date).1.1.1.1.1.1.1.1.1.1.1.1.1.1.1.0

all-fit-in : (c : Combination) → IsTaken c → AllByRecursion (IsIn c) query_columns
all-fit-in c taken =
    (in-customer-city c taken, (in-customer-nation c taken, (in-customer-region c taken, (in-segment c taken, (in-supplier-city c taken, (in-supplier-nation c taken, (in-supplier-region c taken, (in-manufacturer c taken, (in-category c taken, (in-brand c taken, (in-day c taken, (in-day-of-week c taken, (in-month-name c taken, (in-year c taken, (in-month-number c taken, (in-month c taken, (in-week c taken, (in-season c taken, (in-holiday c taken, tt)))))))))))))))))))

-- a combination has in each column that queries read what it holds
each-fits : (c : Combination) → IsTaken c → (column : Column) → Has query_columns column → IsIn c column
each-fits c taken column has = at (IsIn c) query_columns column (all-fit-in c taken) has

-- and so it has in the group columns of a question
columns-fit : (c : Combination) → IsTaken c → (columns : List Column) → AllByRecursion (Has query_columns) columns
    → AllZip IsGroup (map kind_in columns) (map (λ column. value_at column c) columns)
columns-fit c taken [] all = tt
columns-fit c taken (column ∷ columns) all = (each-fits c taken column all.0, columns-fit c taken columns all.1)

groups-fit : (question : Query × List Value) (c : Combination) → IsTaken c
    → AllZip IsGroup (group_kinds question) (group_of (plan_over question.0 question.1) c)
groups-fit question c taken =
    columns-fit c taken (plan_over question.0 question.1).groups (groups_read question.0 question.1)

-- a group is that of a combination, unless there are no group columns
module _ (group : Combination → List Value) (found : List Combination) where
  Comes : List Column → List Value → Type 0
  Comes columns groups =
      ((columns ≡ []) × (groups ≡ [])) ⊎ ((c : Combination) × Has found c × (groups ≡ group c))

  group-comes : (columns : List Column) (groups : List Value) → Has (groups_among columns group found) groups
      → Comes columns groups
  unfolding Comes
  group-comes [] groups (inl e) = inl (refl, e)
  group-comes [] groups (inr none) = absurd none
  group-comes (column ∷ columns) groups has = inr (has_from_map group found groups has)

-- the row of a group
some-sum-allowed : (kinds : List ConstantKind) (sum : Option ℤ) (z : ℤ) → sum ≡ Some z → IfSome sum (FitsSigned w64)
    → IsAllowedSum kinds sum
some-sum-allowed kinds None z e fits = absurd (none-some z e)
some-sum-allowed kinds (Some sum) z e fits = fits

total-allowed : (kinds : List ConstantKind) (sum : Option ℤ) → has_no_groups kinds ≡ true
    → IfSome sum (FitsSigned w64) → IsAllowedSum kinds sum
total-allowed kinds None none fits = none
total-allowed kinds (Some sum) none fits = fits

module _ (question : Query × List Value) (dimensions : Dimensions) (facts : List Fact)
    (taken : AreTakenDimensions dimensions) where
  plan : Plan
  plan = plan_over question.0 question.1

  found : List Combination
  unfolding plan
  found = combinations plan dimensions facts

  row-allowed : (groups : List Value) → Comes (group_of plan) found plan.groups groups
      → IfSome (row_of plan found groups).sum (FitsSigned w64)
      → IsAllowedRow question (row_of plan found groups)
  unfolding Comes found plan
  row-allowed groups (inl (none, e)) fits =
      let kinds : group_kinds question ≡ [] = ap (map kind_in) none in
      record {
        groups = rw (kinds, e) tt;
        sum = total-allowed (group_kinds question) (row_of plan found groups).sum (rw kinds refl) fits;
      }
  row-allowed groups (inr (c, has, e)) fits =
      let fit : AllZip IsGroup (group_kinds question) (group_of plan c)
      = groups-fit question c (all_at IsTaken found c (found-taken dimensions taken plan facts) has) in
      let same : is_eq (groups_cmp (group_of plan c) groups) ≡ true =
      rw e (ap is_eq (tied_itself groups_cmp_total (group_of plan c))) in
      let sum = some_sum plan.measure (in_group plan groups found) c
      (has_filter (λ other. is_eq (groups_cmp (group_of plan other) groups)) found c same has) in
      record {
        groups = subst (AllZip IsGroup (group_kinds question)) (sym e) fit;
        sum = some-sum-allowed (group_kinds question) (row_of plan found groups).sum sum.0 sum.1 fits;
      }

  answered : (row : ResultRow) → Has (rows_over plan found) row → IfSome row.sum (FitsSigned w64)
      → IsAllowedRow question row
  answered row has fits =
      let target = has_from_map (row_of plan found) (groups_among plan.groups (group_of plan) found) row
      (has_from_in_order (row_cmp plan.order) _ row has) in
      let comes : Comes (group_of plan) found plan.groups target.0 =
      group-comes (group_of plan) found plan.groups target.0 target.1 in
      subst (IsAllowedRow question) (sym target.2)
      (row-allowed target.0 comes (subst (λ (r : ResultRow). IfSome r.sum (FitsSigned w64)) target.2 fits))

pub answers_have_allowed_rows : AnswersHaveAllowedRows
unfolding found plan
answers_have_allowed_rows question dimensions facts row taken has fits =
    answered question dimensions facts taken row has fits
