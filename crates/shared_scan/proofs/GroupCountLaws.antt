-- The groups that a question was made ready with are as many as it may have.
use Rattle.std.proofs.Common.{ℕ, ◌≡◌, ◌*◌, Bool, true, false, cond, List, [], ◌∷◌, length, map, take, get_or, Option}
use Rattle.std.proofs.Common.{Some, None, refl, sym, ap, subst, ◌∙◌, arith}
use Rattle.std.specs.Prelude.{slice_get}
use Rattle.std.specs.List.{filter}
use Rattle.std.specs.Option.{option_map}
use Rattle.std.specs.Int.{bit_at}
use Rattle.std.proofs.lemmas.Option.{slice_get-map, slice_get-get_or, slice_get_within}
use Rattle.ssb_base.specs.Base.{Dimensions, Tables}
use Rattle.ssb_schema.specs.declared.column.Column.{Column}
use Rattle.ssb_schema.specs.declared.customer.CustomerFields.{CustomerFields}
use Rattle.ssb_schema.specs.declared.supplier.SupplierFields.{SupplierFields}
use Rattle.ssb_schema.specs.declared.part.PartFields.{PartFields}
use Rattle.ssb_schema.specs.declared.date.DateFields.{DateFields}
use Rattle.ssb_schema.specs.declared.table.Table.{Table}
use Rattle.ssb_schema.specs.declared.table.Table.TheVariants as table
use Rattle.ssb_questions.specs.Members.{Has}
use Rattle.ssb_questions.specs.declared.cond.Test.{Test}
use Rattle.ssb_questions.specs.declared.plan.Plan.{Plan}
use Rattle.ssb_questions.specs.declared.query.Query.{Query}
use Rattle.ssb_questions.specs.declared.value.Value.{Value}
use Rattle.ssb_questions.specs.Queries.{plan_over}
use Rattle.ssb_answers.specs.RowValues.{customer_value, supplier_value, part_value, date_value, pass}
use Rattle.ssb_answers.proofs.MemberLaws.{has_map, has_from_map, has_filter}
use Rattle.dimension_index.specs.Codes.{distinct}
use Rattle.dimension_index.specs.Classes.{read_columns, classes_of, extent_of, reduced}
use Rattle.dimension_index.specs.Values.{values_at}
use Rattle.dimension_index.proofs.AlikeLaws.{same_customers, same_suppliers, same_parts, same_dates}
use Rattle.scan_kernel.specs.Groups.{code_in, size_of, counts_of}
use Rattle.scan_kernel.specs.Masks.{IsMask}
use Rattle.scan_kernel.specs.Places.{mask_in}
use Rattle.scan_kernel.specs.declared.masks.Masks.{Masks}
use Rattle.shared_scan.specs.Batch.{IsReady}
use Rattle.shared_scan.specs.Grouped.{ArePrepared}
use Rattle.shared_scan.specs.GroupCounts.{values_passing, passing_values, count_passing, most_groups}
use Rattle.shared_scan.specs.Numbering.{IsPreparedColumn}
use Rattle.shared_scan.specs.Prepared.{AreMasksOf, masks_in}
use Rattle.shared_scan.specs.declared.ready.Ready.{Ready}
use Rattle.shared_scan.proofs.ClassedLaws.{among_all, class_there}
use Rattle.shared_scan.proofs.CountLaws.{equally_many, distinct_many}
use Rattle.shared_scan.proofs.DistinctLaws.{has_at, has_index, kept_has, distinct_apart, distinct_has, distinct_only}

mapped_row : {R : Type 0} (f : R → Value) (o : Option R) (v : Value) → option_map f o ≡ Some v
    → (row : R) × (o ≡ Some row) × (f row ≡ v)
mapped_row f None v e = absurd (cc)
mapped_row f (Some row) v e = let same : f row ≡ v = cc in (row, refl, same)

passes_by : (b : Bool) → ◌≡◌ {A = ℕ} (cond b 1 0) 1 → b ≡ true
passes_by true e = refl
passes_by false e = absurd (omega (arith, e))

module _ {R : Type 0} (value : ℕ → R → Value) (tests : List Test) (place : ℕ) where
  abbrev passes : R → Bool
  passes row = pass tests (λ own. value own row)

  -- the value of a row that passes is among those of the rows that pass
  passing_has : (rows : List R) (p : ℕ) (row : R) → slice_get rows p ≡ Some row → passes row ≡ true
      → Has (values_passing tests value rows place) (value place row)
  passing_has rows p row at passing = has_map (value place) (filter passes rows) row
      (has_filter passes rows row passing (has_at rows p row at))

  passing_row : (rows : List R) (v : Value) → Has (values_passing tests value rows place) v → (p : ℕ) × (row : R)
      × (slice_get rows p ≡ Some row) × (passes row ≡ true) × (v ≡ value place row)
  passing_row rows v h = grind (arith, has_from_map, passes, kept_has, has_index)

  -- rows among which each row of the others has its like, and no others, have the same values
  alike_many : (rows : List R) (n : ℕ)
      → ((p : ℕ) (row : R) → slice_get rows p ≡ Some row → (q : ℕ) × (first : R)
      × (slice_get (take n rows) q ≡ Some first) × ((own : ℕ) → value own row ≡ value own first))
      → length (distinct (values_passing tests value (take n rows) place))
      ≡ length (distinct (values_passing tests value rows place))
  alike_many rows n like = distinct_many (values_passing tests value (take n rows) place)
      (values_passing tests value rows place) (record {
        forth = λ v h.
            let found = passing_row (take n rows) v h in
            subst (Has (values_passing tests value rows place)) (sym found.4)
            (passing_has rows found.0 found.1 (among_all n rows found.0 found.1 found.2) found.3);
        back = λ v h.
            let found = passing_row rows v h in
            let first = like found.0 found.1 found.2 in
            let same : passes found.1 ≡ passes first.1 = λ i. pass tests (λ own. first.3 own i) in
            subst (Has (values_passing tests value (take n rows) place)) (sym (found.4 ∙ first.3 place))
            (passing_has (take n rows) first.0 first.1 first.2 (sym same ∙ found.3));
      })

-- the values of a group column of one dimension
module _ {R : Type 0} (value : ℕ → R → Value) (rows : List R) (tests : Plan → List Test) (plans : List Plan)
    (plan : Plan) (k step place : ℕ) (masks : Option (List ℕ)) (values : List Value) (parts : List ℕ)
    (asked : slice_get plans k ≡ Some plan)
    (tell : (p : ℕ) (row : R) → slice_get rows p ≡ Some row
    → IsMask (λ plan. pass (tests plan) (λ own. value own row)) plans (mask_in masks p))
    (made : IsPreparedColumn (map (value place) rows) masks k step values parts) where
  taken_pass : (v : Value) → Has values v → Has (values_passing (tests plan) value rows place) v
  taken_pass v h =
      let found = has_index values v h in
      let taken = made.only found.0 v found.1 in
      let row = mapped_row (value place) (slice_get rows taken.row) v
      (sym (slice_get-map (value place) rows taken.row) ∙ taken.own) in
      let passing = passes_by (pass (tests plan) (λ own. value own row.0))
      (sym (tell taken.row row.0 row.1 k plan asked) ∙ taken.taken) in
      subst (Has (values_passing (tests plan) value rows place)) row.2
      (passing_has value (tests plan) place rows taken.row row.0 row.1 passing)

  passing_taken : (v : Value) → Has (values_passing (tests plan) value rows place) v → Has values v
  passing_taken v h =
      let found = passing_row value (tests plan) place rows v h in
      let at : slice_get (map (value place) rows) found.0 ≡ Some (value place found.1) =
      slice_get-map (value place) rows found.0 ∙ ap (option_map (value place)) found.2 in
      let bit : bit_at (mask_in masks found.0) k ≡ 1 = tell found.0 found.1 found.2 k plan asked
      ∙ ap (λ (b : Bool). cond b 1 0) found.3 in
      subst (Has values) (sym found.4) (has_at values (code_in values (value place found.1)) (value place found.1)
      (made.adds found.0 (value place found.1) at bit).0)

  counted : length values ≡ length (distinct (values_passing (tests plan) value rows place))
  counted = grind (arith, equally_many, distinct_apart, distinct_has, taken_pass, passing_taken, distinct_only)

-- a column of the fact table has no values
unread : (masks : Option (List ℕ)) (k step : ℕ) (values : List Value) (parts : List ℕ)
    → IsPreparedColumn [] masks k step values parts → length values ≡ length (distinct [])
unfolding distinct
unread masks k step [] parts made = refl
unread masks k step (v ∷ values) parts made = absurd (let none = (made.only 0 v refl).own in cc)

module _ (base : Tables) (masks : Masks) (plans : List Plan) (tell : AreMasksOf plans base.dimensions masks)
    (plan : Plan) (k : ℕ) (asked : slice_get plans k ≡ Some plan) where
  column_counted : (t : Table) (place step : ℕ) (values : List Value) (parts : List ℕ)
      → IsPreparedColumn (values_at base t place) (masks_in t masks) k step values parts
      → length values ≡ length (distinct (passing_values base.dimensions plan t place))
  column_counted table.Customer place step values parts made = counted customer_value base.dimensions.customers
      (λ plan. plan.customers) plans plan k step place masks.customers values parts asked tell.customers_tell made
  column_counted table.Supplier place step values parts made = counted supplier_value base.dimensions.suppliers
      (λ plan. plan.suppliers) plans plan k step place masks.suppliers values parts asked tell.suppliers_tell made
  column_counted table.Part place step values parts made = counted part_value base.dimensions.parts
      (λ plan. plan.parts) plans plan k step place masks.parts values parts asked tell.parts_tell made
  column_counted table.Date place step values parts made = counted date_value base.dimensions.dates
      (λ plan. plan.dates) plans plan k step place masks.dates values parts asked tell.dates_tell made
  column_counted table.Lineorder place step values parts made = unread masks.dates k step values parts made

  columns_counted : (groups : List Column) (columns : List (List Value)) (step : ℕ) (parts : List (List ℕ))
      → ArePrepared base masks k groups columns step parts
      → counts_of columns ≡ map (count_passing base.dimensions plan) groups
  columns_counted [] [] step [] made = refl
  columns_counted [] [] step (part ∷ parts) made = absurd made
  columns_counted [] (values ∷ columns) step parts made = absurd made
  columns_counted (column ∷ groups) [] step parts made = absurd made
  columns_counted (column ∷ groups) (values ∷ columns) step [] made = absurd made
  columns_counted (column ∷ groups) (values ∷ columns) step (part ∷ parts) made = λ i.
      column_counted column.table column.place step values part made.0 i
      ∷ columns_counted groups columns (step * length values) parts made.1 i

  -- a question that is made ready has as many groups
  pub ready_counted : (question : Query × List Value) (ready : Ready) → plan ≡ plan_over question.0 question.1
      → IsReady base masks k question ready → ready.groups.size ≡ most_groups base question
  ready_counted question ready is made = grind (arith, columns_counted)

-- each row has its like among the rows that begin a class
module _ (d : Dimensions) (p : ℕ) where
  like_customer : (row : CustomerFields) → slice_get d.customers p ≡ Some row → (q : ℕ) × (first : CustomerFields)
      × (slice_get (take (extent_of (classes_of d table.Customer)) d.customers) q ≡ Some first)
      × ((own : ℕ) → customer_value own row ≡ customer_value own first)
  unfolding classes_of
  like_customer row at =
      let q = get_or (classes_of d table.Customer) p 0 in
      let firsts = take (extent_of (classes_of d table.Customer)) d.customers in
      let there = class_there (read_columns d table.Customer) d.customers p q
      (slice_get_within d.customers p row at) refl in
      let at_q = slice_get-get_or firsts q row there in (
        q,
        get_or firsts q row,
        at_q,
        same_customers d p q row (get_or firsts q row) at refl
            (among_all _ d.customers q (get_or firsts q row) at_q),
      )

  like_supplier : (row : SupplierFields) → slice_get d.suppliers p ≡ Some row → (q : ℕ) × (first : SupplierFields)
      × (slice_get (take (extent_of (classes_of d table.Supplier)) d.suppliers) q ≡ Some first)
      × ((own : ℕ) → supplier_value own row ≡ supplier_value own first)
  unfolding classes_of
  like_supplier row at =
      let q = get_or (classes_of d table.Supplier) p 0 in
      let firsts = take (extent_of (classes_of d table.Supplier)) d.suppliers in
      let there = class_there (read_columns d table.Supplier) d.suppliers p q
      (slice_get_within d.suppliers p row at) refl in
      let at_q = slice_get-get_or firsts q row there in (
        q,
        get_or firsts q row,
        at_q,
        same_suppliers d p q row (get_or firsts q row) at refl
            (among_all _ d.suppliers q (get_or firsts q row) at_q),
      )

  like_part : (row : PartFields) → slice_get d.parts p ≡ Some row → (q : ℕ) × (first : PartFields)
      × (slice_get (take (extent_of (classes_of d table.Part)) d.parts) q ≡ Some first)
      × ((own : ℕ) → part_value own row ≡ part_value own first)
  unfolding classes_of
  like_part row at =
      let q = get_or (classes_of d table.Part) p 0 in
      let firsts = take (extent_of (classes_of d table.Part)) d.parts in
      let there = class_there (read_columns d table.Part) d.parts p q
      (slice_get_within d.parts p row at) refl in
      let at_q = slice_get-get_or firsts q row there in (
        q,
        get_or firsts q row,
        at_q,
        same_parts d p q row (get_or firsts q row) at refl
            (among_all _ d.parts q (get_or firsts q row) at_q),
      )

  like_date : (row : DateFields) → slice_get d.dates p ≡ Some row → (q : ℕ) × (first : DateFields)
      × (slice_get (take (extent_of (classes_of d table.Date)) d.dates) q ≡ Some first)
      × ((own : ℕ) → date_value own row ≡ date_value own first)
  unfolding classes_of
  like_date row at =
      let q = get_or (classes_of d table.Date) p 0 in
      let firsts = take (extent_of (classes_of d table.Date)) d.dates in
      let there = class_there (read_columns d table.Date) d.dates p q
      (slice_get_within d.dates p row at) refl in
      let at_q = slice_get-get_or firsts q row there in (
        q,
        get_or firsts q row,
        at_q,
        same_dates d p q row (get_or firsts q row) at refl
            (among_all _ d.dates q (get_or firsts q row) at_q),
      )

count_reduced : (base : Tables) (plan : Plan) (t : Table) (place : ℕ)
    → length (distinct (passing_values (reduced base).dimensions plan t place))
    ≡ length (distinct (passing_values base.dimensions plan t place))
count_reduced base plan table.Customer place = alike_many customer_value plan.customers place base.dimensions.customers
    (extent_of (classes_of base.dimensions table.Customer)) (like_customer base.dimensions)
count_reduced base plan table.Supplier place = alike_many supplier_value plan.suppliers place base.dimensions.suppliers
    (extent_of (classes_of base.dimensions table.Supplier)) (like_supplier base.dimensions)
count_reduced base plan table.Part place = alike_many part_value plan.parts place base.dimensions.parts
    (extent_of (classes_of base.dimensions table.Part)) (like_part base.dimensions)
count_reduced base plan table.Date place = alike_many date_value plan.dates place base.dimensions.dates
    (extent_of (classes_of base.dimensions table.Date)) (like_date base.dimensions)
count_reduced base plan table.Lineorder place = refl

-- a question may have as many groups over the rows that begin a class as over all rows
pub most_reduced : (base : Tables) (question : Query × List Value)
    → most_groups (reduced base) question ≡ most_groups base question
most_reduced base question =
    let plan : Plan = plan_over question.0 question.1 in
    λ i. size_of (map (λ (column : Column). count_reduced base plan column.table column.place i) plan.groups)
