-- A row and the first of its class have the same values.
use Rattle.std.proofs.Common.{◌≡◌, ℕ, ◌+◌, ◌<◌, ◌≤◌, ◌⊎◌, inl, inr, Bool, true, false, cond, List, [], ◌∷◌, length, map}
use Rattle.std.proofs.Common.{fold, get_or, Some, zero, suc, sym, refl, ap, ◌∙◌, arith, unwrap_or}
use Rattle.std.specs.Prelude.{nat_eq, nat_lt, ◌&&◌, if◌then◌else◌, slice_get}
use Rattle.std.specs.List.{AllByRecursion, position_from, range_with_len}
use Rattle.std.proofs.lemmas.Bool.{ltb-false, ltb-true}
use Rattle.std.proofs.lemmas.List.{get_or-map}
use Rattle.std.proofs.lemmas.List.FromFn.{get_or-map-range_with_len}
use Rattle.std.proofs.lemmas.Option.{slice_get_within, get_or_from_slice_get}
use Rattle.std.proofs.lemmas.Iterator.Adapters.{position_from-zero}
use Rattle.ssb_schema.specs.declared.customer.CustomerFields.{CustomerFields}
use Rattle.ssb_schema.specs.declared.supplier.SupplierFields.{SupplierFields}
use Rattle.ssb_schema.specs.declared.part.PartFields.{PartFields}
use Rattle.ssb_schema.specs.declared.date.DateFields.{DateFields}
use Rattle.ssb_schema.specs.declared.table.Table.TheVariants as table
use Rattle.ssb_base.specs.Base.{Dimensions}
use Rattle.ssb_questions.specs.declared.value.Value.{Value}
use Rattle.ssb_questions.specs.declared.value.Value.TheVariants.{Number}
use Rattle.ssb_questions.proofs.ValueLaws.{value_Decides}
use Rattle.ssb_answers.specs.RowValues.{customer_value, supplier_value, part_value, date_value}
use Rattle.dimension_index.specs.Codes.{is_same}
use Rattle.dimension_index.specs.Classes.{are_alike, class_at, classes_by, classes_of, read_columns, extent_of}

apart : {X : Type 0} → true ≡ false → X
apart e = absurd (cc)

pub order : (m n : ℕ) → (m < n) ⊎ (n ≤ m)
order m zero = grind arith
order zero (suc n) = grind arith
order (suc m) (suc n) = grind (arith, order m n)

-- where a test passes at a number of a range, the first at which it does
first_in_range : (test : ℕ → Bool) (a n k : ℕ) → a ≤ k → k < a + n → test k ≡ true → (i : ℕ)
    × (position_from test a (range_with_len a n) ≡ Some i) × (i ≤ k) × (test i ≡ true)
first_in_range test a zero k from below passes = absurd (omega (arith, from, below))
first_in_range test a (suc n) k from below passes = step (test a) refl (order a k)
    (λ later. first_in_range test (a + 1) n k (omega (arith, later)) (omega (arith, below)) passes)
  where
    rest : List ℕ
    rest = range_with_len (a + 1) n

    step : (b : Bool) → test a ≡ b → (a < k) ⊎ (k ≤ a)
        → (a < k → (i : ℕ) × (position_from test (a + 1) rest ≡ Some i) × (i ≤ k) × (test i ≡ true)) → (i : ℕ)
        × (cond (test a) (Some a) (position_from test (a + 1) rest) ≡ Some i) × (i ≤ k) × (test i ≡ true)
    step true is side next = (a, ap (λ b. cond b (Some a) (position_from test (a + 1) rest)) is, from, is)
    step false is (inl later) next =
        let found = next later in
        (found.0, ap (λ b. cond b (Some a) (position_from test (a + 1) rest)) is ∙ found.1, found.2, found.3)
    step false is (inr here) next =
        let same : k ≡ a = omega (arith, from, here) in
        apart (sym passes ∙ ap test same ∙ is)

all_same : (columns : List (List Value)) (p : ℕ) → are_alike columns p p ≡ true
all_same [] p = grind arith
all_same (column ∷ columns) p = grind (arith, value_Decides, all_same columns p)

-- the class of a row is the position of a row that is like it, and not after it
pub class_found : (columns : List (List Value)) (count p : ℕ) → p < count → (get_or (classes_by columns count) p 0 ≤ p)
    × (are_alike columns p (get_or (classes_by columns count) p 0) ≡ true)
class_found columns count p within =
    let found = first_in_range (are_alike columns p) 0 count p (omega arith) (omega (arith, within))
    (all_same columns p) in
    let start : 0 + p ≡ p = omega arith in
    let class : get_or (classes_by columns count) p 0 ≡ found.0 =
    get_or-map-range_with_len (class_at columns count) 0 count p p 0 within start
    ∙ ap (λ o. unwrap_or o 0) (position_from-zero (are_alike columns p) (range_with_len 0 count) ∙ found.1) in
    (omega (arith, class, found.2), ap (are_alike columns p) class ∙ found.3)

both : (a b : Bool) → (a && b) ≡ true → (a ≡ true) × (b ≡ true)
both true b e = (refl, e)
both false b e = absurd (cc)

-- rows that are alike in some columns have the same values there
pub alike_values : {R : Type 0} (value : ℕ → R → Value) (rows : List R) (places : List ℕ) (p q : ℕ) (row first : R)
    → are_alike (map (λ place. map (value place) rows) places) p q ≡ true
    → slice_get rows p ≡ Some row → slice_get rows q ≡ Some first
    → AllByRecursion (λ place. value place row ≡ value place first) places
alike_values value rows [] p q row first alike at_p at_q = tt
alike_values {R = R} value rows (place ∷ places) p q row first alike at_p at_q =
    let here : (is_same (get_or (map (value place) rows) p (Number 0)) (get_or (map (value place) rows) q (Number 0))
    ≡ true) × (are_alike (map (λ own. map (value own) rows) places) p q ≡ true) = both _ _ alike in (
      sym (at p row at_p) ∙ (value_Decides _ _).0 here.0 ∙ at q first at_q,
      alike_values value rows places p q row first here.1 at_p at_q,
    )
  where
    at : (i : ℕ) (r : R) → slice_get rows i ≡ Some r → get_or (map (value place) rows) i (Number 0) ≡ value place r
    at i r there = get_or-map (value place) rows i r (Number 0) (slice_get_within rows i r there)
        ∙ ap (value place) (get_or_from_slice_get rows i r r there)

-- the rows at the positions p and q, the second the class of the first, have the same value at every place
pub same_customers : (d : Dimensions) (p q : ℕ) (row first : CustomerFields) → slice_get d.customers p ≡ Some row
    → q ≡ get_or (classes_of d table.Customer) p 0 → slice_get d.customers q ≡ Some first
    → (place : ℕ) → customer_value place row ≡ customer_value place first
unfolding classes_of
same_customers d p q row first at_p is at_q place =
    let columns = read_columns d table.Customer in
    let found = class_found columns (length d.customers) p (slice_get_within d.customers p row at_p) in
    let values = alike_values customer_value d.customers (4 ∷ 5 ∷ 6 ∷ 8 ∷ []) p q row first (ap (are_alike columns p) is ∙ found.1)
    at_p at_q in
    λ i. if nat_eq place 4 then values.0 i else if nat_eq place 5 then values.1.0 i else
    if nat_eq place 6 then values.1.1.0 i else if nat_eq place 8 then values.1.1.1.0 i else Number 0

pub same_suppliers : (d : Dimensions) (p q : ℕ) (row first : SupplierFields) → slice_get d.suppliers p ≡ Some row
    → q ≡ get_or (classes_of d table.Supplier) p 0 → slice_get d.suppliers q ≡ Some first
    → (place : ℕ) → supplier_value place row ≡ supplier_value place first
unfolding classes_of
same_suppliers d p q row first at_p is at_q place =
    let columns = read_columns d table.Supplier in
    let found = class_found columns (length d.suppliers) p (slice_get_within d.suppliers p row at_p) in
    let values = alike_values supplier_value d.suppliers (4 ∷ 5 ∷ 6 ∷ 0 ∷ []) p q row first (ap (are_alike columns p) is ∙ found.1)
    at_p at_q in
    λ i. if nat_eq place 4 then values.0 i else if nat_eq place 5 then values.1.0 i else
    if nat_eq place 6 then values.1.1.0 i else Number 0

pub same_parts : (d : Dimensions) (p q : ℕ) (row first : PartFields) → slice_get d.parts p ≡ Some row
    → q ≡ get_or (classes_of d table.Part) p 0 → slice_get d.parts q ≡ Some first
    → (place : ℕ) → part_value place row ≡ part_value place first
unfolding classes_of
same_parts d p q row first at_p is at_q place =
    let columns = read_columns d table.Part in
    let found = class_found columns (length d.parts) p (slice_get_within d.parts p row at_p) in
    let values = alike_values part_value d.parts (3 ∷ 4 ∷ 5 ∷ 0 ∷ []) p q row first (ap (are_alike columns p) is ∙ found.1) at_p at_q
    in
    λ i. if nat_eq place 3 then values.0 i else if nat_eq place 4 then values.1.0 i else
    if nat_eq place 5 then values.1.1.0 i else Number 0

pub same_dates : (d : Dimensions) (p q : ℕ) (row first : DateFields) → slice_get d.dates p ≡ Some row
    → q ≡ get_or (classes_of d table.Date) p 0 → slice_get d.dates q ≡ Some first
    → (place : ℕ) → date_value place row ≡ date_value place first
unfolding classes_of
same_dates d p q row first at_p is at_q place =
    let columns = read_columns d table.Date in
    let found = class_found columns (length d.dates) p (slice_get_within d.dates p row at_p) in
    let values = alike_values date_value d.dates (1 ∷ 3 ∷ 4 ∷ 5 ∷ 6 ∷ 7 ∷ 12 ∷ 13 ∷ 16 ∷ []) p q row first (ap (are_alike columns p) is ∙ found.1) at_p at_q
    in
    λ i. if nat_eq place 1 then values.0 i else if nat_eq place 3 then values.1.0 i else
    if nat_eq place 4 then values.1.1.0 i else if nat_eq place 5 then values.1.1.1.0 i else
    if nat_eq place 6 then values.1.1.1.1.0 i else if nat_eq place 7 then values.1.1.1.1.1.0 i else
    if nat_eq place 12 then values.1.1.1.1.1.1.0 i else if nat_eq place 13 then values.1.1.1.1.1.1.1.0 i else
    if nat_eq place 16 then values.1.1.1.1.1.1.1.1.0 i else Number 0

-- every class is below the extent
longer_is : (most class : ℕ) → (most ≤ (if nat_lt most (class + 1) then class + 1 else most))
    × (class < (if nat_lt most (class + 1) then class + 1 else most))
longer_is most class = grind (arith, ltb-true, ltb-false)

reaches : (classes : List ℕ) (most : ℕ) → most ≤ fold (λ top class. if nat_lt top (class + 1) then class + 1 else top)
    most classes
reaches [] most = grind arith
reaches (class ∷ classes) most = grind (arith, longer_is, reaches classes (if nat_lt most (class + 1) then class + 1 else most))

below_most : (classes : List ℕ) (most i : ℕ) → i < length classes
    → get_or classes i 0 < fold (λ top class. if nat_lt top (class + 1) then class + 1 else top) most classes
below_most [] most i within = grind arith
below_most (class ∷ classes) most zero within = grind (arith, reaches, longer_is)
below_most (class ∷ classes) most (suc i) within = grind (arith, below_most classes (if nat_lt most (class + 1) then class + 1 else most) i (omega (arith, within)))

pub below_extent : (classes : List ℕ) (i : ℕ) → i < length classes → get_or classes i 0 < extent_of classes
below_extent classes i within = below_most classes 0 i within
