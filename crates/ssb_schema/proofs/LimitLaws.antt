-- What a row without a fault keeps.
use Rattle.std.proofs.Common.{◌≡◌, ◌<◌, ◌≤◌, ◌^◌, ℕ, zero, suc, ◌+◌, Bool, true, false, ◌||◌, nat_lt, cond, List, []}
use Rattle.std.proofs.Common.{◌∷◌, Option, Some, None, refl, arith}
use Rattle.std.specs.List.{slice_get}
use Rattle.std.proofs.lemmas.Bool.{ltb-false}
use Rattle.ssb_schema.specs.declared.table.Table.{Table}
use Rattle.ssb_schema.specs.declared.table.Table.TheVariants as table
use Rattle.ssb_schema.specs.declared.kind.Kind.{Kind}
use Rattle.ssb_schema.specs.declared.kind.Kind.TheVariants as kind
use Rattle.ssb_schema.specs.declared.column.Column.{Column}
use Rattle.ssb_schema.specs.declared.fault.SchemaFault.{SchemaFault}
use Rattle.ssb_schema.specs.Columns.{Value, Number, column_fault, first_fault, kinds_of, row_fault, or_else}
use Rattle.ssb_schema.specs.declared.line.LineFields.{LineFields}
use Rattle.ssb_schema.specs.Facts.{fact_of, IsFactWithinLimits}
use Rattle.ssb_schema.specs.Rows.{line_values, IsWithinLimits}

-- neither answer is there where the first of them is not
or_else_none : (a b : Option SchemaFault) → or_else a b ≡ None → (a ≡ None) × (b ≡ None)
or_else_none None b e = (refl, e)
or_else_none (Some f) b e = absurd cc

-- neither test holds where no fault was found by them
neither : (a b : Bool) (f : SchemaFault) → cond (a || b) (Some f) None ≡ None → (a ≡ false) × (b ≡ false)
neither true b f e = absurd cc
neither false true f e = absurd cc
neither false false f e = (refl, refl)

-- a number without a fault is within its range
in_range : (column : Column) (least most n : ℕ) → column_fault column (kind.Number least most) (Number n) ≡ None
    → (least ≤ n) × (n ≤ most)
in_range column least most n e = grind (arith, neither, nat_lt, ltb-false)

-- each number of a row without a fault is within its range
pub number_within : (t : Table) (place i least most n : ℕ) (ks : List Kind) (vs : List Value)
    → first_fault t place ks vs ≡ None → slice_get ks i ≡ Some (kind.Number least most)
    → slice_get vs i ≡ Some (Number n) → (least ≤ n) × (n ≤ most)
unfolding first_fault
number_within t place i least most n [] vs e at_k at_v = absurd cc
number_within t place i least most n (k ∷ ks) [] e at_k at_v = absurd cc
number_within t place zero least most n (k ∷ ks) (v ∷ vs) e at_k at_v =
    let here =
    (or_else_none (column_fault (record { table = t; place = place }) k v) (first_fault t (place + 1) ks vs) e).0 in
    let k-is : k ≡ kind.Number least most = cc in
    let v-is : v ≡ Number n = cc in
    in_range (record { table = t; place = place }) least most n (rw (k-is, v-is) at here)
number_within t place (suc i) least most n (k ∷ ks) (v ∷ vs) e at_k at_v = number_within t
    (place + 1) i least most n ks vs
    (or_else_none (column_fault (record { table = t; place = place }) k v)
    (first_fault t (place + 1) ks vs) e).1 at_k at_v

-- a line without a fault is within the limits
pub line_within : (r : LineFields) → row_fault table.Lineorder (line_values r) ≡ None → IsWithinLimits r
line_within r e =
    let at : (i least most n : ℕ) → slice_get (kinds_of table.Lineorder) i ≡ Some (kind.Number least most)
    → slice_get (line_values r) i ≡ Some (Number n) → (least ≤ n) × (n ≤ most)
    = λ i least most n at_k at_v. number_within table.Lineorder 1 i least most n (kinds_of table.Lineorder)
    (line_values r) e at_k at_v in
    record {
      line_number = at 1 1 7 r.line_number refl refl;
      quantity = at 8 1 50 r.quantity refl refl;
      extended_price = omega (arith, (at 9 0 4294967295 r.extended_price refl refl).1);
      order_total_price = omega (arith, (at 10 0 4294967295 r.order_total_price refl refl).1);
      discount = (at 11 0 10 r.discount refl refl).1;
      revenue = omega (arith, (at 12 0 4294967295 r.revenue refl refl).1);
      supply_cost = omega (arith, (at 13 0 4294967295 r.supply_cost refl refl).1);
      tax = (at 14 0 8 r.tax refl refl).1;
    }

-- so are those of its fact
pub fact_within : (r : LineFields) → IsWithinLimits r → IsFactWithinLimits (fact_of r)
fact_within r h = grind arith
