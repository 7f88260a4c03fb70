use Rattle.std.proofs.Common.{◌≡◌, ◌<◌, ◌≤◌, ◌^◌, ℕ, ◌+◌, Bool, true, false, ◌||◌, nat_lt, cond, List, [], ◌∷◌, None, refl, arith, ap}
use Rattle.std.proofs.lemmas.Bool.{ltb-false}
use Rattle.ssb_schema.specs.declared.column.Column.{Column}
use Rattle.ssb_schema.specs.declared.kind.Kind.{Kind}
use Rattle.ssb_schema.specs.declared.kind.Kind.TheVariants as kind
use Rattle.ssb_schema.specs.declared.table.Table.{Table}
use Rattle.ssb_schema.specs.declared.table.Table.TheVariants as table
use Rattle.ssb_schema.specs.declared.line.LineFields.{LineFields}
use Rattle.ssb_schema.specs.Columns.{Value, Number, Text, column_fault, first_fault, key, kinds_of, row_fault}
use Rattle.ssb_schema.specs.Rows.{IsWithinLimits, line_values}
use Rattle.ssb_schema.proofs.line.LineFields.is_taken.Goals as goal

-- columns of a kind find no fault in a value
abbrev IsTaken : Kind → Value → Type 0
IsTaken kind value = (column : Column) → column_fault column kind value ≡ None

number_taken : (least most n : ℕ) → least ≤ n → n ≤ most → IsTaken (kind.Number least most) (Number n)
number_taken least most n low high = λ column. grind (arith, nat_lt, ltb-false)

amount_taken : (n : ℕ) → n < 2 ^ 32 → IsTaken (kind.Number 0 4294967295) (Number n)
amount_taken n few = number_taken 0 4294967295 n (omega arith) (omega (arith, few))

taken_then : (t : Table) (place : ℕ) (k : Kind) (v : Value) (kinds : List Kind) (values : List Value) → IsTaken k v
    → first_fault t (place + 1) kinds values ≡ None → first_fault t place (k ∷ kinds) (v ∷ values) ≡ None
unfolding first_fault
taken_then t place k v kinds values taken later = rw (taken (record { table = t; place = place }), later) refl

nothing_left : (t : Table) → first_fault t 18 [] [] ≡ None
unfolding first_fault
nothing_left t = refl

line_taken : (line : LineFields) → IsWithinLimits line → IsTaken key (Number line.order_key)
    → IsTaken key (Number line.customer_key) → IsTaken key (Number line.part_key)
    → IsTaken key (Number line.supplier_key) → IsTaken key (Number line.order_date)
    → IsTaken key (Number line.commit_date) → IsTaken kind.Text (Text line.texts.order_priority)
    → IsTaken kind.Text (Text line.texts.ship_priority) → IsTaken kind.Text (Text line.texts.ship_mode)
    → row_fault table.Lineorder (line_values line) ≡ None
line_taken line within order customer part supplier date commit first second third =
    let t = table.Lineorder in
    taken_then t 1 _ _ _ _ order
    (taken_then t 2 _ _ _ _ (number_taken 1 7 line.line_number within.line_number.0 within.line_number.1)
    (taken_then t 3 _ _ _ _ customer
    (taken_then t 4 _ _ _ _ part
    (taken_then t 5 _ _ _ _ supplier
    (taken_then t 6 _ _ _ _ date
    (taken_then t 7 _ _ _ _ first
    (taken_then t 8 _ _ _ _ second
    (taken_then t 9 _ _ _ _ (number_taken 1 50 line.quantity within.quantity.0 within.quantity.1)
    (taken_then t 10 _ _ _ _ (amount_taken line.extended_price within.extended_price)
    (taken_then t 11 _ _ _ _ (amount_taken line.order_total_price within.order_total_price)
    (taken_then t 12 _ _ _ _ (number_taken 0 10 line.discount (omega arith) within.discount)
    (taken_then t 13 _ _ _ _ (amount_taken line.revenue within.revenue)
    (taken_then t 14 _ _ _ _ (amount_taken line.supply_cost within.supply_cost)
    (taken_then t 15 _ _ _ _ (number_taken 0 8 line.tax (omega arith) within.tax)
    (taken_then t 16 _ _ _ _ commit
    (taken_then t 17 _ _ _ _ third (nothing_left t)))))))))))))))))

pub returns : goal.returns
returns c = λ third.
    line_taken c.args.self.now (c.is_within_limits.ensures c.if-not-is_within_limits.false) c.key_is_taken.ensures
    c.key_is_taken-2.ensures c.key_is_taken-3.ensures c.key_is_taken-4.ensures c.key_is_taken-5.ensures
    c.key_is_taken-6.ensures (rw c.order_priority.ensures at (c.takes_text.ensures c.if-not-takes_text.false))
    (rw c.ship_priority.ensures at (c.takes_text-2.ensures c.if-not-takes_text-2.false))
    (rw c.ship_mode.ensures at (c.takes_text-3.ensures third))
