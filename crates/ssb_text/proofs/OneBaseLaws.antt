use Rattle.std.proofs.Common.{arith}
-- Texts spell the rows of one base only: the records of a text are one list, and a record spells one row.
use Rattle.std.proofs.Common.{◌≡◌, ℕ, List, [], ◌∷◌, get_or, map, Ok, Result, refl, sym, ap, ◌∙◌, subst}
use Rattle.std.specs.List.{AllZip}
use Rattle.ssb_base.specs.Base.{Dimensions, Tables}
use Rattle.ssb_schema.specs.Columns.{Value, Number, Text}
use Rattle.ssb_schema.specs.Rows.{customer_values, date_values, line_values, part_values, supplier_values}
use Rattle.ssb_schema.specs.Texts.{texts_of}
use Rattle.ssb_schema.specs.declared.customer.CustomerFields.{CustomerFields}
use Rattle.ssb_schema.specs.declared.date.DateFields.{DateFields}
use Rattle.ssb_schema.specs.declared.line.LineFields.{LineFields}
use Rattle.ssb_schema.specs.declared.part.PartFields.{PartFields}
use Rattle.ssb_schema.specs.declared.supplier.SupplierFields.{SupplierFields}
use Rattle.ssb_schema.specs.declared.table.Table.{Table}
use Rattle.ssb_schema.specs.declared.table.Table.TheVariants as table
use Rattle.ssb_text.proofs.OneListLaws.{one_records}
use Rattle.ssb_text.specs.Load.{SpellsBase, values_in}
use Rattle.ssb_text.specs.Tables.{SpellsRow}
use Rattle.ssb_text.specs.RoundTrip.{TextsSpellOneBase}

same-Ok : {A E : Type 0} (v w : A) (r : Result A E) → r ≡ Ok v → r ≡ Ok w → v ≡ w
same-Ok v w r one other = let both : Ok v ≡ Ok w = sym one ∙ other in cc

-- records spell one list of rows
rows-of : (t : Table) (records : List (List (List ℕ))) (one other : List (List Value))
    → AllZip (SpellsRow t) records one → AllZip (SpellsRow t) records other → one ≡ other
rows-of t [] [] [] a b = grind arith
rows-of t [] [] (w ∷ other) a b = grind arith
rows-of t [] (v ∷ one) other a b = grind arith
rows-of t (fields ∷ records) [] other a b = grind arith
rows-of t (fields ∷ records) (v ∷ one) [] a b = grind arith
rows-of t (fields ∷ records) (v ∷ one) (w ∷ other) a b = grind (arith, same-Ok, rows-of t records one other a.1 b.1)

pub same_values : (texts : Table → List ℕ) (one other : Tables) → SpellsBase texts one → SpellsBase texts other
    → (t : Table) → values_in one t ≡ values_in other t
same_values texts one other a b t =
    let records : (a t).records ≡ (b t).records =
    one_records (texts t) (a t).records (b t).records (a t).all (b t).all in
    rows-of t (a t).records (values_in one t) (values_in other t) (a t).spelled
    (subst (λ rs. AllZip (SpellsRow t) rs (values_in other t)) (sym records) (b t).spelled)

-- a row is read off its values
abbrev the-number : Value → ℕ
the-number (Number n) = n
the-number (Text bytes) = 0

abbrev the-text : Value → List ℕ
the-text (Number n) = []
the-text (Text bytes) = bytes

abbrev number-in : List Value → ℕ → ℕ
number-in values place = the-number (get_or values place (Number 0))

abbrev text-in : List Value → ℕ → List ℕ
text-in values place = the-text (get_or values place (Number 0))

abbrev customer-of : List Value → CustomerFields
customer-of v = record {
  key = number-in v 0;
  name = text-in v 1;
  address = text-in v 2;
  city = text-in v 3;
  nation = text-in v 4;
  region = text-in v 5;
  phone = text-in v 6;
  market_segment = text-in v 7;
}

abbrev supplier-of : List Value → SupplierFields
supplier-of v = record {
  key = number-in v 0;
  name = text-in v 1;
  address = text-in v 2;
  city = text-in v 3;
  nation = text-in v 4;
  region = text-in v 5;
  phone = text-in v 6;
}

abbrev part-of : List Value → PartFields
part-of v = record {
  key = number-in v 0;
  name = text-in v 1;
  manufacturer = text-in v 2;
  category = text-in v 3;
  brand = text-in v 4;
  color = text-in v 5;
  part_type = text-in v 6;
  size = text-in v 7;
  container = text-in v 8;
}

abbrev date-of : List Value → DateFields
date-of v = record {
  key = number-in v 0;
  date_text = text-in v 1;
  day_of_week = text-in v 2;
  month = text-in v 3;
  year = number-in v 4;
  year_month_number = number-in v 5;
  year_month = text-in v 6;
  day_in_week = text-in v 7;
  day_in_month = text-in v 8;
  day_in_year = text-in v 9;
  month_in_year = text-in v 10;
  week = number-in v 11;
  selling_season = text-in v 12;
  last_day_in_week_flag = text-in v 13;
  last_day_in_month_flag = text-in v 14;
  holiday_flag = text-in v 15;
  weekday_flag = text-in v 16;
}

abbrev line-of : List Value → LineFields
line-of v = record {
  order_key = number-in v 0;
  line_number = number-in v 1;
  customer_key = number-in v 2;
  part_key = number-in v 3;
  supplier_key = number-in v 4;
  order_date = number-in v 5;
  quantity = number-in v 8;
  extended_price = number-in v 9;
  order_total_price = number-in v 10;
  discount = number-in v 11;
  revenue = number-in v 12;
  supply_cost = number-in v 13;
  tax = number-in v 14;
  commit_date = number-in v 15;
  texts = texts_of (text-in v 6) (text-in v 7) (text-in v 16);
}

all-back : {A : Type 0} (values : A → List Value) (back : List Value → A) → ((row : A) → back (values row) ≡ row)
    → (rows : List A) → map back (map values rows) ≡ rows
all-back values back is [] = refl
all-back values back is (row ∷ rows) = rw (is row, all-back values back is rows) refl

same-rows : {A : Type 0} (values : A → List Value) (back : List Value → A) → ((row : A) → back (values row) ≡ row)
    → (one other : List A) → map values one ≡ map values other → one ≡ other
same-rows values back is one other same =
    sym (all-back values back is one) ∙ (ap (map back) same ∙ all-back values back is other)

same-dimensions : (one other : Dimensions) → one.customers ≡ other.customers → one.suppliers ≡ other.suppliers
    → one.parts ≡ other.parts → one.dates ≡ other.dates → one ≡ other
same-dimensions one other customers suppliers parts dates = grind arith

pub texts_spell_one_base : TextsSpellOneBase
texts_spell_one_base texts one other a b =
    let same = same_values texts one other a b in
    let Rows = one.dimensions in
    let Others = other.dimensions in (
      same-dimensions Rows Others
          (same-rows customer_values customer-of (λ row. refl) Rows.customers Others.customers (same table.Customer))
          (same-rows supplier_values supplier-of (λ row. refl) Rows.suppliers Others.suppliers (same table.Supplier))
          (same-rows part_values part-of (λ row. refl) Rows.parts Others.parts (same table.Part))
          (same-rows date_values date-of (λ row. refl) Rows.dates Others.dates (same table.Date)),
      same-rows line_values line-of (λ row. refl) one.lines other.lines (same table.Lineorder),
    )
