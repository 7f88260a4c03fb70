-- What positions read as.
use Rattle.std.proofs.Common.{◌≡◌, ℕ, ◌<◌, not, List, length, map, get_or, Some, sym, ap, ◌∙◌, arith}
use Rattle.std.specs.Prelude.{nat_eq, slice_index}
use Rattle.std.specs.Option.{option_map_or}
use Rattle.std.proofs.lemmas.Bool.{eqb-true, ne_eqb}
use Rattle.std.proofs.lemmas.List.{get_or-map, length-map}
use Rattle.std.proofs.lemmas.List.Quantifiers.{position-Some}
use Rattle.std.proofs.lemmas.Option.{slice_get-get_or}
use Rattle.ssb_base.specs.Base.{Tables, customer_key, supplier_key, part_key, date_key}
use Rattle.ssb_schema.specs.declared.fact.Fact.{Fact}
use Rattle.ssb_schema.specs.declared.table.Table.TheVariants as table
use Rattle.ssb_schema.specs.Facts.{IsFactWithinLimits}
use Rattle.dimension_index.specs.Classes.{classes_of}
use Rattle.dimension_index.specs.Keys.{position_in, position_of}
use Rattle.fact_columns.specs.Places.{key_at, quantity_in, discount_in}
use Rattle.fact_columns.specs.Coded.{IsCodeOf}
use Rattle.fact_columns.proofs.CodingLaws.{some_row}

-- the row at the position of a key is there, and has the key
pub position_reads : {R : Type 0} (key : R → ℕ) (rows : List R) (k p : ℕ) → position_in (map key rows) k ≡ Some p
    → (p < length rows) × (key_at key rows p ≡ k)
position_reads key rows k p at =
    let found = position-Some (λ own. nat_eq own k) (map key rows) p 0 at in
    let within : p < length rows = omega (arith, found.0, length-map rows key) in
    let d = some_row rows (omega (arith, within)) in (
      within,
      ap (λ o. option_map_or key o 0) (slice_get-get_or rows p d within) ∙ sym (get_or-map key rows p d 0 within)
          ∙ eqb-true (get_or (map key rows) p 0) k found.1,
    )

-- positions of the fact's rows and its numbers are its code
pub code_of : (base : Tables) (fact own : Fact) (customer supplier part date terms customer_class supplier_class
    part_class date_class : ℕ)
    → customer_class ≡ slice_index (classes_of base.dimensions table.Customer) customer
    → supplier_class ≡ slice_index (classes_of base.dimensions table.Supplier) supplier
    → part_class ≡ slice_index (classes_of base.dimensions table.Part) part
    → date_class ≡ slice_index (classes_of base.dimensions table.Date) date
    → position_of base table.Customer fact.customer ≡ Some customer
    → position_of base table.Supplier fact.supplier ≡ Some supplier
    → position_of base table.Part fact.part ≡ Some part → position_of base table.Date fact.date ≡ Some date
    → quantity_in terms ≡ fact.quantity → discount_in terms ≡ fact.discount → IsFactWithinLimits fact → fact ≡ own
    → IsCodeOf base.dimensions own (record {
      order = fact.order_key;
      customer = customer;
      supplier = supplier;
      part = part;
      date = date;
      terms = terms;
      price = fact.price;
      revenue = fact.revenue;
      cost =
          fact.cost;
      customer_class = customer_class;
      supplier_class = supplier_class;
      part_class =
          part_class;
      date_class = date_class;
    })
code_of base fact own customer supplier part date terms customer_class supplier_class part_class date_class of_customer
    of_supplier of_part of_date c s p d quantity discount limits is =
    let dimensions = base.dimensions in
    let customers = position_reads customer_key dimensions.customers fact.customer customer c in
    let suppliers = position_reads supplier_key dimensions.suppliers fact.supplier supplier s in
    let parts = position_reads part_key dimensions.parts fact.part part p in
    let dates = position_reads date_key dimensions.dates fact.date date d in
    record {
      reads = (λ i. record {
        order_key = fact.order_key;
        customer = customers.1 i;
        supplier = suppliers.1 i;
        part = parts.1 i;
        date = dates.1 i;
        quantity = quantity i;
        discount = discount i;
        price = fact.price;
        revenue = fact.revenue;
        cost = fact.cost;
      }) ∙ is;
      live = ap not (ne_eqb (quantity_in terms) 0 (λ none. omega (arith, none, quantity, limits.quantity.0)));
      within = record {
        within = record {
          customer = customers.0;
          supplier = suppliers.0;
          part = parts.0;
          date = dates.0;
          quantity = omega (arith, quantity, limits.quantity.1);
          discount = omega (arith, discount, limits.discount);
          price = limits.price;
          revenue = limits.revenue;
          cost = limits.cost;
        };
        customer_class = of_customer;
        supplier_class = of_supplier;
        part_class = of_part;
        date_class = of_date;
      };
    }
