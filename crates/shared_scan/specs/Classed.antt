-- Places as the scan reads them: each row by its class.
use Rattle.fact_columns.specs.declared.place.Place.{Place}

-- the place with the classes of its rows in place of their positions
abbrev pub classed : Place → Place
classed place = record place {
  customer = place.customer_class;
  supplier = place.supplier_class;
  part = place.part_class;
  date = place.date_class;
}
