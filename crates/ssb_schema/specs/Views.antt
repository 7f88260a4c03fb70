-- What a clause sees of the fields of a line.
use Rattle.ssb_schema.specs.declared.line.LineFields.{LineFields}
use Rattle.ssb_schema.specs.declared.line.Line.TheInside.{Inside}

abbrev pub line_view : Inside → LineFields
line_view line = record {
  order_key = line.order_key;
  line_number = line.line_number;
  customer_key = line.customer_key;
  part_key = line.part_key;
  supplier_key = line.supplier_key;
  order_date = line.order_date;
  quantity = line.quantity;
  extended_price = line.extended_price;
  order_total_price = line.order_total_price;
  discount = line.discount;
  revenue = line.revenue;
  supply_cost = line.supply_cost;
  tax = line.tax;
  commit_date = line.commit_date;
  texts = line.texts;
}
