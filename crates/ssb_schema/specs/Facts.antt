-- What queries and columns read of a line.
use Rattle.std.specs.Prelude.{◌≤◌, ◌<◌, ◌^◌, List, map}
use Rattle.ssb_schema.specs.declared.fact.Fact.{Fact}
use Rattle.ssb_schema.specs.declared.line.LineFields.{LineFields}

abbrev pub fact_of : LineFields → Fact
fact_of line = record {
  order_key = line.order_key;
  customer = line.customer_key;
  supplier = line.supplier_key;
  part = line.part_key;
  date = line.order_date;
  quantity = line.quantity;
  discount = line.discount;
  price = line.extended_price;
  revenue = line.revenue;
  cost = line.supply_cost;
}

abbrev pub facts_of : List LineFields → List Fact
facts_of lines = map fact_of lines

-- the numbers of a fact are within the ranges of their columns
pub record IsFactWithinLimits (fact : Fact) : Type 0 where
  pub quantity : (1 ≤ fact.quantity) × (fact.quantity ≤ 50)
  pub discount : fact.discount ≤ 10
  pub price : fact.price < 2 ^ 32
  pub revenue : fact.revenue < 2 ^ 32
  pub cost : fact.cost < 2 ^ 32
