-- A line with the rows that it names, as the code has it.
use Rattle.ssb_answers.specs.declared.joined.Joined.{Joined}
use Rattle.ssb_answers.specs.Combination.{Combination}

abbrev pub combination_of : Joined → Combination
combination_of joined = record {
  fact = joined.fact;
  customer = joined.customer.now;
  supplier = joined.supplier.now;
  part = joined.part.now;
  date = joined.date.now;
}
