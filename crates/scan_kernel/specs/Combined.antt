-- The combinations over lines whose keys each name one row.
use Rattle.std.specs.Prelude.{ℕ, ◌≡◌, Bool, List, All, map, filter, unwrap_or, slice_get, slice_index_or}
use Rattle.ssb_base.specs.Base.{Dimensions, Tables, IsSound, IsKnown, row_with, customer_key, supplier_key, part_key}
use Rattle.ssb_base.specs.Base.{date_key}
use Rattle.ssb_schema.specs.Facts.{facts_of}
use Rattle.ssb_schema.specs.declared.fact.Fact.{Fact}
use Rattle.ssb_schema.specs.declared.line.LineFields.{LineFields}
use Rattle.ssb_questions.specs.declared.plan.Plan.{Plan}
use Rattle.ssb_answers.specs.Combination.{Combination, passes, combinations}

-- the line with the rows that it names; where there is none, a row of the blank combination
abbrev pub combine : Combination → Dimensions → Fact → Combination
combine blank dimensions fact = record {
  fact = fact;
  customer = unwrap_or (row_with customer_key dimensions.customers fact.customer) blank.customer;
  supplier = unwrap_or (row_with supplier_key dimensions.suppliers fact.supplier) blank.supplier;
  part = unwrap_or (row_with part_key dimensions.parts fact.part) blank.part;
  date = unwrap_or (row_with date_key dimensions.dates fact.date) blank.date;
}

abbrev pub passes_line : Plan → Combination → Dimensions → Fact → Bool
passes_line plan blank dimensions fact = passes plan (combine blank dimensions fact)

-- the combinations are those of the lines that pass, one for each
abbrev pub CombinesEachLine : Type 0
CombinesEachLine =
    (blank : Combination) (plan : Plan) (base : Tables) (lines : List LineFields) → IsSound base
    → All (IsKnown base.dimensions) lines
    → combinations plan base.dimensions (facts_of lines)
    ≡ map (combine blank base.dimensions) (filter (passes_line plan blank base.dimensions) (facts_of lines))

-- where a line's rows stand
pub record Positions : Type 0 where
  pub customer : ℕ
  pub supplier : ℕ
  pub part : ℕ
  pub date : ℕ

-- the positions are those of the rows that the line names
pub record ArePositions (dimensions : Dimensions) (fact : Fact) (at : Positions) : Type 0 where
  pub customer : row_with customer_key dimensions.customers fact.customer ≡ slice_get dimensions.customers at.customer
  pub supplier : row_with supplier_key dimensions.suppliers fact.supplier ≡ slice_get dimensions.suppliers at.supplier
  pub part : row_with part_key dimensions.parts fact.part ≡ slice_get dimensions.parts at.part
  pub date : row_with date_key dimensions.dates fact.date ≡ slice_get dimensions.dates at.date

abbrev pub combine_at : Combination → Dimensions → Fact → Positions → Combination
combine_at blank dimensions fact at = record {
  fact = fact;
  customer = slice_index_or dimensions.customers at.customer blank.customer;
  supplier = slice_index_or dimensions.suppliers at.supplier blank.supplier;
  part = slice_index_or dimensions.parts at.part blank.part;
  date = slice_index_or dimensions.dates at.date blank.date;
}

abbrev pub CombinesAtPositions : Type 0
CombinesAtPositions =
    (blank : Combination) (dimensions : Dimensions) (fact : Fact) (at : Positions) → ArePositions dimensions fact at
    → combine blank dimensions fact ≡ combine_at blank dimensions fact at
