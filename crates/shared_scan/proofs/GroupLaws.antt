use Rattle.std.proofs.Common.{arith}
-- No query groups by a column of the fact table.
use Rattle.std.proofs.Common.{◌≡◌, List}
use Rattle.std.specs.List.{AllByRecursion}
use Rattle.ssb_schema.specs.Columns.{query_columns}
use Rattle.ssb_schema.specs.declared.column.Column.{Column}
use Rattle.ssb_schema.specs.declared.table.Table.TheVariants.{Customer, Supplier, Part, Date, Lineorder}
use Rattle.ssb_answers.proofs.MemberLaws.{all_at, all_weaker}
use Rattle.ssb_questions.proofs.StarLaws.{groups_read}
use Rattle.ssb_questions.specs.Queries.{plan_over}
use Rattle.ssb_questions.specs.declared.query.Query.{Query}
use Rattle.ssb_questions.specs.declared.value.Value.{Value}

no_customer : Customer ≡ Lineorder → ⊥
no_customer e = cc

no_supplier : Supplier ≡ Lineorder → ⊥
no_supplier e = cc

no_part : Part ≡ Lineorder → ⊥
no_part e = cc

no_date : Date ≡ Lineorder → ⊥
no_date e = cc

abbrev IsOfDimension : Column → Type 0
IsOfDimension column = column.table ≡ Lineorder → ⊥

of_dimensions : AllByRecursion IsOfDimension query_columns
of_dimensions = grind (arith, no_customer, no_supplier, no_part, no_date)

pub dimensions_alone : (query : Query) (constants : List Value)
    → AllByRecursion (λ column. column.table ≡ Lineorder → ⊥) (plan_over query constants).groups
dimensions_alone query constants = grind (arith, all_weaker, IsOfDimension, all_at, of_dimensions, groups_read)
