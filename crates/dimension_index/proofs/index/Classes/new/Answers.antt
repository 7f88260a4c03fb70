use Rattle.std.proofs.Common.{refl}
use Rattle.ssb_schema.specs.declared.table.Table.TheVariants as table
use Rattle.dimension_index.specs.Classes.{classes_of}
use Rattle.dimension_index.proofs.index.Classes.new.Goals as goal

pub returns : goal.returns
unfolding classes_of
returns c = elim [
  | table.Customer ↦ c.in_ok-table_classes.ensures
  | table.Supplier ↦ c.in_ok-table_classes-2.ensures
  | table.Part ↦ c.in_ok-table_classes-3.ensures
  | table.Date ↦ c.in_ok-table_classes-4.ensures
  | table.Lineorder ↦ refl
]
