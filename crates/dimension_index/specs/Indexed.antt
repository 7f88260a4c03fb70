-- What the index of a base keeps.
use Rattle.std.specs.Prelude.{◌≡◌, ℕ, List, [], map}
use Rattle.ssb_base.specs.Base.{Dimensions, Tables}
use Rattle.ssb_schema.specs.declared.table.Table.{Table}
use Rattle.ssb_schema.specs.declared.table.Table.TheVariants as table
use Rattle.dimension_index.specs.Classes.{classes_of, reduced}
use Rattle.dimension_index.specs.Values.{values_of}
use Rattle.dimension_index.specs.Kept.{kept_columns}
use Rattle.dimension_index.specs.declared.index.Classes.{Classes}
use Rattle.dimension_index.specs.declared.index.DimIndex.TheInside.{Inside}

-- the classes that are kept of a dimension's rows; the fact table has none
abbrev pub classes_in : Classes → Table → List ℕ
classes_in classes table.Customer = classes.customers.items
classes_in classes table.Supplier = classes.suppliers.items
classes_in classes table.Part = classes.parts.items
classes_in classes table.Date = classes.dates.items
classes_in classes table.Lineorder = []

abbrev pub AreClasses : Dimensions → Classes → Type 0
AreClasses d classes = (t : Table) → classes_in classes t ≡ classes_of d t

-- the kept columns, one by one; the classes of the rows; and the rows that begin a class
pub record IsIndexOf (base : Tables) (index : Inside) : Type 0 where
  pub columns_are : index.columns.items ≡ map (values_of base) kept_columns
  pub classes_are : AreClasses base.dimensions index.classes
  pub first_are : index.first_rows ≡ reduced base
