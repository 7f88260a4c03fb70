-- Places with the classes of their rows.
use Rattle.std.specs.Prelude.{◌≡◌, slice_index}
use Rattle.ssb_base.specs.Base.{Dimensions}
use Rattle.ssb_schema.specs.declared.table.Table.TheVariants as table
use Rattle.dimension_index.specs.Classes.{classes_of}
use Rattle.fact_columns.specs.declared.place.Place.{Place}
use Rattle.fact_columns.specs.Places.{IsWithin}

-- a place, live or free, is within the dimensions, and beside each row's position it has the row's class
pub record IsPlaceOf (dimensions : Dimensions) (place : Place) : Type 0 where
  pub within : IsWithin dimensions place
  pub customer_class : place.customer_class ≡ slice_index (classes_of dimensions table.Customer) place.customer
  pub supplier_class : place.supplier_class ≡ slice_index (classes_of dimensions table.Supplier) place.supplier
  pub part_class : place.part_class ≡ slice_index (classes_of dimensions table.Part) place.part
  pub date_class : place.date_class ≡ slice_index (classes_of dimensions table.Date) place.date
