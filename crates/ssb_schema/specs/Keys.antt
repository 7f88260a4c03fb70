-- The primary key of a row of each dimension.
use Rattle.std.specs.Prelude.{ℕ}
use Rattle.ssb_schema.specs.declared.customer.CustomerFields.{CustomerFields}
use Rattle.ssb_schema.specs.declared.date.DateFields.{DateFields}
use Rattle.ssb_schema.specs.declared.part.PartFields.{PartFields}
use Rattle.ssb_schema.specs.declared.supplier.SupplierFields.{SupplierFields}

abbrev pub customer_key : CustomerFields → ℕ
customer_key customer = customer.key

abbrev pub supplier_key : SupplierFields → ℕ
supplier_key supplier = supplier.key

abbrev pub part_key : PartFields → ℕ
part_key part = part.key

abbrev pub date_key : DateFields → ℕ
date_key date = date.key
