use Rattle.std.proofs.Common.{◌∙◌, subst}
use Rattle.std.specs.List.{AllByRecursion}
use Rattle.ssb_schema.specs.Rows.{customer_values, date_values, part_values, supplier_values}
use Rattle.ssb_schema.specs.declared.customer.CustomerFields.{CustomerFields}
use Rattle.ssb_schema.specs.declared.supplier.SupplierFields.{SupplierFields}
use Rattle.ssb_schema.specs.declared.part.PartFields.{PartFields}
use Rattle.ssb_schema.specs.declared.date.DateFields.{DateFields}
use Rattle.ssb_schema.specs.declared.table.Table.TheVariants as table
use Rattle.ssb_text.specs.RoundTrip.{IsTableRow}
use Rattle.ssb_trace.proofs.taken.dimensions_are_taken.Goals as goal

pub returns : goal.returns
returns c = record {
  customers = subst (AllByRecursion (λ (row : CustomerFields). IsTableRow table.Customer (customer_values row)))
      (c.rows.ensures ∙ c.customers.ensures) c.are_table_rows.ensures;
  suppliers = subst (AllByRecursion (λ (row : SupplierFields). IsTableRow table.Supplier (supplier_values row)))
      (c.rows-2.ensures ∙ c.suppliers.ensures) c.are_table_rows-2.ensures;
  parts = subst (AllByRecursion (λ (row : PartFields). IsTableRow table.Part (part_values row)))
      (c.rows-3.ensures ∙ c.parts.ensures) c.are_table_rows-3.ensures;
  dates = subst (AllByRecursion (λ (row : DateFields). IsTableRow table.Date (date_values row)))
      (c.rows-4.ensures ∙ c.dates.ensures) c.are_table_rows-4.ensures;
}
