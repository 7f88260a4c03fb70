use Rattle.std.proofs.Common.{◌≡◌, Some, ap}
use Rattle.ssb_text.specs.Load.{reader_of}
use Rattle.ssb_schema.specs.declared.table.Table.TheVariants.{Customer, Supplier, Part, Date, Lineorder}
use Rattle.small_data.specs.SmallTexts.{small_texts}
use Rattle.small_data.proofs.tables.Goals as goal

pub returns : goal.returns
returns c = λ t. elim t as (λ t. Some
    (reader_of (record {
      customer = c.as_bytes.result;
      supplier = c.as_bytes-2.result;
      part = c.as_bytes-3.result;
      date = c.as_bytes-4.result;
      lineorder = c.as_bytes-5.result;
    }) t).now ≡ Some (small_texts t)) [
      | Customer ↦ ap Some c.as_bytes.ensures.value
      | Supplier ↦ ap Some c.as_bytes-2.ensures.value
      | Part ↦ ap Some c.as_bytes-3.ensures.value
      | Date ↦ ap Some c.as_bytes-4.ensures.value
      | Lineorder ↦ ap Some c.as_bytes-5.ensures.value
    ]
