use Rattle.std.proofs.Common.{map, ap, subst, ◌∙◌}
use Rattle.std.specs.List.{AllByRecursion}
use Rattle.ssb_schema.specs.Columns.{value_of}
use Rattle.ssb_text.specs.RoundTrip.{IsColumnText}
use Rattle.ssb_text.proofs.rows.is_table_row.Goals as goal

pub returns : goal.returns
returns g c = record {
  taken = c.cells.ensures.taken;
  texts = subst (AllByRecursion IsColumnText) (ap (map value_of) c.as_slice.ensures ∙ c.cells.ensures.cells)
      c.are_texts.ensures;
}
