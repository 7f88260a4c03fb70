use Rattle.std.proofs.Common.{refl}
use Rattle.ssb_schema.proofs.date.DateFieldsFields.cells.Goals as goal

pub returns-clause-values : goal.returns-clause-values
returns-clause-values c = rw (
  c.of.ensures,
  c.as_str.ensures,
  c.as_str-2.ensures,
  c.as_str-3.ensures,
  c.as_str-4.ensures,
  c.as_str-5.ensures,
  c.as_str-6.ensures,
  c.as_str-7.ensures,
  c.as_str-8.ensures,
  c.as_str-9.ensures,
  c.as_str-10.ensures,
  c.as_str-11.ensures,
  c.as_str-12.ensures,
  c.as_str-13.ensures,
) refl
