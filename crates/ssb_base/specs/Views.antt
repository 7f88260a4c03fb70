-- What a clause sees of the fields of a base.
use Rattle.ssb_base.specs.Base.{Tables}
use Rattle.ssb_base.specs.declared.base.Base.TheInside.{Inside as BaseInside}

abbrev pub base_view : BaseInside → Tables
base_view base = record {
  limits = base.limits;
  dimensions = record {
    customers = base.customers;
    suppliers = base.suppliers;
    parts = base.parts;
    dates = base.dates;
  };
  lines = base.lines.items;
}
