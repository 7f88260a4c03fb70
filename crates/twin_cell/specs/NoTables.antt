-- A base of no rows.
use Rattle.std.specs.Prelude.{◌≤◌, []}
use native.Mathlib.Bridge.{le_by_compare, IsLe}
use Rattle.ssb_base.specs.Limits.{most_lines}
use Rattle.ssb_base.specs.Base.{Tables}

one_is_least : 1 ≤ 1
unfolding IsLe
one_is_least = le_by_compare 1 1 tt

row_limit : 1 ≤ 1048576
unfolding IsLe
row_limit = le_by_compare 1 1048576 tt

line_limit : 0 ≤ most_lines
unfolding IsLe
line_limit = le_by_compare 0 most_lines tt

commit_limit : 1 ≤ 72057594037927936
unfolding IsLe
commit_limit = le_by_compare 1 72057594037927936 tt

-- an empty base, which stands where a seat names none
pub no_tables : Tables
no_tables = record {
  limits = record {
    dimension_rows = 1;
    lines = 0;
    commits = 1;
    dimension_rows_range = (one_is_least, row_limit);
    lines_range = line_limit;
    commits_range = (one_is_least, commit_limit);
  };
  dimensions = record { customers = []; suppliers = []; parts = []; dates = [] };
  lines = [];
}
