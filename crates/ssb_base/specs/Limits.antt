-- How large a warehouse may grow at most, and the ranges of the limits.
use Rattle.std.specs.Prelude.{ℕ, ◌≤◌}
use Rattle.ssb_base.specs.declared.limits.Limits.{Limits}

abbrev pub most_dimension_rows : ℕ
most_dimension_rows = 1048576

-- the sum of any measure over so many lines fits an `i64`
abbrev pub most_lines : ℕ
most_lines = 134217728

abbrev pub most_commits : ℕ
most_commits = 72057594037927936

-- the most of a warehouse whose history is kept whole beside it
abbrev pub standard_commits : ℕ
standard_commits = 1000000

pub record AreLimits (dimension_rows lines commits : ℕ) : Type 0 where
  pub dimension_rows_range : (1 ≤ dimension_rows) × (dimension_rows ≤ most_dimension_rows)
  pub lines_range : lines ≤ most_lines
  pub commits_range : (1 ≤ commits) × (commits ≤ most_commits)

-- the three numbers
abbrev pub limits_of : Limits → ℕ × ℕ × ℕ
limits_of limits = (limits.dimension_rows, limits.lines, limits.commits)
