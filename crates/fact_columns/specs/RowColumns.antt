-- The rows that the lines of places name, column by column.
use Rattle.std.specs.Prelude.{ℕ, List, [], ◌∷◌, ◌++◌, length, map, nat_eq, set, slice_index}
use Rattle.std.specs.List.{position_or_len, range_with_len}
use Rattle.fact_columns.specs.declared.place.Place.{Place}

-- of each place the rows that its line names, by position
pub record RowColumns : Type 0 where
  pub customers : List ℕ
  pub suppliers : List ℕ
  pub parts : List ℕ
  pub dates : List ℕ

-- of no place
abbrev pub no_rows : RowColumns
no_rows = record { customers = []; suppliers = []; parts = []; dates = [] }

-- of places one behind another
abbrev pub appended : RowColumns → RowColumns → RowColumns
appended rows others = record {
  customers = rows.customers ++ others.customers;
  suppliers = rows.suppliers ++ others.suppliers;
  parts = rows.parts ++ others.parts;
  dates = rows.dates ++ others.dates;
}

-- of one place
abbrev pub rows_of : Place → RowColumns
rows_of place = record {
  customers = place.customer ∷ [];
  suppliers = place.supplier ∷ [];
  parts = place.part ∷ [];
  dates = place.date ∷ [];
}

-- of places of which one is written over
abbrev pub written : RowColumns → ℕ → Place → RowColumns
written rows at place = record {
  customers = set rows.customers at place.customer;
  suppliers = set rows.suppliers at place.supplier;
  parts = set rows.parts at place.part;
  dates = set rows.dates at place.date;
}

-- a column whose elements are laid at these places
abbrev pub laid_column : List ℕ → List ℕ → List ℕ
laid_column places column =
    map (λ place. slice_index column (position_or_len (nat_eq place) places)) (range_with_len 0 (length places))

-- the rows of the lines, laid at these places
abbrev pub laid : List ℕ → RowColumns → RowColumns
laid places rows = record {
  customers = laid_column places rows.customers;
  suppliers = laid_column places rows.suppliers;
  parts = laid_column places rows.parts;
  dates = laid_column places rows.dates;
}
