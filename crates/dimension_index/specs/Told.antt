-- Rows told apart by their codes in four columns.
use Rattle.std.specs.Prelude.{ℕ, Bool, ◌&&◌, nat_eq, List, map, length, Option, Some, None, slice_index, unwrap_or}
use Rattle.std.specs.Prelude.{if◌then◌else◌}
use Rattle.std.specs.List.{position, range_with_len}
use Rattle.std.specs.Option.{option_or}

-- a row's codes in four columns
abbrev pub RowCodes : Type 0
RowCodes = ℕ × ℕ × ℕ × ℕ

abbrev pub same_told : RowCodes → RowCodes → Bool
same_told x y = ((nat_eq x.0 y.0 && nat_eq x.1 y.1) && nat_eq x.2 y.2) && nat_eq x.3 y.3

-- the codes of the row at a position, where these are the columns' codes
abbrev pub told_at : (a b c d : List ℕ) → ℕ → RowCodes
told_at a b c d p = (slice_index a p, slice_index b p, slice_index c p, slice_index d p)

-- the codes of all rows
abbrev pub told_rows : (a b c d : List ℕ) → List RowCodes
told_rows a b c d = map (told_at a b c d) (range_with_len 0 (length a))

-- where codes stand first
abbrev pub first_in : List RowCodes → RowCodes → ℕ
first_in rows told = unwrap_or (position (λ own. same_told own told) rows) 0

-- the first places, with that of a row which may be new
abbrev pub noted : (RowCodes → Option ℕ) → RowCodes → ℕ → RowCodes → Option ℕ
noted places told at other = option_or (places other) (if same_told told other then Some at else None)
