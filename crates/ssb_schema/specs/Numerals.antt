-- Numbers as digits write them.
use Rattle.std.specs.Prelude.{ℕ, ◌+◌, ◌-◌, ◌*◌, ◌^◌, Bool, ◌&&◌, List, [], ◌∷◌, length, Option, Some, None, nat_lt}
use Rattle.std.specs.Prelude.{nat_le, if◌then◌else◌}
use Rattle.std.specs.List.{list_all}
use Rattle.std.specs.Char.{is_ascii_digit}

-- the number that decimal digits write
abbrev pub decimal_value : List ℕ → ℕ
decimal_value [] = 0
decimal_value (c ∷ cs) = (c - 48) * 10 ^ length cs + decimal_value cs

-- whether bytes are 1 to 20 digits
abbrev pub is_numeral : List ℕ → Bool
is_numeral bytes = nat_lt 0 (length bytes) && nat_le (length bytes) 20 && list_all is_ascii_digit bytes

-- the number that bytes spell, which fits 64 bits
abbrev pub number_of : List ℕ → Option ℕ
number_of bytes = if is_numeral bytes && nat_lt (decimal_value bytes) (2 ^ 64) then Some (decimal_value bytes) else None
