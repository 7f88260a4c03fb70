-- Numbers and the end of a line in reports.
use Rattle.std.specs.Prelude.{ℕ, ℤ, List, [], ◌∷◌, Option, None, Some, codes}
use Rattle.std.specs.Fmt.{signed_decimal}

-- every line ends with a line feed
abbrev pub line_feed : List ℕ
line_feed = 10 ∷ []

-- a sum in decimal, with a minus where it is negative; NULL where there is none
abbrev pub sum_text : Option ℤ → List ℕ
sum_text None = codes "NULL"
sum_text (Some sum) = signed_decimal sum
