-- What stands at the front of a text, by the classes of its bytes.
use Rattle.std.specs.Prelude.{ℕ, ◌+◌, Bool, true, false, not, ◌&&◌, ◌||◌, ◌==◌, nat_le, List, [], ◌∷◌, drop}
use Rattle.std.specs.Prelude.{Option, None, Some, option_map, if◌then◌else◌}
use Rattle.std.specs.Char.{is_ascii_digit, is_ascii_alphanumeric}
use Rattle.ssb_sql.specs.declared.lexeme.Class.{Class}
use Rattle.ssb_sql.specs.declared.lexeme.Class.TheVariants as class
use Rattle.ssb_sql.specs.declared.lexeme.Front.{Front}
use Rattle.ssb_sql.specs.declared.lexeme.Lexeme.{Lexeme}
use Rattle.ssb_sql.specs.declared.lexeme.Lexeme.TheVariants as lexeme
use Rattle.ssb_sql.specs.declared.token.Mark.{Mark}
use Rattle.ssb_sql.specs.declared.token.Mark.TheVariants as m

-- blanks are the space, and 9 to 13: tabs and ends of lines; words have letters, digits and `_`
abbrev pub is_in : Class → ℕ → Bool
is_in class.Blank b = b == 32 || (nat_le 9 b && nat_le b 13)
is_in class.Digit b = is_ascii_digit b
is_in class.Word b = is_ascii_alphanumeric b || b == 95
is_in class.Line b = not (b == 10)

-- how many bytes of a class a text begins with
abbrev pub run_len : Class → List ℕ → ℕ
run_len class [] = 0
run_len class (b ∷ bytes) = if is_in class b then run_len class bytes + 1 else 0

abbrev pub begins : ℕ → List ℕ → Bool
begins byte [] = false
begins byte (b ∷ bytes) = b == byte

-- up to the end of a comment, `*/`, which ends it; true: behind a `*`
abbrev pub comment_len : Bool → List ℕ → Option ℕ
comment_len is_behind_star [] = None
comment_len is_behind_star (b ∷ bytes) =
    if is_behind_star && b == 47 then Some 1 else option_map (λ n. n + 1) (comment_len (b == 42) bytes)

-- up to the quote that ends a text, with it; within the text, or behind a quote: that ends the text, unless another one
-- stands there
abbrev pub has_ended : Bool → ℕ → Bool
has_ended is_within b = not is_within && not (b == 39)

abbrev pub is_within_behind : Bool → ℕ → Bool
is_within_behind is_within b = not (is_within && b == 39)

abbrev pub quoted_len : Bool → List ℕ → Option ℕ
quoted_len is_within [] = if is_within then None else Some 0
quoted_len is_within (b ∷ bytes) =
    if has_ended is_within b then Some 0
    else option_map (λ n. n + 1) (quoted_len (is_within_behind is_within b) bytes)

-- what so many bytes at the front are
abbrev pub sized : Lexeme → ℕ → Option Front
sized what size = Some (record { lexeme = what; size = size })

abbrev pub mark : Mark → ℕ → Option Front
mark own size = sized (lexeme.Mark own) size

-- a number is digits, with no letter and no point behind them
abbrev pub may_follow_number : List ℕ → Bool
may_follow_number [] = true
may_follow_number (b ∷ bytes) = not (is_in class.Word b || b == 46)

abbrev pub number_at : List ℕ → Option Front
number_at bytes =
    if may_follow_number (drop (run_len class.Digit bytes) bytes) then sized lexeme.Number (run_len class.Digit bytes)
    else None

-- behind `-`: a comment to the end of its line, or the mark
abbrev pub minus_at : List ℕ → Option Front
minus_at bytes = if begins 45 bytes then sized lexeme.Gap (run_len class.Line bytes + 1) else mark m.Minus 1

-- behind `/`: a comment
abbrev pub slash_at : List ℕ → Option Front
slash_at [] = None
slash_at (b ∷ bytes) =
    if b == 42 then option_map (λ n. record { lexeme = lexeme.Gap; size = n + 2 }) (comment_len false bytes)
    else None

-- behind `<`, `>` and `!`
abbrev pub less_at : List ℕ → Option Front
less_at bytes =
    if begins 61 bytes then mark m.LessOrEqual 2
    else if begins 62 bytes then mark m.NotEqual 2
    else mark m.Less 1

abbrev pub greater_at : List ℕ → Option Front
greater_at bytes = if begins 61 bytes then mark m.GreaterOrEqual 2 else mark m.Greater 1

abbrev pub not_at : List ℕ → Option Front
not_at bytes = if begins 61 bytes then mark m.NotEqual 2 else None

-- behind a quote: a text, in which a quote stands doubled
abbrev pub text_at : List ℕ → Option Front
text_at bytes = option_map (λ n. record { lexeme = lexeme.Text; size = n + 1 }) (quoted_len true bytes)

-- a mark of one byte
abbrev pub single : ℕ → Option Front
single b =
    if b == 40 then mark m.Open 1
    else if b == 41 then mark m.Close 1
    else if b == 44 then mark m.Comma 1
    else if b == 59 then mark m.Semicolon 1
    else if b == 42 then mark m.Star 1
    else if b == 61 then mark m.Equal 1
    else if b == 46 then sized lexeme.Point 1
    else None

-- what begins with a byte of no class, and what stands behind it
abbrev pub mark_at : ℕ → List ℕ → Option Front
mark_at b bytes =
    if b == 45 then minus_at bytes
    else if b == 47 then slash_at bytes
    else if b == 60 then less_at bytes
    else if b == 62 then greater_at bytes
    else if b == 33 then not_at bytes
    else if b == 39 then text_at bytes
    else single b

-- what stands at the front of a text, the longest that it can be, and how many bytes it has; none where the text is
-- empty, or begins with nothing that a statement has
abbrev pub front_of : List ℕ → Option Front
front_of [] = None
front_of (b ∷ bytes) =
    if is_in class.Blank b then sized lexeme.Gap (run_len class.Blank (b ∷ bytes))
    else if is_in class.Digit b then number_at (b ∷ bytes)
    else if is_in class.Word b then sized lexeme.Word (run_len class.Word (b ∷ bytes))
    else mark_at b bytes
