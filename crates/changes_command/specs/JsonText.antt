-- A JSON object in parts. In what stands around its members 44 is a comma, 58 a colon, 123 and 125 are braces.
use Rattle.std.specs.Prelude.{ℕ, ◌==◌, Bool, ◌||◌, nat_lt, List, [], ◌∷◌, ◌++◌, map, flat_map, codes}
use Rattle.std.specs.List.{zip}
use Rattle.json.specs.Print.{quoted}
use Rattle.serde_json.specs.Written.{compact_text, number_text}
use Rattle.ssb_schema.specs.Columns.{Value}
use Rattle.changes_command.specs.SignedText.{line_names, sign_number, value_data}
use Rattle.changes_command.specs.declared.signed.Sign.{Sign}

-- whether a byte does not stand for itself between quotes
abbrev pub is_escaped : ℕ → Bool
is_escaped byte = (byte == 34) || (byte == 92) || nat_lt byte 32

-- what stands before the value of a member behind another
abbrev pub member_head : List ℕ → List ℕ
member_head name = 44 ∷ (quoted name ++ 58 ∷ [])

abbrev pub member_heads : List (List ℕ)
member_heads = map member_head line_names

-- that and the value
abbrev pub member_text : List ℕ × Value → List ℕ
member_text member = member.0 ++ compact_text (value_data member.1)

-- the members of a line, and the end of the object and of its line
abbrev pub line_members : List Value → List ℕ
line_members values = flat_map member_text (zip member_heads values) ++ 125 ∷ 10 ∷ []

abbrev pub sign_member : Sign → List ℕ
sign_member sign = member_head (codes "SIGN") ++ number_text (sign_number sign)

-- the members of the commit and of the sign
abbrev pub lead_text : List ℕ → Sign → List ℕ
lead_text commit sign = 123 ∷ (quoted (codes "COMMIT") ++ 58 ∷ (commit ++ sign_member sign))
