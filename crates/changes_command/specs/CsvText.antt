-- A record of CSV in parts.
use Rattle.std.specs.Prelude.{ℕ, List, ◌∷◌}
use Rattle.csv.specs.Writing.{comma, default_writer, field_text}
use Rattle.changes_command.specs.SignedText.{sign_text}
use Rattle.changes_command.specs.declared.signed.Sign.{Sign}

-- a field behind another
abbrev pub after_comma : List ℕ → List ℕ
after_comma field = comma ∷ field_text default_writer field

abbrev pub sign_field : Sign → List ℕ
sign_field sign = comma ∷ sign_text sign
