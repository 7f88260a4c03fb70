-- A text, cut into its parts: one token each.
use Rattle.std.specs.Prelude.{ℕ, zero, suc, ◌==◌, nat_lt, List, [], ◌∷◌, length, take, drop, codes}
use Rattle.std.specs.Prelude.{Option, None, Some, option_map, option_and_then, unwrap_or, Result, Ok, Err, if◌then◌else◌}
use Rattle.ssb_schema.specs.Numerals.{number_of}
use Rattle.ssb_schema.specs.declared.table.Table.{Table}
use Rattle.ssb_questions.specs.declared.clause.Spelled.TheVariants as spelled
use Rattle.ssb_sql.specs.Lexemes.{front_of}
use Rattle.ssb_sql.specs.Texts.{anywhere, bare_token}
use Rattle.ssb_sql.specs.Words.{same_word, table_with, token_of}
use Rattle.ssb_sql.specs.declared.cutting.Cut as code
use Rattle.ssb_sql.specs.declared.lexeme.Lexeme.{Lexeme}
use Rattle.ssb_sql.specs.declared.lexeme.Lexeme.TheVariants as lexeme
use Rattle.ssb_sql.specs.declared.part.Part as made
use Rattle.ssb_sql.specs.declared.part.NoPart.{NoPart}
use Rattle.ssb_sql.specs.declared.token.SqlToken.{SqlToken}
use Rattle.ssb_sql.specs.declared.token.SqlToken.TheVariants as k
use Rattle.ssb_sql.specs.declared.token.SqlWord.TheVariants as w

-- what stands at the front of a text, its bytes, and what stands behind it
pub record Cut : Type 0 where
  pub lexeme : Lexeme
  pub piece : List ℕ
  pub rest : List ℕ

abbrev pub cut : List ℕ → Option Cut
cut text =
    option_map (λ front. record { lexeme = front.lexeme; piece = take front.size text; rest = drop front.size text })
    (front_of text)

abbrev pub cut_now : code.Cut → Cut
cut_now own = record { lexeme = own.lexeme; piece = own.piece.now; rest = own.rest.now }

-- the text behind a blank or a comment, where it begins with one
abbrev pub rest_of_gap : Lexeme → List ℕ → Option (List ℕ)
rest_of_gap lexeme.Gap rest = Some rest
rest_of_gap _ rest = None

abbrev pub behind_gap : List ℕ → Option (List ℕ)
behind_gap text = option_and_then (λ own. rest_of_gap own.lexeme own.rest) (cut text)

-- the text behind blanks and comments, of which there are at most so many
abbrev pub behind_gaps : ℕ → List ℕ → List ℕ
behind_gaps zero text = text
behind_gaps (suc most) text = unwrap_or (option_map (behind_gaps most) (behind_gap text)) text

-- each has a byte or more
abbrev pub without_gaps : List ℕ → List ℕ
without_gaps text = behind_gaps (length text) text

-- the text behind a mark, where it begins with the mark
abbrev pub behind : List ℕ → List ℕ → Option (List ℕ)
behind [] text = Some text
behind (m ∷ mark) [] = None
behind (m ∷ mark) (b ∷ text) = if b == m then behind mark text else None

-- the bytes before the last, where that is this one
abbrev pub before_last : ℕ → List ℕ → Option (List ℕ)
before_last byte [] = None
before_last byte (b ∷ []) = if b == byte then Some [] else None
before_last byte (b ∷ c ∷ text) = option_map (λ before. b ∷ before) (before_last byte (c ∷ text))

-- the text between quotes, as it stands there
abbrev pub between_quotes : List ℕ → Option (List ℕ)
between_quotes text = option_and_then (before_last 39) (behind (39 ∷ []) text)

-- a token, the bytes that it begins with, the table whose column it is where a name stands before it, and what stands
-- behind
pub record Part : Type 0 where
  pub first : List ℕ
  pub token : SqlToken
  pub table : Option Table
  pub rest : List ℕ

abbrev pub part_now : made.Part → Part
part_now own =
    record { first = own.first.now; token = bare_token own.token; table = own.table; rest = own.rest.now }

abbrev pub part_read : Result made.Part NoPart → Option Part
part_read (Ok own) = Some (part_now own)
part_read (Err fault) = None

abbrev pub plain : List ℕ → List ℕ → SqlToken → Part
plain first rest token = record { first = first; token = token; table = None; rest = rest }

-- a number of 32 bits, or a greater one, which fits 64
abbrev pub number_said : ℕ → SqlToken
number_said n = if nat_lt n 4294967296 then k.Value (spelled.Number n) else k.Large n

abbrev pub number_token : List ℕ → Option SqlToken
number_token digits = option_map number_said (number_of digits)

abbrev pub text_said : List ℕ → SqlToken
text_said text = k.Value (spelled.Text (anywhere text))

abbrev pub text_token : List ℕ → Option SqlToken
text_token quoted = option_map text_said (between_quotes quoted)

-- COLLATE, with the "C" behind it
abbrev pub by_bytes : List ℕ → List ℕ → Part
by_bytes word rest = plain word rest (k.Word w.ByBytes)

abbrev pub collated : List ℕ → List ℕ → Option Part
collated word rest = option_map (by_bytes word) (behind (codes "\"C\"") (without_gaps rest))

-- a column, behind a name and a point
abbrev pub column_of : List ℕ → List ℕ → List ℕ → Table → Part
column_of first column rest own =
    record { first = first; token = token_of column; table = Some own; rest = rest }

abbrev pub column_as : List ℕ → Lexeme → List ℕ → List ℕ → Option Part
column_as first lexeme.Word column rest = option_map (column_of first column rest) (table_with column)
column_as first _ column rest = None

abbrev pub qualified : List ℕ → Option Cut → Option Part
qualified first None = None
qualified first (Some own) = column_as first own.lexeme own.piece own.rest

-- a word, by what stands behind a point behind it
abbrev pub word_then : List ℕ → List ℕ → Option (List ℕ) → Option Part
word_then word rest None = Some (plain word rest (token_of word))
word_then word rest (Some others) = qualified word (cut others)

abbrev pub word_part : List ℕ → List ℕ → Option Part
word_part word rest =
    if same_word word (codes "COLLATE") then collated word rest else word_then word rest (behind (46 ∷ []) rest)

-- what stands at the front of a text, as a part
abbrev pub part_as : Lexeme → List ℕ → List ℕ → Option Part
part_as lexeme.Word piece rest = word_part piece rest
part_as lexeme.Number piece rest = option_map (plain piece rest) (number_token piece)
part_as lexeme.Text piece rest = option_map (plain piece rest) (text_token piece)
part_as (lexeme.Mark mark) piece rest = Some (plain piece rest (k.Mark mark))
part_as _ piece rest = None

abbrev pub part_of : Option Cut → Option Part
part_of None = None
part_of (Some own) = part_as own.lexeme own.piece own.rest

-- the part that a text begins with
abbrev pub next_part : List ℕ → Option Part
next_part text = part_of (cut text)
