use Rattle.std.proofs.Common.{arith}
-- What was written of lines so far, and how it grows.
use Rattle.std.proofs.Common.{◌≡◌, ℕ, List, [], ◌∷◌, ◌++◌, map, Option, Result, Ok, Err, refl, sym, ap, ◌∙◌, subst}
use Rattle.std.proofs.Common.{append-nil, IsErrAnd}
use Rattle.std.specs.Io.KnownBytes.{Appends}
use Rattle.std.specs.List.{AllByRecursion}
use Rattle.std.proofs.lemmas.List.Concat.{flat_map-append}
use Rattle.ssb_text.specs.Written.{StopsShort}
use Rattle.ssb_text.proofs.WrittenLaws.{appends_both, appends_part, part_longer}
use Rattle.ssb_schema.specs.Rows.{line_values}
use Rattle.ssb_schema.specs.declared.line.LineFields.{LineFields}
use Rattle.ssb_schema.specs.declared.table.Table.TheVariants as table
use Rattle.ssb_text.specs.RoundTrip.{IsTableRow}
use Rattle.ssb_text.specs.TableText.{row_text, rows_text}
use Rattle.export_command.specs.Standing.{WritesLines}
use Rattle.export_command.proofs.ApartLaws.{all_append}

abbrev pub lines_text : List LineFields → List ℕ
lines_text lines = rows_text (map line_values lines)

abbrev pub AreLineRows : List LineFields → Type 0
AreLineRows lines = AllByRecursion (IsTableRow table.Lineorder) (map line_values lines)

-- known bytes have grown by the text of these lines, each of which is a row of lineorder
pub record HasWritten (old now : Option (List ℕ)) (lines : List LineFields) : Type 0 where
  pub text : Appends old now (lines_text lines)
  pub rows : AreLineRows lines

pub map-both : (one other : List LineFields) → map line_values (one ++ other) ≡ map line_values one
    ++ map line_values other
map-both [] other = refl
map-both (line ∷ one) other = ap (λ values. line_values line ∷ values) (map-both one other)

pub text_both : (one other : List LineFields) → lines_text (one ++ other) ≡ lines_text one ++ lines_text other
text_both one other = ap rows_text (map-both one other) ∙ flat_map-append row_text (map line_values one)
    (map line_values other)

pub rows_both : (one other : List LineFields) → AreLineRows one → AreLineRows other → AreLineRows (one ++ other)
rows_both one other a b =
    subst (AllByRecursion (IsTableRow table.Lineorder)) (sym (map-both one other))
    (all_append (IsTableRow table.Lineorder) (map line_values one) (map line_values other) a b)

pub written_both : (old mid new : Option (List ℕ)) (one other : List LineFields) → HasWritten old mid one
    → HasWritten mid new other → HasWritten old new (one ++ other)
written_both old mid new one other a b = grind (arith, text_both, appends_both, rows_both)

-- a line was written
pub line_written : (old new : Option (List ℕ)) (line : LineFields) → Appends old new (row_text (line_values line))
    → IsTableRow table.Lineorder (line_values line) → HasWritten old new (line ∷ [])
line_written old new line text row = grind (arith, append-nil)

-- a part of the first lines is one of all
pub stopped_before : (old new : Option (List ℕ)) (one other : List LineFields) → StopsShort old new (lines_text one)
    → StopsShort old new (lines_text (one ++ other))
stopped_before old new one other part =
    subst (StopsShort old new) (sym (text_both one other)) (part_longer old new (lines_text one) (lines_text other) part)

-- lines, and then a part of others
pub stopped_behind : (old mid new : Option (List ℕ)) (one other : List LineFields) → HasWritten old mid one
    → StopsShort mid new (lines_text other) → StopsShort old new (lines_text (one ++ other))
stopped_behind old mid new one other a part =
    subst (StopsShort old new) (sym (text_both one other))
    (appends_part old mid new (lines_text one) (lines_text other) a.text part)

pub all_written : {X E : Type 0} (old new : Option (List ℕ)) (v : X) (lines : List LineFields)
    → WritesLines {X = X} {E = E} old new (Ok v) lines → HasWritten old new lines
all_written old new v lines written = record { text = written.text; rows = written.rows }

pub writes_all : {X E : Type 0} (old new : Option (List ℕ)) (v : X) (lines : List LineFields)
    → HasWritten old new lines → WritesLines {X = X} {E = E} old new (Ok v) lines
writes_all old new v lines written = record { text = written.text; rows = written.rows }

-- what stopped with an error has written a part
pub writes_part : {X E : Type 0} (Q : E → Type 0) (r : Result X E) (old new : Option (List ℕ))
    (lines : List LineFields) → IsErrAnd r Q → StopsShort old new (lines_text lines) → WritesLines old new r lines
writes_part Q (Ok v) old new lines failed part = absurd failed
writes_part Q (Err e) old new lines failed part = record { text = part; rows = tt }

-- lines, and then what writes others
pub writes_behind : {X E : Type 0} (old mid new : Option (List ℕ)) (r : Result X E) (one other : List LineFields)
    → HasWritten old mid one → WritesLines mid new r other → WritesLines old new r (one ++ other)
writes_behind old mid new (Ok v) one other a written =
    writes_all old new v (one ++ other)
    (written_both old mid new one other a (all_written mid new v other written))
writes_behind old mid new (Err e) one other a written = record {
  text = stopped_behind old mid new one other a written.text;
  rows = tt;
}
