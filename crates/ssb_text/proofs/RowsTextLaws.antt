-- The text of rows, as they are written one after another.
use Rattle.std.proofs.Common.{◌≡◌, ℕ, ◌+◌, ◌<◌, List, get_or, length, map, take, Option, sym, subst}
use Rattle.std.specs.Io.KnownBytes.{Appends}
use Rattle.std.proofs.lemmas.List.Folds.{flat_map-map}
use Rattle.ssb_text.specs.Written.{StopsShort}
use Rattle.ssb_text.proofs.WrittenLaws.{appends_item, part_item}
use Rattle.ssb_schema.specs.Columns.{Value}
use Rattle.ssb_text.specs.TableText.{row_text, rows_text}

-- the texts of the first rows, and that of the next
pub appends_row : {X : Type 0} (values : X → List Value) (rows : List X) (i : ℕ) (x : X) (a b c : Option (List ℕ))
    → i < length rows → x ≡ get_or rows i x → Appends a b (rows_text (map values (take i rows)))
    → Appends b c (row_text (values x)) → Appends a c (rows_text (map values (take (i + 1) rows)))
appends_row values rows i x a b c within is before next =
    subst (Appends a c) (sym (flat_map-map row_text values (take (i + 1) rows)))
    (appends_item (λ row. row_text (values row)) rows i x x a b c within is
    (subst (Appends a b) (flat_map-map row_text values (take i rows)) before) next)

-- a part of the next row's text is one of all texts
pub part_row : {X : Type 0} (values : X → List Value) (rows : List X) (i : ℕ) (x : X) (a b c : Option (List ℕ))
    → i < length rows → x ≡ get_or rows i x → Appends a b (rows_text (map values (take i rows)))
    → StopsShort b c (row_text (values x)) → StopsShort a c (rows_text (map values rows))
part_row values rows i x a b c within is before part =
    subst (StopsShort a c) (sym (flat_map-map row_text values rows))
    (part_item (λ row. row_text (values row)) rows i x x a b c within is
    (subst (Appends a b) (flat_map-map row_text values (take i rows)) before) part)
