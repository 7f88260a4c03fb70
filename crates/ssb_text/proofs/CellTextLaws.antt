use Rattle.std.proofs.Common.{arith}
-- The text of a row, as its cells are written one after another.
use Rattle.std.proofs.Common.{◌≡◌, List, [], ◌∷◌, ◌++◌, map, ap, ◌∙◌, append_assoc, append-nil}
use Rattle.std.specs.List.{flat_map}
use Rattle.ssb_schema.specs.Columns.{value_of}
use Rattle.ssb_schema.specs.declared.kind.Cell.{Cell}
use Rattle.ssb_text.specs.Numbers.{line_feed}
use Rattle.ssb_text.specs.Piece.{after_bar}
use Rattle.ssb_text.specs.TableText.{cell_text, column_text, fields_text, row_text}
use Rattle.ssb_text.proofs.RowTextLaws.{joined}

after-bars : (others : List Cell)
    → fields_text (map column_text (map value_of others)) ≡ flat_map (after_bar cell_text) others ++ line_feed
after-bars [] = grind arith
after-bars (cell ∷ others) = grind (arith, append_assoc, after-bars others)

pub row_in_parts : (first : Cell) (others : List Cell)
    → row_text (map value_of (first ∷ others))
    ≡ (cell_text first ++ []) ++ (flat_map (after_bar cell_text) others ++ line_feed)
row_in_parts first others = grind (arith, joined, after-bars, append-nil)
