-- The report of an order.
use Rattle.std.specs.Prelude.{ℕ, List, [], ◌∷◌, ◌++◌, codes, decimal, length, map}
use Rattle.std.specs.List.{concat}
use Rattle.ssb_schema.specs.Rows.{line_values}
use Rattle.ssb_schema.specs.declared.line.LineFields.{LineFields}
use Rattle.ssb_text.specs.Numbers.{line_feed}
use Rattle.ssb_text.specs.TableText.{rows_text}
use Rattle.ssb_report.specs.declared.order.ShownOrder.{ShownOrder}
use Rattle.ssb_report.specs.declared.order.ShownOrder.TheVariants.{Lines, Unserved}

-- the line before the lines: the key, after how many commits, and how many lines
abbrev pub order_head : ℕ → ℕ → ℕ → List ℕ
order_head key at count = concat (codes "order " ∷ decimal key ∷ codes " at " ∷ decimal at ∷ codes " lines "
    ∷ decimal count ∷ line_feed ∷ [])

-- that line, and each line as its table has it
abbrev pub lines_text : ℕ → ℕ → List LineFields → List ℕ
lines_text key at lines = order_head key at (length lines) ++ rows_text (map line_values lines)

-- the report of an order
abbrev pub order_text : ShownOrder → List ℕ
order_text (Lines key at lines) = lines_text key at lines
order_text (Unserved key) =
    concat (codes "order " ∷ decimal key ∷ codes " unserved: out of memory" ∷ line_feed ∷ [])
