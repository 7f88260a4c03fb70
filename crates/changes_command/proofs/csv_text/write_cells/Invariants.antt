use Rattle.std.proofs.Common.{take, flat_map}
use Rattle.std.specs.Io.KnownBytes.{Appends}
use Rattle.ssb_text.specs.TableText.{cell_text}
use Rattle.changes_command.specs.CsvText.{after_comma}
use Rattle.changes_command.proofs.csv_text.write_cells.Given as goal

-- the cells so far
abbrev pub invariant-loop-cell : goal.invariant-loop-cell
invariant-loop-cell g l =
    Appends (g.W.Write.contents l.fn.out) (g.W.Write.contents l.out)
    (flat_map (λ cell. after_comma (cell_text cell)) (take l.cell-index l.cells))
