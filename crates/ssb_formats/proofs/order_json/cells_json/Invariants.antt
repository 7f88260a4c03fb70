use Rattle.std.proofs.Common.{◌≡◌, map, take}
use Rattle.serde_json.specs.View.{view}
use Rattle.ssb_schema.specs.Columns.{value_of}
use Rattle.ssb_formats.specs.OrderJson.{cell_data}
use Rattle.ssb_formats.proofs.order_json.cells_json.Given as goal

abbrev pub invariant-loop-cell : goal.invariant-loop-cell
invariant-loop-cell l = map view l.list.items ≡ map cell_data (map value_of (take l.cell-index l.cells))
