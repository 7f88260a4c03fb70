use Rattle.std.proofs.Common.{◌≡◌, map, take}
use Rattle.serde_json.specs.View.{view}
use Rattle.ssb_formats.specs.OrderJson.{line_data}
use Rattle.ssb_formats.proofs.order_json.lines_json.Given as goal

abbrev pub invariant-loop-line : goal.invariant-loop-line
invariant-loop-line l = map view l.list.items ≡ map line_data (take l.line-index l.lines)
