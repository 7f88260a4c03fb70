use Rattle.std.proofs.Common.{◌≡◌, map, take}
use Rattle.serde_json.specs.View.{view}
use Rattle.ssb_formats.specs.JsonText.{value_data}
use Rattle.ssb_formats.proofs.json_text.values_json.Given as goal

abbrev pub invariant-loop-value : goal.invariant-loop-value
invariant-loop-value l = map view l.list.items ≡ map value_data (take l.value-index l.values)
