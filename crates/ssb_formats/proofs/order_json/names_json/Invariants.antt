use Rattle.std.proofs.Common.{◌≡◌, map, take}
use Rattle.serde_json.specs.View.{view}
use Rattle.ssb_formats.specs.JsonText.{text_data}
use Rattle.ssb_formats.proofs.order_json.names_json.Given as goal

abbrev pub invariant-loop-name : goal.invariant-loop-name
invariant-loop-name l =
    map view l.list.items ≡ map text_data (map (λ name. name.now) (take l.name-index l.names))
