use Rattle.std.proofs.Common.{◌≡◌, map, take}
use Rattle.serde_json.specs.View.{view}
use Rattle.ssb_formats.specs.JsonText.{text_data}
use Rattle.ssb_formats.proofs.json_text.texts_json.Given as goal

abbrev pub invariant-loop-text : goal.invariant-loop-text
invariant-loop-text l = map view l.list.items ≡ map text_data (take l.text-index l.texts)
