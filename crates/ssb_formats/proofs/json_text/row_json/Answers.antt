use Rattle.std.proofs.Common.{◌∙◌, map, ap}
use Rattle.serde_json.specs.View.{view}
use Rattle.ssb_formats.proofs.CellLaws.{map_in_place}
use Rattle.ssb_formats.specs.Cells.{in_place}
use Rattle.ssb_formats.specs.JsonText.{list_data, sum_data, value_data}
use Rattle.ssb_formats.proofs.json_text.row_json.Goals as goal

pub returns : goal.returns
returns c =
    let query = c.args.query in
    let values = c.in_ok-values.values.items in
    c.from-json.ensures
    ∙ ap list_data (ap (map view) c.in_ok-list.ensures ∙ map_in_place view query c.sum_json-sum.result values
    ∙ ap (λ sum. in_place query sum (map view values)) c.sum_json-sum.ensures
    ∙ ap (in_place query (sum_data c.args.row.now.sum))
    (c.in_ok-values.ensures ∙ ap (map value_data) c.as_slice-groups.ensures))
