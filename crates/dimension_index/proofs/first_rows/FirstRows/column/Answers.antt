use Rattle.std.proofs.Common.{arith, ap, ◌∙◌, List, length, get_or, map}
use Rattle.std.proofs.lemmas.Option.{slice_get_within, get_or_from_slice_get}
use Rattle.ssb_base.specs.Base.{Tables}
use Rattle.ssb_questions.specs.declared.value.Value.{Value}
use Rattle.dimension_index.specs.Classes.{first_rows}
use Rattle.dimension_index.specs.Values.{values_of}
use Rattle.dimension_index.specs.Kept.{kept_columns}
use Rattle.dimension_index.proofs.first_rows.FirstRows.column.Goals as goal

pub index-requires : goal.index-requires
index-requires c =
    let base = (first_rows c.self.inside.base.value c.self.inside.extents) in
    let within = slice_get_within (map (values_of base) kept_columns) c.kept_at.result (values_of base c.args.column)
    (c.kept_at.ensures base) in
    omega (arith, within, ap length c.self.invariant)

pub returns : goal.returns
returns c =
    let base = (first_rows c.self.inside.base.value c.self.inside.extents) in
    let found = c.index.result.now in
    c.index.ensures
    ∙ ap (λ (columns : List (List Value)). get_or columns c.kept_at.result found) c.self.invariant
    ∙ get_or_from_slice_get (map (values_of base) kept_columns) c.kept_at.result (values_of base c.args.column) found
    (c.kept_at.ensures base)
    ∙ ap (λ (base : Tables). values_of base c.args.column) c.self.view_is
