use Rattle.std.proofs.Common.{arith, ap, ◌<◌, ◌∙◌, List, length, get_or, map}
use Rattle.std.proofs.lemmas.Option.{slice_get_within, get_or_from_slice_get}
use Rattle.ssb_questions.specs.declared.value.Value.{Value}
use Rattle.dimension_index.specs.Values.{values_of}
use Rattle.dimension_index.specs.Kept.{kept_columns}
use Rattle.dimension_index.proofs.index.kept.Goals as goal

pub bounds-columns-kept_at : goal.bounds-columns-kept_at
bounds-columns-kept_at c =
    let base = c.args.base.now in
    let within = slice_get_within (map (values_of base) kept_columns) c.kept_at.result (values_of base c.args.column)
    (c.kept_at.ensures base) in
    omega (arith, within, ap length c.requires)

pub offset_bounds-columns-kept_at : goal.offset_bounds-columns-kept_at
offset_bounds-columns-kept_at c =
    let base = c.args.base.now in
    let within = slice_get_within (map (values_of base) kept_columns) c.kept_at.result (values_of base c.args.column)
    (c.kept_at.ensures base) in
    let below : c.kept_at.result < 24 = within in
    omega (arith, below)

pub returns : goal.returns
returns c =
    let base = c.args.base.now in
    let found = c.index-columns-kept_at.result in
    c.index-columns-kept_at.is
    ∙ ap (λ (columns : List (List Value)). get_or columns c.kept_at.result found) c.requires
    ∙ get_or_from_slice_get (map (values_of base) kept_columns) c.kept_at.result (values_of base c.args.column) found
    (c.kept_at.ensures base)
