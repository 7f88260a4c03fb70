use Rattle.std.proofs.Common.{◌≡◌, ◌∙◌, List, ℕ, IfOk, length, map, ap, subst}
use Rattle.std.specs.List.{range_with_len}
use Rattle.ssb_schema.specs.declared.table.Table.TheVariants as table
use Rattle.dimension_index.specs.Classes.{classes_of}
use Rattle.dimension_index.proofs.ClassLaws.{dates_apart}
use Rattle.dimension_index.proofs.index.date_classes.Goals as goal

pub returns : goal.returns
returns c =
    let dimensions = c.args.base.now.dimensions in
    let count : length c.rows.result.now ≡ length dimensions.dates = ap length (c.rows.ensures ∙ c.dates.ensures) in
    let same : map (λ (p : ℕ). p) (range_with_len 0 (length c.rows.result.now)) ≡ classes_of dimensions table.Date =
    ap (λ (n : ℕ). map (λ (p : ℕ). p) (range_with_len 0 n)) count
    ∙ dates_apart dimensions c.soundness.ensures.dates.distinct in
    subst (λ (l : List ℕ). IfOk c.numbered.result (λ v. v.items ≡ l)) same c.numbered.ensures
