use Rattle.std.proofs.Common.{◌≡◌, ◌∙◌, ◌∷◌, [], List, ℕ, IfOk, length, subst}
use Rattle.ssb_schema.specs.declared.column.Column.{Column}
use Rattle.ssb_schema.specs.declared.table.Table.TheVariants as table
use Rattle.dimension_index.specs.Classes.{classes_by, classes_of}
use Rattle.dimension_index.proofs.ClassLaws.{classes_kept}
use Rattle.dimension_index.proofs.index.four_classes.Goals as goal

pub returns : goal.returns
returns c =
    let base = c.args.base.now in
    let other : Column = record { table = table.Customer; place = 0 } in
    let same : classes_by (c.kept.result.now ∷ c.kept-2.result.now ∷ c.kept-3.result.now ∷ c.kept-4.result.now ∷ [])
    (length c.kept.result.now) ≡ classes_of base.dimensions c.args.table =
    (λ i. classes_by (c.kept.ensures i ∷ c.kept-2.ensures i ∷ c.kept-3.ensures i ∷ c.kept-4.ensures i ∷ [])
    (length (c.kept.ensures i)))
    ∙ classes_kept base c.args.table c.args.told other c.requires.few c.requires.told in
    subst (λ (l : List ℕ). IfOk c.classes_by.result (λ v. v.items ≡ l)) same c.classes_by.ensures
