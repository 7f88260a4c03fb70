use Rattle.std.proofs.Common.{ℕ, ◌≡◌, ◌+◌, ◌<◌, List, [], ◌∷◌, ◌++◌, take, get_or, length, sym, ap, subst, ◌∙◌, arith}
use Rattle.std.proofs.lemmas.List.{take_more, map-append}
use Rattle.ssb_schema.specs.declared.column.Column.{Column}
use Rattle.ssb_schema.specs.declared.table.Table.TheVariants.{Customer}
use Rattle.scan_kernel.specs.declared.columns.GroupColumn.{GroupColumn}
use Rattle.scan_kernel.specs.Sparse.{as_group_column, as_group_columns}
use Rattle.shared_scan.specs.GroupColumns.{AreGroupColumns, IsGroupColumn}
use Rattle.shared_scan.proofs.GroupColumnLaws.{group_columns_more}
use Rattle.shared_scan.proofs.sparse.sparse_columns.Goals as goal

pub loop-place-preserved : goal.loop-place-preserved
loop-place-preserved c =
    let base = c.args.index.now in
    let lines = c.args.lines.now in
    let columns = c.args.columns.now in
    let parts = c.args.parts.now in
    let i = c.loop-place.place in
    let any : Column = record { table = Customer; place = 0 } in
    let column = get_or columns i any in
    let part : List ℕ = c.index-parts-place.result in
    let group = as_group_column c.sparse_column.result in
    let in_parts : i < length parts = omega (arith, c.requires, c.loop-place-test.true) in
    let one : IsGroupColumn base lines column part group = c.sparse_column.ensures in
    let all = group_columns_more base lines (take i columns) (take i parts) (as_group_columns c.loop-place.groups.items)
    column part group c.loop-place.invariant one in
    let parts_is : take i parts ++ part ∷ [] ≡ take (i + 1) parts =
    ap (λ (p : List ℕ). take i parts ++ p ∷ []) c.index-parts-place.is ∙ sym (take_more parts i part in_parts) in
    let columns_is : take i columns ++ column ∷ [] ≡ take (i + 1) columns =
    sym (take_more columns i any c.loop-place-test.true) in
    let P : List (List ℕ) → Type 0 = λ ps. AreGroupColumns base lines (take i columns ++ column ∷ []) ps
    ((as_group_columns c.loop-place.groups.items) ++ group ∷ []) in
    let R : List Column → Type 0 = λ cs. AreGroupColumns base lines cs (take (i + 1) parts)
    ((as_group_columns c.loop-place.groups.items) ++ group ∷ []) in
    let S : List GroupColumn → Type 0 = λ gs. AreGroupColumns base lines (take (i + 1) columns) (take (i + 1) parts) gs
    in
    let groups_is : as_group_columns c.push.new.self.items ≡ (as_group_columns c.loop-place.groups.items)
    ++ group ∷ [] =
    ap as_group_columns c.in_ok-push.ensures.items ∙ map-append as_group_column c.loop-place.groups.items
    (c.sparse_column.result ∷ []) in
    subst S (sym groups_is) (subst R columns_is (subst P parts_is all))
