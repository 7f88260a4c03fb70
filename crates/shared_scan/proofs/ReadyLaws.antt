-- The grouping of a question that is made ready is its plan's, and can be summed.
use Rattle.std.proofs.Common.{ℕ, ◌≡◌, ◌*◌, ◌<◌, List, [], ◌∷◌, length, Some, true, sym, ap, ◌∙◌, subst, arith}
use Rattle.std.specs.Prelude.{slice_get}
use Rattle.std.specs.List.{All, AllByRecursion}
use Rattle.ssb_base.specs.Base.{Tables, IsSound}
use Rattle.ssb_schema.specs.declared.column.Column.{Column}
use Rattle.ssb_schema.specs.declared.table.Table.TheVariants.{Lineorder}
use Rattle.ssb_questions.specs.declared.plan.Plan.{Plan}
use Rattle.ssb_questions.specs.declared.query.Query.{Query}
use Rattle.ssb_questions.specs.declared.value.Value.{Value}
use Rattle.ssb_questions.specs.Queries.{plan_over}
use Rattle.fact_columns.specs.declared.place.Place.{Place}
use Rattle.fact_columns.specs.Places.{IsWithin}
use Rattle.scan_kernel.specs.declared.columns.LineColumns.{LineColumns}
use Rattle.scan_kernel.specs.declared.columns.GroupColumn.{GroupColumn}
use Rattle.scan_kernel.specs.declared.masks.Masks.{Masks}
use Rattle.scan_kernel.specs.Places.{CanNumber, has_bit, group_at}
use Rattle.scan_kernel.specs.Groups.{AreApart}
use Rattle.scan_kernel.proofs.GroupLaws.{codes_number_groups}
use Rattle.std.proofs.lemmas.List.{length-map}
use Rattle.shared_scan.specs.Prepared.{AreMasksOf, IsGroupingBy}
use Rattle.shared_scan.specs.Parts.{parts_in}
use Rattle.shared_scan.specs.declared.parts.Parts.{Parts}
use Rattle.shared_scan.specs.Laws.{AreLinesOf}
use Rattle.shared_scan.specs.Grouped.{ArePrepared}
use Rattle.shared_scan.specs.GroupColumns.{AreGroupColumns}
use Rattle.shared_scan.specs.Batch.{IsReady}
use Rattle.shared_scan.specs.declared.ready.Ready.{Ready}
use Rattle.shared_scan.proofs.GroupLaws.{dimensions_alone}
use Rattle.shared_scan.proofs.GroupColumnLaws.{parts_of_prepared}
use Rattle.shared_scan.proofs.CanSumLaws.{can_number_all}
use Rattle.shared_scan.proofs.TotalLaws.{group_is}

all_apart : (base : Tables) (masks : Masks) (k : ℕ) (columns : List Column) (values : List (List Value)) (step : ℕ)
    (parts : List (List ℕ)) → ArePrepared base masks k columns values step parts → AllByRecursion AreApart values
all_apart base masks k [] [] step [] h = grind arith
all_apart base masks k [] [] step (p ∷ parts) h = grind arith
all_apart base masks k [] (v ∷ values) step parts h = grind arith
all_apart base masks k (c ∷ columns) [] step parts h = grind arith
all_apart base masks k (c ∷ columns) (v ∷ values) step [] h = grind arith
all_apart base masks k (c ∷ columns) (v ∷ values) step (p ∷ parts) h = grind (arith, all_apart base masks k columns values (step * length v) parts h.1)

pub is_grouping : (base : Tables) (masks : Masks) (k : ℕ) (lines : LineColumns) (question : Query × List Value)
    (ready : Ready) (groups : List GroupColumn)
    → IsReady base masks k question ready → AreGroupColumns base lines ready.plan.groups (parts_in ready.groups.parts)
    groups
    → IsGroupingBy base masks k lines (plan_over question.0 question.1) ready.groups.columns.items ready.plan.measure
    groups ready.groups.size
is_grouping base masks k lines question ready groups is columns = grind (arith, parts_of_prepared, all_apart)

-- the columns of a question with few groups, from what they add
pub dense_columns : (base : Tables) (lines : LineColumns) (ready : Ready) (parts : Parts) (list : List (List ℕ))
    (groups : List GroupColumn) → ready.groups.parts ≡ parts → parts_in parts ≡ list
    → AreGroupColumns base lines ready.plan.groups list groups
    → AreGroupColumns base lines ready.plan.groups (parts_in ready.groups.parts) groups
dense_columns base lines ready parts list groups e same columns = grind arith

-- the groups of a question can be numbered, and each has a number below their count
pub can_group : (base : Tables) (masks : Masks) (k : ℕ) (places : List Place) (lines : LineColumns) (plans : List Plan)
    (question : Query × List Value) (ready : Ready) (groups : List GroupColumn)
    → IsSound base → All (IsWithin base.dimensions) places → AreLinesOf places lines
    → slice_get plans k ≡ Some (plan_over question.0 question.1) → AreMasksOf plans base.dimensions masks
    → IsReady base masks k question ready → AreGroupColumns base lines ready.plan.groups (parts_in ready.groups.parts)
    groups
    → All (CanNumber (length lines.customer.now)) groups
    × ((i : ℕ) → i < length lines.customer.now → has_bit lines masks k i ≡ true
    → group_at groups i < ready.groups.size)
can_group base masks k places lines plans question ready groups sound within are at_k tell is columns =
    let grouped = is_grouping base masks k lines question ready groups is columns in
    let dims = dimensions_alone question.0 question.1 in
    let D : Plan → Type 0 = λ plan. AllByRecursion (λ column. column.table ≡ Lineorder → ⊥) plan.groups in (
      can_number_all base places lines within are masks k ready.plan.groups ready.groups.columns.items 1
          (parts_in ready.groups.parts) groups (subst D (sym is.plan_is) dims) is.prepared columns,
      λ i below bit.
          let inside : i < length places = omega (
            arith,
            below,
            ap length are.customers_are,
            length-map places (λ place. place.customer),
          ) in
          let group = group_is base question plans k places lines masks ready.groups.columns.items ready.plan.measure
          groups ready.groups.size sound within are at_k tell grouped dims i inside bit in
          let number = codes_number_groups (plan_over question.0 question.1) ready.groups.columns.items _ group.0 in
          omega (arith, group.1, number.0, grouped.size_is),
    )
