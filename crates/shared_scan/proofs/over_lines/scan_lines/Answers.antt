use Rattle.std.proofs.Common.{◌≡◌, ℕ, length, List, map, IfOk, sym, subst, arith, ◌∙◌}
use Rattle.std.specs.Prelude.{◌≤◌}
use Rattle.std.specs.List.{range_with_len}
use Rattle.ssb_base.specs.Base.{Tables, IsSound}
use Rattle.dimension_index.specs.Classes.{reduced}
use Rattle.fact_columns.specs.declared.place.Place.{Place}
use Rattle.fact_columns.specs.Places.{live_facts}
use Rattle.scan_kernel.specs.Totals.{AreBatchTotals}
use Rattle.shared_scan.specs.Answers.{Prepared, answers_over}
use Rattle.shared_scan.specs.Batch.{questions_of}
use Rattle.shared_scan.specs.Classed.{classed}
use Rattle.shared_scan.specs.Lines.{AreOfBase, HavePlaces}
use Rattle.shared_scan.proofs.CanScanLaws.{can_search}
use Rattle.shared_scan.proofs.ClassedLaws.{lines_classed, classed_all, as_many_live, answers_classed}
use Rattle.shared_scan.proofs.ScanLaws.{if_ok_then, line_count, parts_all, can_sum_all, can_answer_all, rows_answer}
use Rattle.ssb_base.specs.Limits.{most_lines}
use Rattle.shared_scan.proofs.over_lines.scan_lines.Goals as goal

pub groupings-requires : goal.groupings-requires
groupings-requires g c = rw (c.deref.ensures.value) (parts_all
    (reduced c.batch.inside.columns.now.base) c.batch.inside.masks c.batch.inside.questions.items c.batch.invariant.ready)

pub parallel_totals-requires-clause-covers : goal.parallel_totals-requires-clause-covers
parallel_totals-requires-clause-covers g c = λ κs outlives.
    let base = c.batch.inside.columns.now.base in
    let first : Tables = reduced base in
    let P : Prepared → Type 0 = λ p. HavePlaces p.columns.base c.args.lines in
    let have : HavePlaces base c.args.lines = subst P (sym c.batch.view_is) c.requires in
    let places : List Place = map classed have.places in
    let within = classed_all base have.places have.of_base.within in
    let are = lines_classed have.places c.args.lines have.columns_are in
    can_search first places c.args.lines c.batch.inside.masks within are c.batch.invariant.masks_cover

pub parallel_totals-requires-clause-can_sum : goal.parallel_totals-requires-clause-can_sum
parallel_totals-requires-clause-can_sum g c = λ κs outlives.
    let base = c.batch.inside.columns.now.base in
    let first : Tables = reduced base in
    let P : Prepared → Type 0 = λ p. HavePlaces p.columns.base c.args.lines in
    let have : HavePlaces base c.args.lines = subst P (sym c.batch.view_is) c.requires in
    let places : List Place = map classed have.places in
    let within = classed_all base have.places have.of_base.within in
    let are = lines_classed have.places c.args.lines have.columns_are in
    let sound : IsSound first = rw (c.first_rows-first_rows.ensures, c.index-index.ensures) at c.soundness-2.ensures in
    let grouped = rw (c.deref.ensures.value, c.first_rows-first_rows.ensures, c.index-index.ensures) at
    c.in_ok-groupings.ensures in
    rw (c.deref-2.ensures.value) (can_sum_all first places c.args.lines c.batch.inside.masks
    c.batch.inside.questions.items c.in_ok-groupings.groupings.items
    sound within are c.batch.invariant.masks_tell c.batch.invariant.ready grouped)

pub batch_rows-requires-clause-covers : goal.batch_rows-requires-clause-covers
batch_rows-requires-clause-covers g c =
    let base = c.batch.inside.columns.now.base in
    let first : Tables = reduced base in
    let P : Prepared → Type 0 = λ p. HavePlaces p.columns.base c.args.lines in
    let have : HavePlaces base c.args.lines = subst P (sym c.batch.view_is) c.requires in
    let places : List Place = map classed have.places in
    let within = classed_all base have.places have.of_base.within in
    let are = lines_classed have.places c.args.lines have.columns_are in
    can_search first places c.args.lines c.batch.inside.masks within are c.batch.invariant.masks_cover

pub batch_rows-requires-clause-can : goal.batch_rows-requires-clause-can
batch_rows-requires-clause-can g c =
    let base = c.batch.inside.columns.now.base in
    let first : Tables = reduced base in
    let P : Prepared → Type 0 = λ p. HavePlaces p.columns.base c.args.lines in
    let have : HavePlaces base c.args.lines = subst P (sym c.batch.view_is) c.requires in
    let places : List Place = map classed have.places in
    let within = classed_all base have.places have.of_base.within in
    let are = lines_classed have.places c.args.lines have.columns_are in
    let lines = c.args.lines in
    let masks = c.batch.inside.masks in
    let groupings = c.in_ok-groupings.groupings.items in
    let totals = c.in_ok-totals.totals.items in
    let sound : IsSound first = rw (c.first_rows-first_rows.ensures, c.index-index.ensures) at c.soundness-2.ensures in
    let grouped = rw (c.deref.ensures.value, c.first_rows-first_rows.ensures, c.index-index.ensures) at
    c.in_ok-groupings.ensures in
    let few : length (live_facts first.dimensions places) ≤ most_lines = omega
    (arith, as_many_live base have.places, have.of_base.few_live) in
    let added = rw (c.deref-2.ensures.value) at c.in_ok-totals.ensures in
    let to : length lines.customer.now ≡ length places = omega (arith, line_count places lines are) in
    let R : ℕ → Type 0 = λ n. AreBatchTotals lines masks groupings (range_with_len 0 n) totals in
    rw (c.first_rows-first_rows.ensures, c.index-index.ensures, c.deref-3.ensures.value, c.deref-4.ensures.value)
    (can_answer_all first places lines masks c.batch.inside.questions.items groupings
    sound within are c.batch.invariant.masks_tell c.batch.invariant.ready grouped totals (subst R to added) few)

pub returns : goal.returns
returns g c = λ own_places columns_are of_base.
    let base = c.batch.inside.columns.now.base in
    let first : Tables = reduced base in
    let places : List Place = map classed own_places in
    let lines = c.args.lines in
    let masks = c.batch.inside.masks in
    let all = c.batch.inside.questions.items in
    let groupings = c.in_ok-groupings.groupings.items in
    let totals = c.in_ok-totals.totals.items in
    let are = lines_classed own_places c.args.lines columns_are in
    let sound_all : IsSound base = rw (c.base.ensures, c.index-index.ensures) at c.soundness.ensures in
    let sound : IsSound first = rw (c.first_rows-first_rows.ensures, c.index-index.ensures) at c.soundness-2.ensures in
    let grouped = rw (c.deref.ensures.value, c.first_rows-first_rows.ensures, c.index-index.ensures) at
    c.in_ok-groupings.ensures in
    let added = rw (c.deref-2.ensures.value) at c.in_ok-totals.ensures in
    let to : length lines.customer.now ≡ length places = omega (arith, line_count places lines are) in
    let R : ℕ → Type 0 = λ n. AreBatchTotals lines masks groupings (range_with_len 0 n) totals in
    let right = rw (c.first_rows-first_rows.ensures, c.index-index.ensures, c.deref-3.ensures.value, c.deref-4.ensures.value) at
    c.batch_rows.ensures in
    let P : Prepared → Type 0 = λ p. AreOfBase p.columns.base own_places
    → IfOk c.batch_rows.result (λ rows. rows.items ≡ answers_over p.columns.base.dimensions
    (live_facts p.columns.base.dimensions own_places) p.questions) in
    subst P c.batch.view_is (λ own. if_ok_then c.batch_rows.result _ _ right (λ rows is.
    let few : length (live_facts first.dimensions places) ≤ most_lines = omega
    (arith, as_many_live base own_places, own.few_live) in
    rows_answer first places lines masks all groupings sound
    (classed_all base own_places own.within) are c.batch.invariant.masks_tell c.batch.invariant.ready grouped
    totals (subst R to added) few rows.items is
    ∙ answers_classed base (questions_of all) own_places sound_all sound own.within)) of_base
