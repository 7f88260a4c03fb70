use Rattle.std.proofs.Common.{ℕ, ◌≡◌, ◌<◌, ◌^◌, List, length, map, sym, ap, ◌∙◌, refl, subst}
use Rattle.std.specs.Prelude.{ℤ, unwrap_or}
use Rattle.std.specs.List.{All, range_with_len}
use Rattle.std.specs.Cmp.{nat_eq_equiv}
use Rattle.std.proofs.lemmas.Result.{IfOk-weaker}
use Rattle.indexmap.specs.IndexMap.{keys, values}
use Rattle.ssb_questions.specs.Plan.{OrdersAllGroups}
use Rattle.ssb_questions.proofs.OrderLaws.{orders_all_groups}
use Rattle.ssb_questions.specs.declared.value.Value.{Value}
use Rattle.scan_kernel.specs.declared.sparse.GroupSums.{GroupSums}
use Rattle.scan_kernel.specs.Places.{CanNumber}
use Rattle.scan_kernel.specs.Totals.{taken}
use Rattle.scan_kernel.specs.Sparse.{as_group_columns, nothing, sums_in, AreSparseTotals}
use Rattle.scan_kernel.specs.Groups.{size_of, counts_of}
use Rattle.scan_kernel.specs.SparseRows.{count_of, sum_of}
use Rattle.scan_kernel.proofs.ScanLaws.{answers_lines}
use Rattle.shared_scan.specs.GroupColumns.{AreGroupColumns}
use Rattle.shared_scan.specs.Scanned.{net}
use Rattle.shared_scan.specs.Summed.{AreSummed}
use Rattle.shared_scan.proofs.GroupLaws.{dimensions_alone}
use Rattle.shared_scan.proofs.ReadyLaws.{is_grouping, can_group}
use Rattle.shared_scan.proofs.ScanLaws.{line_count, prepared_lengths}
use Rattle.shared_scan.proofs.SparseLaws.{beside_is, all_unmapped, keys_below, summed_sparse}
use Rattle.shared_scan.proofs.TotalLaws.{gains_small, losses_small}
use Rattle.shared_scan.proofs.sparse.sparse_rows.Goals as goal

pub sparse_columns-requires : goal.sparse_columns-requires
sparse_columns-requires c =
    let ready = c.args.ready.now in
    let prepared = c.requires.scanned.is_ready.prepared in
    ap length (sym c.requires.parts)
    ∙ (prepared_lengths c.args.scan.index.now c.args.scan.masks.now c.args.number ready.plan.groups
    ready.groups.columns.items 1 _ prepared).1 ∙ sym (ap length c.as_slice-groups.ensures)

pub sparse_totals-requires-clause-columns : goal.sparse_totals-requires-clause-columns
sparse_totals-requires-clause-columns c =
    let ready = c.args.ready.now in
    let of = c.requires.scanned in
    let groups = as_group_columns c.in_ok-columns.columns.items in
    let P : List (List ℕ) → Type 0 = λ ps. AreGroupColumns c.args.scan.index.now c.args.scan.lines ready.plan.groups ps
    groups in
    let made : P c.args.parts.now = rw c.as_slice-groups.ensures at c.in_ok-columns.ensures in
    let can = can_group c.args.scan.index.now c.args.scan.masks.now c.args.number of.places c.args.scan.lines of.plans
    ready.question ready groups of.sound of.within of.are of.at_k of.tell of.is_ready
    (subst P (sym c.requires.parts) made) in
    rw c.deref.ensures.value (all_unmapped (CanNumber (length c.args.scan.lines.customer.now))
    c.in_ok-columns.columns.items can.0)

pub sparse_totals-requires-clause-groups : goal.sparse_totals-requires-clause-groups
sparse_totals-requires-clause-groups c =
    let ready = c.args.ready.now in
    let of = c.requires.scanned in
    let groups = as_group_columns c.in_ok-columns.columns.items in
    let P : List (List ℕ) → Type 0 = λ ps. AreGroupColumns c.args.scan.index.now c.args.scan.lines ready.plan.groups ps
    groups in
    let made : P c.args.parts.now = rw c.as_slice-groups.ensures at c.in_ok-columns.ensures in
    let can = can_group c.args.scan.index.now c.args.scan.masks.now c.args.number of.places c.args.scan.lines of.plans
    ready.question ready groups of.sound of.within of.are of.at_k of.tell of.is_ready
    (subst P (sym c.requires.parts) made) in
    rw c.deref.ensures.value can.1

pub list_groups-requires : goal.list_groups-requires
list_groups-requires c = λ g sums at.
    let base = c.args.scan.index.now in
    let lines = c.args.scan.lines in
    let masks = c.args.scan.masks.now in
    let k = c.args.number in
    let ready = c.args.ready.now in
    let of = c.requires.scanned in
    let totals = c.in_ok-totals.totals in
    let groups = as_group_columns c.in_ok-columns.columns.items in
    let P : List (List ℕ) → Type 0 = λ ps. AreGroupColumns base lines ready.plan.groups ps groups in
    let made : P c.args.parts.now = rw c.as_slice-groups.ensures at c.in_ok-columns.ensures in
    let grouped = is_grouping base masks k lines ready.question ready groups of.is_ready
    (subst P (sym c.requires.parts) made) in
    let are : AreSparseTotals lines ready.plan.measure groups
    (taken lines masks k (range_with_len 0 (length lines.customer.now))) ready.groups.size totals =
    rw c.deref.ensures.value at c.in_ok-totals.ensures in
    let count : ℕ → ℕ = λ h. (sums_in totals h).count in
    let gain : ℕ → ℕ = λ h. (sums_in totals h).gain in
    let loss : ℕ → ℕ = λ h. (sums_in totals h).loss in
    let R : ℕ → Type 0 = λ n. AreSummed lines masks k ready.plan.measure groups ready.groups.size (range_with_len 0 n)
    count gain loss in
    let summed : R (length of.places) = subst R (line_count of.places lines of.are)
    (summed_sparse totals ready.groups.size lines masks k ready.plan.measure groups
    (range_with_len 0 (length lines.customer.now)) are) in
    let dims = dimensions_alone ready.question.0 ready.question.1 in
    let is : sums_in totals g ≡ sums = ap (λ o. unwrap_or o nothing) at in
    let more = gains_small base ready.question of.plans k of.places lines masks ready.groups.columns.items
    ready.plan.measure groups ready.groups.size of.sound of.within of.are of.at_k of.tell grouped dims count gain
    loss of.few_live summed g in
    let less = losses_small base ready.question of.plans k of.places lines masks ready.groups.columns.items
    ready.plan.measure groups ready.groups.size of.sound of.within of.are of.at_k of.tell grouped dims count gain
    loss of.few_live summed g in
    (subst (λ (s : GroupSums). s.gain < 2 ^ 63) is more, subst (λ (s : GroupSums). s.loss < 2 ^ 63) is less)

pub answer_sparse-requires-clause-columns : goal.answer_sparse-requires-clause-columns
answer_sparse-requires-clause-columns c =
    let ready = c.args.ready.now in
    let is = c.requires.scanned.is_ready in
    ap length c.deref-2.ensures.value ∙ (prepared_lengths c.args.scan.index.now c.args.scan.masks.now c.args.number
    ready.plan.groups ready.groups.columns.items 1 _ is.prepared).0

pub answer_sparse-requires-clause-ordered : goal.answer_sparse-requires-clause-ordered
answer_sparse-requires-clause-ordered c =
    let ready = c.args.ready.now in
    subst OrdersAllGroups (sym c.requires.scanned.is_ready.plan_is)
    (orders_all_groups ready.question.0 ready.question.1)

pub answer_sparse-requires-clause-below : goal.answer_sparse-requires-clause-below
answer_sparse-requires-clause-below c =
    let ready = c.args.ready.now in
    let totals = c.in_ok-totals.totals in
    let all : All (λ n. n < ready.groups.size) (keys totals) =
    keys_below totals ready.groups.size nat_eq_equiv c.in_ok-totals.ensures.unique c.in_ok-totals.ensures.below in
    let S : ℕ → Type 0 = λ size. All (λ n. n < size) (keys totals) in
    let own : S (size_of (counts_of ready.groups.columns.items)) = subst S c.requires.scanned.is_ready.size_is all in
    rw (c.deref-3.ensures.value, c.deref-2.ensures.value, c.in_ok-list.ensures.numbers) own

pub returns : goal.returns
returns c =
    let base = c.args.scan.index.now in
    let lines = c.args.scan.lines in
    let masks = c.args.scan.masks.now in
    let k = c.args.number in
    let ready = c.args.ready.now in
    let of = c.requires.scanned in
    let totals = c.in_ok-totals.totals in
    let columns : List (List Value) = ready.groups.columns.items in
    let groups = as_group_columns c.in_ok-columns.columns.items in
    let P : List (List ℕ) → Type 0 = λ ps. AreGroupColumns base lines ready.plan.groups ps groups in
    let made : P c.args.parts.now = rw c.as_slice-groups.ensures at c.in_ok-columns.ensures in
    let grouped = is_grouping base masks k lines ready.question ready groups of.is_ready
    (subst P (sym c.requires.parts) made) in
    let are : AreSparseTotals lines ready.plan.measure groups
    (taken lines masks k (range_with_len 0 (length lines.customer.now))) ready.groups.size totals =
    rw c.deref.ensures.value at c.in_ok-totals.ensures in
    let summed = summed_sparse totals ready.groups.size lines masks k ready.plan.measure groups
    (range_with_len 0 (length lines.customer.now)) are in
    let right = rw (
      c.deref-2.ensures.value,
      c.deref-3.ensures.value,
      c.deref-4.ensures.value,
      c.deref-5.ensures.value,
      c.in_ok-list.ensures.numbers,
      c.in_ok-list.ensures.counts,
      c.in_ok-list.ensures.sums,
    ) at
    c.answer_sparse.ensures in
    let count : ℕ → ℕ = count_of (keys totals) (map (λ (s : GroupSums). s.count) (values totals)) in
    let sum : ℕ → ℤ = sum_of (keys totals) (map net (values totals)) in
    IfOk-weaker c.answer_sparse.result _ _ (λ rows own. record {
      groups = groups;
      count = λ g. (sums_in totals g).count;
      gain = λ g. (sums_in totals g).gain;
      loss = λ g. (sums_in totals g).loss;
      grouped = grouped;
      summed = summed;
      right = λ blank base lines sound known apart lists counts sums. answers_lines ready.question ready.plan columns
          (size_of (counts_of columns)) count sum rows.items of.is_ready.plan_is refl own blank base lines sound known
          apart lists (λ g below. beside_is (λ (s : GroupSums). s.count) totals.entries g ∙ counts g below)
          (λ g below. beside_is net totals.entries g ∙ sums g below);
    }) right
