use Rattle.std.proofs.Common.{◌≡◌, ℕ, ◌-◌, ◌<◌, ◌≤◌, List, length, get_or, arith, ap, subst, sym, ◌∙◌}
use Rattle.std.specs.List.{range_with_len}
use Rattle.std.specs.Prelude.{vec_len}
use Rattle.std.proofs.lemmas.List.{get_or-set_other, length-set}
use Rattle.scan_kernel.specs.declared.columns.Grouping.{Grouping}
use Rattle.scan_kernel.specs.declared.columns.LineColumns.{LineColumns}
use Rattle.scan_kernel.specs.declared.masks.Masks.{Masks}
use Rattle.scan_kernel.specs.declared.totals.Totals.{Totals}
use Rattle.scan_kernel.specs.Totals.{AddsPlaces, CanSum, CanSumAll, HaveSizes, taken}
use Rattle.scan_kernel.proofs.BatchLaws.{sizes_kept}
use Rattle.scan_kernel.proofs.QuestionLaws.{own_few, own_groups, own_lines, own_places}
use Rattle.scan_kernel.proofs.WrittenLaws.{written_more}
use Rattle.scan_kernel.proofs.batch.add_found.Goals as goal

-- what question number n of the loop was dealt, and what it may do with it
can_sum_here : (lines : LineColumns) (masks : Masks) (groupings : List Grouping) (n : ℕ) (grouping : Grouping)
    → CanSumAll lines masks groupings → n < length groupings → grouping ≡ get_or groupings n grouping
    → CanSum lines masks n grouping
can_sum_here lines masks groupings n grouping can below is =
    subst (λ (q : Grouping). CanSum lines masks n q) (sym is) (can n grouping below)

sized_here : (groupings : List Grouping) (old mid : List Totals) (n : ℕ) (grouping : Grouping) (mine : Totals)
    → HaveSizes groupings old → n < length groupings → grouping ≡ get_or groupings n grouping
    → get_or mid n mine ≡ get_or old n mine → vec_len (get_or mid n mine).counts ≡ grouping.size
sized_here groupings old mid n grouping mine have below is kept =
    ap (λ (t : Totals). vec_len t.counts) kept ∙ have.sizes n grouping mine below ∙ ap (λ (q : Grouping). q.size) (sym is)

pub add_places-requires-clause-room : goal.add_places-requires-clause-room
add_places-requires-clause-room c =
    let n = c.loop-number.number in
    let few : n < 16 = omega arith in
    omega (
      arith,
      own_few c.args.lines.now c.args.masks.now c.args.found n c.loop-number.dealt.lists.items c.index-list.result.now
          c.as_slice-places.result.now few c.requires.found c.loop-number.invariant.dealt c.index-list.ensures
          c.as_slice-places.ensures.value,
      c.requires.room.groups,
      c.loop-number.invariant.groups,
      c.deref_mut-in-loop-number.ensures.len,
    )

pub add_places-requires-clause-places : goal.add_places-requires-clause-places
add_places-requires-clause-places c =
    let n = c.loop-number.number in
    let few : n < 16 = omega arith in
    own_lines c.args.lines.now c.args.masks.now c.args.found n c.loop-number.dealt.lists.items c.index-list.result.now
    c.as_slice-places.result.now few c.requires.found c.loop-number.invariant.dealt c.index-list.ensures
    c.as_slice-places.ensures.value

pub add_places-requires-clause-groups : goal.add_places-requires-clause-groups
add_places-requires-clause-groups c =
    let n = c.loop-number.number in
    let few : n < 16 = omega arith in
    let here : n ≤ n = omega arith in
    let grouping = c.index-groupings-number.result in
    let mine = c.index-totals-number.result in
    own_groups c.args.lines.now c.args.masks.now c.args.found n c.loop-number.dealt.lists.items c.index-list.result.now
    c.as_slice-places.result.now few c.requires.found c.loop-number.invariant.dealt c.index-list.ensures
    c.as_slice-places.ensures.value grouping (vec_len (get_or c.loop-number.totals n mine).counts)
    (can_sum_here c.args.lines.now c.args.masks.now c.args.groupings.now n grouping c.requires.can_sum
    c.loop-number-test.true c.index-groupings-number.is)
    (sized_here c.args.groupings.now c.args.totals.now c.loop-number.totals n grouping mine c.requires.sizes
    c.loop-number-test.true c.index-groupings-number.is (c.loop-number.invariant.left n mine here))

pub loop-number-preserved : goal.loop-number-preserved
loop-number-preserved c =
    let n = c.loop-number.number in
    let mine = c.index-totals-number.result in
    let range = range_with_len c.args.found.from (c.args.found.to - c.args.found.from) in
    let adds = λ (k : ℕ) (q : Grouping) (old new : Totals). AddsPlaces c.args.lines.now q
    (taken c.args.lines.now c.args.masks.now k range) old new in
    let P : Grouping → Type 0 = λ q. adds n q (get_or c.loop-number.totals n mine) c.add_places.new.totals in
    let few : n < 16 = omega arith in
    let own = own_places c.args.lines.now c.args.masks.now c.args.found n c.loop-number.dealt.lists.items
    c.index-list.result.now c.as_slice-places.result.now few c.requires.found c.loop-number.invariant.dealt
    c.index-list.ensures c.as_slice-places.ensures.value in
    let Q : List ℕ → Type 0 = λ xs. AddsPlaces c.args.lines.now c.index-groupings-number.result xs
    (get_or c.loop-number.totals n mine) c.add_places.new.totals in
    let here = subst P c.index-groupings-number.is (subst Q own c.add_places.ensures.added) in
    let in_mid : n < length c.loop-number.totals = omega (arith, c.loop-number.invariant.all) in
    let in_old : n < length c.args.totals.now = omega (arith, c.requires.sizes.all) in
    record {
      lists = c.loop-number.invariant.lists;
      dealt = c.loop-number.invariant.dealt;
      groups = c.loop-number.invariant.groups;
      all = length-set c.loop-number.totals n c.add_places.new.totals ∙ c.loop-number.invariant.all;
      done = written_more adds c.args.groupings.now c.args.totals.now c.loop-number.totals n
          c.index-groupings-number.result mine c.add_places.new.totals c.loop-number-test.true in_mid in_old
          c.loop-number.invariant.done c.loop-number.invariant.left here;
      left = λ k t h. get_or-set_other c.loop-number.totals n k c.add_places.new.totals t (λ e. absurd (omega arith))
          ∙ c.loop-number.invariant.left k t (omega arith);
    }

pub returns-clause-added : goal.returns-clause-added
returns-clause-added c = λ k q t h. c.loop-number.invariant.done k q t (omega arith)

pub returns-clause-sizes : goal.returns-clause-sizes
returns-clause-sizes c =
    sizes_kept c.args.lines.now c.args.masks.now c.args.groupings.now
    (range_with_len c.args.found.from (c.args.found.to - c.args.found.from)) c.args.totals.now c.loop-number.totals
    (λ k q t h. c.loop-number.invariant.done k q t (omega arith))
    (c.loop-number.invariant.all ∙ sym c.requires.sizes.all) c.requires.sizes
