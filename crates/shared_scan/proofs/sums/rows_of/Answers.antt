use Rattle.std.proofs.Common.{ℕ, ◌<◌, length, arith, ◌∙◌}
use Rattle.std.specs.Prelude.{ℤ, pos, slice_index, slice_index_or}
use Rattle.scan_kernel.proofs.ScanLaws.{answers_lines}
use Rattle.scan_kernel.specs.Groups.{counts_of, size_of}
use Rattle.shared_scan.proofs.sums.rows_of.Goals as goal

pub returns : goal.returns
returns c = λ question is blank base lines sound known apart lists counts sums.
    let totals = c.args.totals.now in
    let columns = c.args.columns.now in
    let count : ℕ → ℕ = λ g. slice_index totals.counts.items g in
    let sum : ℕ → ℤ = λ g. slice_index_or c.in_ok-sums.sums.items g (pos 0) in
    let all = rw (c.deref-3.ensures.value, c.deref-4.ensures.value) at c.in_ok-rows.ensures in
    let right = answers_lines question c.args.plan.now columns (length totals.counts.items) count sum
    c.in_ok-rows.rows.items is (omega (arith, c.requires.counts, totals.counts.ok)) all in
    let each = rw (c.deref.ensures.value, c.deref-2.ensures.value) at c.in_ok-sums.ensures.each in
    let inside : (g : ℕ) → g < size_of (counts_of c.args.columns.now) → g < length totals.gains.items =
    λ g below. omega (arith, below, c.requires.counts, totals.all_gains, totals.gains.ok) in
    right blank base lines sound known apart lists counts (λ g below. each g (inside g below) ∙ sums g below)
