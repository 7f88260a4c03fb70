use Rattle.std.proofs.Common.{◌≡◌, ℕ, ◌-◌, ◌≤◌, arith, subst}
use Rattle.std.specs.List.{range_with_len}
use Rattle.scan_kernel.specs.Zones.{chunk_size}
use Rattle.scan_kernel.specs.Totals.{AddsBatch}
use Rattle.scan_kernel.proofs.BatchLaws.{batch_none, batch_on}
use Rattle.scan_kernel.proofs.range.add_range.Goals as goal

pub loop-at-preserved : goal.loop-at-preserved
loop-at-preserved c =
    let at = c.loop-at.at in
    let end = c.chunk_end-end.result in
    let old = c.loop-at.invariant in
    let inside : end ≤ c.args.to = c.chunk_end-end.ensures.within in
    let order : at ≤ end = omega (arith, c.chunk_end-end.ensures.on) in
    record {
      order = omega (arith, old.order);
      within = inside;
      room = c.add_chunk.ensures.room chunk_size old.room;
      sizes = c.add_chunk.ensures.sizes;
      added = batch_on c.args.input.lines.now c.args.input.masks.now c.args.input.groupings.now c.args.from at end
          c.args.totals.now
          c.loop-at.totals c.add_chunk.new.totals old.order order old.added c.add_chunk.ensures.added;
    }

pub returns-clause-added : goal.returns-clause-added
returns-clause-added c =
    let P : ℕ → Type 0 = λ e. AddsBatch c.args.input.lines.now c.args.input.masks.now c.args.input.groupings.now
    (range_with_len c.args.from (e - c.args.from)) c.args.totals.now c.loop-at.totals in
    let at_end : c.loop-at.at ≡ c.args.to = omega (arith, c.loop-at.invariant.within) in
    subst P at_end c.loop-at.invariant.added

pub loop-at-init : goal.loop-at-init
loop-at-init c =
    let P : ℕ → Type 0 = λ n. AddsBatch c.args.input.lines.now c.args.input.masks.now c.args.input.groupings.now
    (range_with_len c.args.from n) c.args.totals.now c.args.totals.now in
    let none : 0 ≡ c.args.from - c.args.from = omega arith in
    record {
      order = omega arith;
      within = omega arith;
      room = c.requires.room;
      sizes = c.requires.sizes;
      added = subst P none (batch_none c.args.input.lines.now c.args.input.masks.now c.args.input.groupings.now
          c.args.totals.now);
    }
