use Rattle.std.proofs.Common.{rules, nat_eq}
use Rattle.std.specs.HashMap.{get}
use Rattle.row_store.proofs.IndexedLaws.{next_apart, next_located}
use Rattle.row_store.proofs.index.place_runs.Goals as goal

pub loop-first-preserved : goal.loop-first-preserved
loop-first-preserved c = record {
  within = c.run_end-end.ensures.within;
  located = next_located c.args.lines.now c.args.index.now c.requires.within c.requires.sorted c.loop-first.first
      c.run_end-end.result c.run_end-end.ensures.later c.run_end-end.ensures.within c.run_end-end.ensures.alike
      c.loop-first.invariant.apart
      (get nat_eq c.loop-first.orders) (get nat_eq c.insert.new.self) c.key_at-key.result (search rules)
      (c.requires.orders c.key_at-key.result) c.in_ok-insert.ensures.updates.0 c.loop-first.invariant.located;
  apart = next_apart c.args.lines.now c.args.index.now c.requires.within c.requires.sorted c.loop-first.first
      c.run_end-end.result c.run_end-end.ensures.later c.run_end-end.ensures.within c.run_end-end.ensures.alike
      c.loop-first.invariant.apart c.run_end-end.ensures.ends;
}
