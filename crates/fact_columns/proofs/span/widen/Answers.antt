use Rattle.std.proofs.Common.{arith}
use Rattle.fact_columns.proofs.PlaceLaws.{lies_behind}
use Rattle.fact_columns.proofs.span.widen.Goals as goal

pub returns-clause-own : goal.returns-clause-own
returns-clause-own c = λ place from to. record {
  number = place;
  covers = c.widen_by_key.ensures.own place (from, to);
  lies = lies_behind c.args.spans.now.loaded.value place (omega (arith, from, c.requires.behind));
}
