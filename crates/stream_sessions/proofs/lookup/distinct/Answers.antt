use Rattle.std.proofs.Common.{◌∙◌, ap, arith, map, sym}
use Rattle.std.proofs.Math.ListN.{drop_of_length-le}
use Rattle.ssb_answers.specs.Ordered.{in_order}
use Rattle.ssb_questions.specs.Value.{value_cmp}
use Rattle.stream_sessions.proofs.lookup.distinct.Goals as goal

pub loop-left-init : goal.loop-left-init
loop-left-init g c = (
  omega arith,
  c.new-values.ensures.empty
      ∙ sym (ap (λ t. in_order value_cmp (map (g.F.QueryFields.value_of c.args.place) t))
      (drop_of_length-le c.args.rows.now (omega arith))),
)
