use Rattle.std.proofs.Common.{arith}
use Rattle.ssb_schema.proofs.LimitLaws.{line_within}
use Rattle.ssb_schema.proofs.line.Line.packed.Goals as goal

pub overflow_cast-result : goal.overflow_cast-result
overflow_cast-result c = omega (arith, (line_within _ c.into_fields-fields.ensures.sound).extended_price)

pub overflow_cast-result-2 : goal.overflow_cast-result-2
overflow_cast-result-2 c = omega (arith, (line_within _ c.into_fields-fields.ensures.sound).order_total_price)

pub overflow_cast-result-3 : goal.overflow_cast-result-3
overflow_cast-result-3 c = omega (arith, (line_within _ c.into_fields-fields.ensures.sound).revenue)

pub overflow_cast-result-4 : goal.overflow_cast-result-4
overflow_cast-result-4 c = omega (arith, (line_within _ c.into_fields-fields.ensures.sound).supply_cost)

pub overflow_cast-result-5 : goal.overflow_cast-result-5
overflow_cast-result-5 c = omega (arith, (line_within _ c.into_fields-fields.ensures.sound).line_number)

pub overflow_cast-result-6 : goal.overflow_cast-result-6
overflow_cast-result-6 c = omega (arith, (line_within _ c.into_fields-fields.ensures.sound).quantity)

pub overflow_cast-result-7 : goal.overflow_cast-result-7
overflow_cast-result-7 c = omega (arith, (line_within _ c.into_fields-fields.ensures.sound).discount)

pub overflow_cast-result-8 : goal.overflow_cast-result-8
overflow_cast-result-8 c = omega (arith, (line_within _ c.into_fields-fields.ensures.sound).tax)
