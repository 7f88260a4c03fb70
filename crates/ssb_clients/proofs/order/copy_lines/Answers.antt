use Rattle.std.proofs.Common.{arith, sym}
use Rattle.std.proofs.lemmas.Grind.{common_steps}
use Rattle.ssb_schema.proofs.FirstFaultLaws.{take_with_element}
use Rattle.ssb_clients.proofs.order.copy_lines.Goals as goal

pub loop-place-preserved : goal.loop-place-preserved
loop-place-preserved c =
    let more = take_with_element c.args.order.now c.loop-place.place c.in-Some.line.now (sym c.in-Some.ensures) in
    grind (arith, common_steps, more)
