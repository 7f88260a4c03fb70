use Rattle.std.proofs.Common.{length, arith, ap}
use Rattle.shared_scan.proofs.prepare.prepare_question.Goals as goal

pub prepare_groups-requires-clause-four : goal.prepare_groups-requires-clause-four
prepare_groups-requires-clause-four c = omega (arith, ap length c.as_slice.ensures, c.requires.four)
