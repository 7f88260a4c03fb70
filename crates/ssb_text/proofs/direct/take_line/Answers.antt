use Rattle.std.proofs.Common.{sym}
use Rattle.ssb_text.proofs.DirectLaws.{begins_with_line}
use Rattle.ssb_text.proofs.direct.take_line.Goals as goal

pub returns-in-Ok : goal.returns-in-Ok
returns-in-Ok c =
    rw c.in-Ok.ensures.row (begins_with_line _ _ _ c.in_ok-fields.ensures (sym c.in-Ok.ensures.fault))
