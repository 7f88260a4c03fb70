use Rattle.std.proofs.Common.{◌∙◌, IsUtf8, subst, sym}
use Rattle.stream_sessions.proofs.FaultTextLaws.{fault_is_text}
use Rattle.stream_sessions.proofs.fault_line.write_fault_line.Goals as goal

pub write_text-requires : goal.write_text-requires
write_text-requires g c =
    subst IsUtf8 (sym (c.as_slice.ensures.value ∙ c.in-Ok.ensures)) (fault_is_text c.args.fault)

pub returns-in-Ok : goal.returns-in-Ok
returns-in-Ok g c = rw (c.as_slice.ensures.value, c.in-Ok.ensures) at c.write_text.ensures
