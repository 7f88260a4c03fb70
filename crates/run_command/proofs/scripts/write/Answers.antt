use Rattle.std.proofs.Common.{◌∙◌, sym}
use Rattle.std.specs.Io.KnownBytes.{Appends}
use Rattle.ssb_text.proofs.WrittenLaws.{part_of_short}
use Rattle.ssb_trace.specs.TraceText.{trace_text}
use Rattle.ssb_files.proofs.FlushedLaws.{appended_kept, appended_whole}
use Rattle.ssb_files.proofs.ResultLaws.{from_ok, from_err}
use Rattle.run_command.proofs.scripts.write.Goals as goal

pub returns-in-Err-clause-kept : goal.returns-in-Err-clause-kept
returns-in-Err-clause-kept g c =
    let written : Appends (g.T.Write.contents c.args.file.now) (g.T.Write.contents c.write_trace.new.writer)
    (trace_text c.args.run.now.trace)
    = from_ok c.write_trace.result _ c.write_trace.ensures.text (sym c.is_err.ensures.value ∙ c.if-is_err.false) in
    appended_whole _ _ _ (appended_kept _ _ _ _ written c.flush.ensures.bytes)

pub returns-in-Ok-clause-kept : goal.returns-in-Ok-clause-kept
returns-in-Ok-clause-kept g c =
    let written : Appends (g.T.Write.contents c.args.file.now) (g.T.Write.contents c.write_trace.new.writer)
    (trace_text c.args.run.now.trace)
    = from_ok c.write_trace.result _ c.write_trace.ensures.text (sym c.is_err.ensures.value ∙ c.if-is_err.false) in
    appended_kept _ _ _ _ written c.flush.ensures.bytes

pub returns-then-is_err-clause-kept : goal.returns-then-is_err-clause-kept
returns-then-is_err-clause-kept g c = part_of_short _ _ _
    (from_err c.write_trace.result _ c.write_trace.ensures.fault (sym c.is_err.ensures.value ∙ c.if-is_err.true))
