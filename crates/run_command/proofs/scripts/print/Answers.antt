use Rattle.std.proofs.Common.{◌∙◌, map, sym}
use Rattle.std.specs.Io.KnownBytes.{Appends}
use Rattle.ssb_text.proofs.WrittenLaws.{part_of_short}
use Rattle.run_command.specs.Served.{run_text}
use Rattle.ssb_files.proofs.FlushedLaws.{appended_kept, appended_whole}
use Rattle.ssb_files.proofs.ResultLaws.{is_ok_of, is_err_of}
use Rattle.run_command.proofs.scripts.print.Goals as goal

pub returns-in-Err-clause-printed : goal.returns-in-Err-clause-printed
returns-in-Err-clause-printed g c =
    let written : Appends (g.W.Write.contents c.args.out.now) (g.W.Write.contents c.write_run.new.out)
    (run_text (map (λ report. report.items) c.args.run.now.reports.items) c.args.run.now.trace)
    = is_ok_of c.write_run.result _ _ c.write_run.ensures (sym c.is_err.ensures.value ∙ c.if-is_err.false) in
    appended_whole _ _ _ (appended_kept _ _ _ _ written c.flush.ensures.bytes)

pub returns-in-Ok-clause-printed : goal.returns-in-Ok-clause-printed
returns-in-Ok-clause-printed g c =
    let written : Appends (g.W.Write.contents c.args.out.now) (g.W.Write.contents c.write_run.new.out)
    (run_text (map (λ report. report.items) c.args.run.now.reports.items) c.args.run.now.trace)
    = is_ok_of c.write_run.result _ _ c.write_run.ensures (sym c.is_err.ensures.value ∙ c.if-is_err.false) in
    appended_kept _ _ _ _ written c.flush.ensures.bytes

pub returns-then-is_err-clause-printed : goal.returns-then-is_err-clause-printed
returns-then-is_err-clause-printed g c = part_of_short _ _ _
    (is_err_of c.write_run.result _ _ c.write_run.ensures (sym c.is_err.ensures.value ∙ c.if-is_err.true))
