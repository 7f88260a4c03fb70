use Rattle.std.proofs.Common.{◌≡◌, Err, map, rules}
use Rattle.std.specs.Option.{option_and_then}
use Rattle.run_command.specs.Served.{AreToldInPart}
use Rattle.ssb_files.proofs.FlushedLaws.{nothing_part}
use Rattle.run_command.proofs.scripts.tell_run.Goals as goal

pub returns-in_err-print-clause-part : goal.returns-in_err-print-clause-part
returns-in_err-print-clause-part g c =
    let is : c.from_residual.result ≡ Err c.in_err-print.field-0.0 = search rules in
    let here : AreToldInPart (g.W.Write.contents c.args.out.now) (g.W.Write.contents c.print.new.out)
    (option_and_then g.T.Write.contents c.args.file.now) (option_and_then g.T.Write.contents c.args.file.now)
    (map (λ report. report.items) c.args.run.now.reports.items) c.args.run.now.trace
    = record { printed = c.in_err-print.ensures.printed; kept = nothing_part _ _ } in
    rw is here
