use Rattle.std.proofs.Common.{◌≡◌, length, map, ap, sym, ◌∙◌, arith}
use Rattle.std.proofs.lemmas.List.{length-map}
use Rattle.run_command.proofs.RunLaws.{run_where}
use Rattle.run_command.proofs.run.speak_scripts.Goals as goal

pub run_opened-requires-clause-speakers : goal.run_opened-requires-clause-speakers
run_opened-requires-clause-speakers g c =
    let speakers = c.in_ok-speakers.speakers in
    let many : length speakers.items ≡ length c.args.scripts.items =
    sym (length-map speakers.items _) ∙ ap length c.in_ok-speakers.ensures in
    omega (arith, c.requires.scripts, many, speakers.ok.0, speakers.ok.1, c.args.scripts.ok.0, c.args.scripts.ok.1)

pub returns : goal.returns
returns g c =
    run_where (λ speaker. speaker.script) c.run_left.result (λ run. map (λ report. report.items) run.reports.items)
    (λ run. run.trace) _ c.in_ok-speakers.speakers.items c.args.scripts.items _ _ _ c.in_ok-speakers.ensures
    c.in_ok-streams.ensures c.run_left.ensures
