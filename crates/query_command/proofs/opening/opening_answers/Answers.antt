use Rattle.std.proofs.Common.{◌∙◌, [], map, ap}
use Rattle.query_command.specs.Reported.{opened}
use Rattle.shared_scan.proofs.LoadedLaws.{loaded_base, loaded_stands}
use Rattle.query_command.proofs.OpeningLaws.{opened_rows}
use Rattle.shared_scan.specs.Answers.{answers_after}
use Rattle.ssb_files.proofs.ResultLaws.{if_ok_from}
use Rattle.query_command.proofs.opening.opening_answers.Goals as goal

pub returns : goal.returns
returns g c =
    let base = c.args.sourced.base in
    let after = c.args.sourced.after in
    let state = c.in_ok-columns.ensures.loaded in
    let rows = c.in_ok-rows.ensures [] (loaded_stands c.in_ok-columns.columns base state) in
    if_ok_from c.answers_of.result _ _ c.answers_of.ensures
    (λ answers are. are ∙ ap (map (opened after)) (rows
    ∙ ap (λ base. answers_after base [] c.args.questions.now) (loaded_base c.in_ok-columns.columns base state))
    ∙ opened_rows base after c.args.questions.now)
