use Rattle.std.proofs.Common.{◌≡◌, ◌∙◌, [], ◌∷◌, ◌++◌, ap, rules}
use Rattle.run_command.proofs.DemoLaws.{one_made, report_made}
use Rattle.run_command.proofs.small_run.report_over.Goals as goal

pub only-requires : goal.only-requires
only-requires g c =
    let of_one : c.push.new.self.items ≡ c.args.script ∷ [] =
    c.in_ok-push.ensures.items ∙ ap (λ scripts. scripts ++ c.args.script ∷ []) c.new-scripts.ensures.items in
    c.in-Ok-serve_scripts.run'.reports.ok.0 ∙ one_made _ _ _ _ c.args.script _ _ c.in-Ok-serve_scripts.ensures.served
    of_one

pub returns-in-Ok-serve_scripts-clause-report : goal.returns-in-Ok-serve_scripts-clause-report
returns-in-Ok-serve_scripts-clause-report g c =
    let of_one : c.push.new.self.items ≡ c.args.script ∷ [] =
    c.in_ok-push.ensures.items ∙ ap (λ scripts. scripts ++ c.args.script ∷ []) c.new-scripts.ensures.items in
    let shared : c.in_ok-base.base.value ≡ c.args.base = search rules in
    report_made _ _ c.only.result _ c.args.base _ c.args.script _ _ c.in-Ok-serve_scripts.ensures.served
    (c.in-Ok.ensures.base ∙ shared) of_one c.only.ensures
