use Rattle.std.proofs.Common.{◌∙◌, ◌++◌, ap, subst, sym}
use Rattle.query_command.specs.ReportsAsked.{AreReported}
use Rattle.query_command.proofs.asking.reports_of.Goals as goal

pub returns : goal.returns
returns c = λ answered are.
    let made = c.in_ok-push_reports.ensures answered are in
    subst (AreReported answered c.args.after c.args.asked.now)
    (sym (made.1 ∙ ap (λ reports. reports ++ made.0) c.new-reports.ensures.items)) made.2
