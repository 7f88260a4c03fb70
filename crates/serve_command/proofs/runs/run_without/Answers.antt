use Rattle.std.proofs.Common.{◌∙◌, sym}
use Rattle.serve_command.proofs.runs.run_without.Goals as goal

pub returns-clause-left : goal.returns-clause-left
returns-clause-left g c =
    c.in-Ok.run'.left.ok.0 ∙ c.in-Ok.ensures.served.one_left ∙ sym c.args.speakers.ok.0
