use Rattle.std.proofs.Common.{◌≡◌, ◌∷◌, [], Option, Some, map, ap, ◌∙◌}
use Rattle.std.specs.Option.{option_to_list}
use Rattle.ssb_script.specs.Requests.{Refresh, request_of}
use Rattle.ssb_script.specs.Steps.{asked}
use Rattle.ssb_script.specs.declared.request.Request.{Request}
use Rattle.ssb_trace.proofs.CommitLaws.{takes_refresh}
use Rattle.ssb_trace.proofs.unfinished.step_of_commit.Goals as goal

pub returns-in-Some-Refresh : goal.returns-in-Some-Refresh
returns-in-Some-Refresh c = λ number old line inside stands follows.
    let arm = c.in-Some-Refresh in
    let one : asked c.args.step ≡ Refresh arm.refresh.value ∷ [] =
    ap (λ (b : Option Request). map request_of (option_to_list b)) (arm.is ∙ ap Some arm.field-0-is) in
    takes_refresh number old line c.args.step inside stands follows c.args.client arm.refresh.value one
