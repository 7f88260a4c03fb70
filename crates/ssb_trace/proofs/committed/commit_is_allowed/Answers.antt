use Rattle.std.proofs.Common.{◌≡◌, ◌∙◌, ap, None, List, All, subst}
use Rattle.std.specs.List.{AllByRecursion}
use Rattle.row_store.specs.History.{CommitRecord}
use Rattle.ssb_schema.specs.Refreshes.{refresh_fault}
use Rattle.ssb_schema.specs.declared.refresh.Action.{Action}
use Rattle.ssb_script.specs.Requests.{IsWholeAction}
use Rattle.ssb_trace.specs.Allowed.{IsAllowedAction}
use Rattle.ssb_trace.proofs.committed.commit_is_allowed.Goals as goal

pub returns : goal.returns
returns c = λ client.
    let commit = c.args.commit.now in
    let held = ap (λ (r : CommitRecord). r.actions) c.commit.view_is in
    let sound = c.deref.ensures ∙ held in
    let actions = c.actions.ensures.actions ∙ c.deref-2.ensures ∙ held in
    record {
      client = client;
      whole = (
        subst (λ (actions : List Action). refresh_fault actions ≡ None) sound c.soundness.ensures,
        subst (All IsWholeAction) actions c.actions_are_allowed.ensures.whole,
      );
      actions = subst (AllByRecursion IsAllowedAction) actions c.actions_are_allowed.ensures.allowed;
    }
