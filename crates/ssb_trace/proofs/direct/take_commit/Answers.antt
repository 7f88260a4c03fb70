use Rattle.std.proofs.Common.{sym, subst}
use Rattle.row_store.specs.History.{CommitRecord}
use Rattle.ssb_script.specs.Requests.{IsWholeRequest, Refresh}
use Rattle.ssb_trace.specs.Direct.{BeginsWithLines}
use Rattle.ssb_trace.specs.Entries.{lines_of_commit}
use Rattle.ssb_trace.proofs.DirectLaws.{begins_commit}
use Rattle.ssb_trace.proofs.direct.take_commit.Goals as goal

pub returns : goal.returns
returns c =
    let text = c.args.text.now in
    let behind = c.in_ok-actions.behind.now in
    subst (λ (commit : CommitRecord). IsWholeRequest (Refresh commit.actions)
    × BeginsWithLines text (lines_of_commit commit) behind) (sym c.in_ok-commit.ensures.0) (
      (c.in_ok-commit.ensures.1, c.in_ok-actions.ensures.0),
      begins_commit c.in_ok-actions.actions.items c.in_ok-number.ensures (sym c.in_ok-client.ensures)
          c.in_ok-actions.ensures.1,
    )
