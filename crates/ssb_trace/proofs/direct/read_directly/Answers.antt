use Rattle.std.proofs.Common.{◌≡◌, [], arith}
use Rattle.std.proofs.lemmas.Bool.Decides.{eqb_tells}
use Rattle.ssb_text.proofs.DirectLaws.{no_bytes}
use Rattle.std.specs.List.{All}
use Rattle.std.proofs.lemmas.List.Elements.{All-nil}
use Rattle.ssb_script.specs.Requests.{IsWholeRequest, Refresh}
use Rattle.ssb_trace.proofs.DirectLaws.{begins_none, commits_more, taken_all}
use Rattle.ssb_trace.proofs.direct.read_directly.Goals as goal

pub loop-rest-init : goal.loop-rest-init
loop-rest-init c =
    rw c.new-commits.ensures.items (record {
      unmarked = c.may_be_marked.ensures c.if-may_be_marked.false;
      begins = begins_none c.args.text.now;
      whole = All-nil (λ commit. IsWholeRequest (Refresh commit.actions));
    })

pub loop-rest-preserved : goal.loop-rest-preserved
loop-rest-preserved c =
    rw c.in_ok-push.ensures (commits_more c.in_ok-commit.commit c.loop-rest.invariant c.in_ok-commit.ensures.0
    c.in_ok-commit.ensures.1)

pub returns : goal.returns
returns c =
    let none : c.loop-rest.rest.now ≡ [] = grind (arith, no_bytes, eqb_tells) in
    taken_all c.loop-rest.invariant none
