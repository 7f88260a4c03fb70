use Rattle.std.proofs.Common.{◌∙◌, arith}
use Rattle.std.proofs.lemmas.Iterator.Consumers.{YieldsList-so_far}
use Rattle.std.proofs.lemmas.Iterator.Adapters.{YieldsList-from_vec}
use Rattle.ssb_server.proofs.SnapshotLaws.{prefix_yielded}
use Rattle.ssb_server.proofs.snapshot.append_all.Goals as goal

pub returns-in-Err : goal.returns-in-Err
returns-in-Err g c =
    let gives = c.into_iter-commit-iterator.ensures.into_iter_gives in
    record {
      kept = c.loop-commit.yielded;
      first = prefix_yielded c.args.commits.items c.loop-commit.yielded
          (YieldsList-so_far (YieldsList-from_vec c.args.commits.items gives.0 (omega (arith, gives.1)))
          c.loop-commit.yielded _ c.loop-commit.yielded_by);
      now = c.in-Err.ensures.unchanged ∙ c.loop-commit.invariant;
    }
