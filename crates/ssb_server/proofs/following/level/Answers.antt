use Rattle.std.proofs.Common.{◌++◌}
use Rattle.ssb_server.proofs.SnapshotLaws.{renewed_follows, again_follows}
use Rattle.ssb_server.proofs.following.level.Goals as goal

pub returns-in-Ok : goal.returns-in-Ok
returns-in-Ok g c = again_follows c.args.writer.base
    (c.args.writer.published ++ c.args.writer.pending ++ c.args.commits.items) c.renew-writer.result.0
    c.publish.result.1 c.publish.result.0 c.publish.ensures.published c.publish.ensures.unchanged
    (renewed_follows c.args.writer c.args.commits.items c.renew-writer.result.1 c.renew-writer.result.0
    c.renew-writer.ensures)

pub returns-in-Err : goal.returns-in-Err
returns-in-Err g c = renewed_follows c.args.writer c.args.commits.items c.renew-writer.result.1 c.renew-writer.result.0
    c.renew-writer.ensures
