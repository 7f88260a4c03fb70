use Rattle.ssb_server.proofs.SnapshotLaws.{first_follows, renews}
use Rattle.ssb_server.proofs.snapshot.renew.Goals as goal

pub returns-in-Ok : goal.returns-in-Ok
returns-in-Ok g c = renews _ _ _ _ _ c.in-Ok.ensures c.publish_pending.ensures

pub returns-in-Err : goal.returns-in-Err
returns-in-Err g c = first_follows _ _ _ c.in-Err.ensures
