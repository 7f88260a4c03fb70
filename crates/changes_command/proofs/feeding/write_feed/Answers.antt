use Rattle.changes_command.proofs.FeedLaws.{as_of_file}
use Rattle.changes_command.proofs.feeding.write_feed.Goals as goal

pub returns-in-Err-clause-fault : goal.returns-in-Err-clause-fault
returns-in-Err-clause-fault g c =
    as_of_file c.args.source.base.value c.args.source.marks.now (g.U.UnreadDisk.holds c.args.source.file) c.args.asked.past
    c.args.asked.start c.in-Err.fault c.of_file.result c.of_file.ensures c.in-Err.ensures.fault
