use Rattle.journal_file.proofs.WatchedLaws.{sync_keeps}
use Rattle.journal_file.proofs.watched_file.WatchedFileGrowingFile.sync.Goals as goal

pub returns-then-is_ok-clause-crash : goal.returns-then-is_ok-clause-crash
returns-then-is_ok-clause-crash g c =
    let f = c.args.self.now in
    sync_keeps f.parts.items f.count f.synced f.counted
