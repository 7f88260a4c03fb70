use Rattle.std.proofs.Common.{List, subst, sym}
use Rattle.journal_file.specs.Watched.{AreCounted}
use Rattle.journal_file.specs.declared.watched_file.ReadPart.{ReadPart}
use Rattle.journal_file.proofs.WatchedLaws.{read_counted}
use Rattle.journal_file.proofs.watched_file.WatchedFileGrowingFile.read_behind.Goals as goal

pub invariant_of-self-2 : goal.invariant_of-self-2
invariant_of-self-2 g c =
    let f = c.args.self.now in
    let part : ReadPart = record { at = c.args.at; bytes = c.truncate.new.self } in
    record {
      counted =
          subst (λ (parts : List ReadPart). AreCounted parts c.in-Some.count f.synced) (sym c.push.ensures)
          (read_counted f.parts.items part f.count c.in-Some.count f.synced f.counted c.requires c.in-Some.ensures.1);
    }
