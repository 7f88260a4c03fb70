-- What a file shows that was just opened.
use Rattle.std.specs.Prelude.{◌≡◌, []}
use Rattle.journal_file.specs.declared.file_disk.UnreadFile.{UnreadFile}

-- nothing was read of it, and no read has failed
pub record IsFresh {O : Type 0} (f : UnreadFile O) : Type 0 where
  pub unread : f.parts.items ≡ []
  pub whole : f.faults.items ≡ []
