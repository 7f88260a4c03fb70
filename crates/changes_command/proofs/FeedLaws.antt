-- What was written of a stream, and what its faults tell.
use Rattle.std.proofs.Common.{◌≡◌, ℕ, List, Option, arith, subst}
use Rattle.journal_opening.specs.Kept.{IsKnown}
use Rattle.journal_opening.specs.Marks.{AreMarks, HaveChecksums}
use Rattle.ssb_base.specs.Base.{Tables}
use Rattle.ssb_files.specs.Loaded.{IsLoadedToServe}
use Rattle.ssb_files.specs.declared.job.JobFault.{JobFault}
use Rattle.ssb_files.specs.declared.job.JobFault.TheVariants as job
use Rattle.ssb_journal.specs.declared.head.TableMark.{TableMark}
use Rattle.ssb_schema.specs.declared.table.Table.{Table}
use Rattle.changes_command.specs.Fed.{EndsWhole, Feeds, IsFeedRefusal, TellsFeedFault, TellsStreamFault}
use Rattle.changes_command.specs.Written.{IsFileRefusal, IsWritten, TellsFileFault}
use Rattle.changes_command.specs.declared.fault.ChangesRefusal.{ChangesRefusal}
use Rattle.changes_command.specs.declared.feed_fault.FeedRefusal.{FeedRefusal}
use Rattle.changes_command.specs.declared.format.ChangesFormat.{ChangesFormat}
use Rattle.changes_command.specs.declared.signed.ChangesStart.{ChangesStart}

-- what is told of a file is told of a stream
pub as_of_file : (base : Tables) (marks : List TableMark) (known : Option (List ℕ)) (past : ℕ) (start : ChangesStart)
    (why : JobFault ChangesRefusal) (told : JobFault FeedRefusal)
    → ((b : Tables) (m : List TableMark) (stream : List ℕ) (p : ℕ) (s : ChangesStart)
    → TellsFileFault b m stream p s why → TellsStreamFault b m stream p s told)
    → IsFileRefusal base marks known past start why → IsFeedRefusal base marks known past start told
as_of_file base marks known past start why told same is = record {
  stream = is.file;
  is_stream = is.is_file;
  told = same base marks is.file past start is.told;
}

-- over the tables that were loaded
pub feeds_of : (format : ChangesFormat) (texts : Table → List ℕ) (known held_known : Option (List ℕ)) (base held : Tables) (marks : List TableMark)
    (stream : List ℕ) (past : ℕ) (start : ChangesStart) (old new : Option (List ℕ)) → IsLoadedToServe texts base → AreMarks base marks
    → HaveChecksums texts marks → held_known ≡ known → IsKnown held_known stream → held ≡ base → EndsWhole stream
    → IsWritten held marks stream past start format old new → Feeds texts known past start format old new
feeds_of format texts known held_known base held marks stream past start old new loaded marked checked whose is_stream same whole
    written = record {
      base = base;
      loaded = loaded;
      marks = marks;
      marked = marked;
      checked = checked;
      holds = record {
        stream = stream;
        is_stream = subst (λ (k : Option (List ℕ)). IsKnown k stream) whose is_stream;
        whole = whole;
        is = subst (λ (t : Tables). IsWritten t marks stream past start format old new) same written;
      };
    }

-- what a fault of a stream tells of the texts
pub feed_fault_tells : (texts : Table → List ℕ) (known held_known : Option (List ℕ)) (base held : Tables)
    (marks : List TableMark) (past : ℕ) (start : ChangesStart) (why : JobFault FeedRefusal) → IsLoadedToServe texts base
    → AreMarks base marks → HaveChecksums texts marks → held_known ≡ known → held ≡ base
    → IsFeedRefusal held marks held_known past start why → TellsFeedFault texts known past start why
feed_fault_tells texts known held_known base held marks past start (job.Program why) loaded marked checked whose same is =
    λ one. absurd (omega (arith, is.told, one))
feed_fault_tells texts known held_known base held marks past start (job.Found why) loaded marked checked whose same is = record {
  base = base;
  loaded = loaded;
  marks = marks;
  marked = marked;
  checked = checked;
  holds = subst (λ (t : Tables). IsFeedRefusal t marks known past start (job.Found why)) same
      (subst (λ (k : Option (List ℕ)). IsFeedRefusal held marks k past start (job.Found why)) whose is);
}
