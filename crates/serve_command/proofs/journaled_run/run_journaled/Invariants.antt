use Rattle.std.proofs.Common.{Some}
use Rattle.serve_command.specs.BegunFiles.{disk_of}
use Rattle.serve_command.specs.JournaledRun.{begun_on}
use Rattle.serve_command.proofs.journaled_run.run_journaled.Given as goal

abbrev pub ghosts-run_sessions : goal.ghosts-run_sessions
ghosts-run_sessions g a = record {
  reader = Some a.begun.reader;
  begun = begun_on g.D.Disk.moment g.D.Disk.left_since (disk_of a.begun.file) a.begun.count;
}
