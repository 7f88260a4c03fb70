use Rattle.std.proofs.Common.{◌≡◌, ◌++◌, take}
use Rattle.ssb_serving.specs.Members.{IsStill}
use Rattle.serve_command.specs.Seated.{AreSeated}
use Rattle.serve_command.proofs.remaking.remake.Given as goal

-- the commits so far were made again
abbrev pub invariant-loop-commit : goal.invariant-loop-commit
invariant-loop-commit g l = record {
  reader : IsStill l.initial.reader l.reader;
  seen : l.reader.seen ≡ l.initial.reader.seen ++ take l.commit-index l.commits;
  clients : AreSeated l.server l.reader.seen l.clients;
}
