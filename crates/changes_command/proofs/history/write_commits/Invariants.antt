use Rattle.std.proofs.Common.{◌≡◌, ◌+◌, ◌++◌, length, take}
use Rattle.std.specs.Io.KnownBytes.{Appends}
use Rattle.row_store.specs.History.{lines_after}
use Rattle.changes_command.specs.Signed.{asked_of, changes_behind}
use Rattle.changes_command.specs.SignedText.{lines_text}
use Rattle.changes_command.proofs.history.write_commits.Given as goal

-- the first commits were made again, and what they change was written
abbrev pub invariant-loop-place : goal.invariant-loop-place
invariant-loop-place g l = record {
  written : Appends (g.W.Write.contents l.fn.out) (g.W.Write.contents l.out) (lines_text l.asked.format (asked_of l.asked.start
      (changes_behind (l.asked.past + length l.fn.store.log) (lines_after l.fn.store.base l.fn.store.log)
      (take l.place l.commits))));
  store : l.store ≡ record { base = l.fn.store.base; log = l.fn.store.log ++ take l.place l.commits };
}
