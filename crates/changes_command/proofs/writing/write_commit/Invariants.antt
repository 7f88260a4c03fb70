use Rattle.std.proofs.Common.{take}
use Rattle.std.specs.Io.KnownBytes.{Appends}
use Rattle.row_store.specs.History.{lines_after}
use Rattle.changes_command.specs.Signed.{changes_by_all}
use Rattle.changes_command.specs.SignedText.{lines_text}
use Rattle.changes_command.proofs.writing.write_commit.Given as goal

abbrev pub invariant-loop-place : goal.invariant-loop-place
invariant-loop-place g l =
    Appends (g.W.Write.contents l.fn.out) (g.W.Write.contents l.out)
    (lines_text l.format (changes_by_all l.commit (lines_after l.store.base l.store.log) (take l.place l.actions)))
